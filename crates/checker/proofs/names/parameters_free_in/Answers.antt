use Rattle.std.proofs.Common.{◌≡◌, ℕ, Bool, true, false, not, ◌&&◌, ◌||◌, List, get_or, take, sym, refl, ap, ◌∙◌}
use Rattle.xi.specs.declared.program.GlobalVariable.{GlobalVariable}
use Rattle.xi.specs.declared.program.Parameter.{Parameter}
use Rattle.xi.specs.declared.rule.Rule.TheVariants.{Taken}
use Rattle.sheet.specs.Outcome.{held}
use Rattle.checker.specs.Checked.{has_name, global_name, parameter_name, no_parameter, parameter_free}
use Rattle.sheet.proofs.Steps.{step-good}
use Rattle.checker.proofs.names.parameters_free_in.Goals as goal

-- neither of two tests
neither : (a b : Bool) → not (a || b) ≡ (not a && not b)
neither true b = refl
neither false b = refl

-- t says whether the name of parameter j is taken
free_where : (gs : List GlobalVariable) (ps : List Parameter) (p j : ℕ) (t : Bool) → t ≡ (has_name global_name gs (get_or ps j no_parameter).name || has_name parameter_name (take j ps) (get_or ps j no_parameter).name) → parameter_free gs ps p j ≡ held (not t) Taken p
free_where gs ps p j t e = ap (λ b. held b Taken p) (sym (neither _ _)) ∙ ap (λ b. held (not b) Taken p) (sym e)

pub loop-j-preserved : goal.loop-j-preserved
loop-j-preserved c =
    let free = free_where c.args.globals.now c.args.parameters.now c.args.at c.loop-j.j _ c.is_taken-taken.ensures in
    step-good (λ j _. parameter_free c.args.globals.now c.args.parameters.now c.args.at j) _ _ tt c.loop-j-test.true tt (free ∙ c.in_ok-hold.ensures.said) ∙ c.loop-j.invariant
