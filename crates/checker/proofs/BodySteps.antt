-- The steps of a function's body.
use Rattle.std.proofs.Common.{◌≡◌, ℕ, Bool, false, ◌||◌, List, [], map, sym, ap, ◌∙◌}
use Rattle.xi.specs.declared.node.Ty.{Ty}
use Rattle.xi.specs.declared.program.Function.{Function}
use Rattle.xi.specs.declared.program.Parameter.{Parameter}
use Rattle.xi.specs.declared.rule.Rule.TheVariants.{Return}
use Rattle.xi.specs.Program.{items_of}
use Rattle.sheet.specs.Outcome.{good, then, held}
use Rattle.sheet.specs.Sheets.{Decoded}
use Rattle.sheet.proofs.Outcomes.{then_good}
use Rattle.xi.specs.Typing.{Scope, binding, pushed, numbers_of}
use Rattle.checker.specs.Trees.{offset_of}
use Rattle.checker.specs.Walk.{is_empty, after_of, ends_of}
use Rattle.checker.specs.Checked.{body_held}

module _
    (D : Decoded) (F : Function) (ts : List Ty) (ps : List Parameter) (Γ Δ : Scope)
    (gives : ts ≡ items_of D.program.results F.results) (takes : ps ≡ items_of D.program.parameters F.parameters)
    (scope : Γ ≡ pushed (map (λ (p : Parameter). binding p.name p.ty) ps) [])
    (after : after_of D (numbers_of ts) false Γ F.body ≡ good Δ)
  where
    opened : body_held D F ≡ held (is_empty (numbers_of ts) || ends_of D.program F.body) Return (offset_of D F.body)
    opened =
        (λ j. then (after_of D (numbers_of (sym gives j)) false (pushed (map (λ (p : Parameter). binding p.name p.ty) (sym takes j)) []) F.body) (λ _. held (is_empty (numbers_of (sym gives j)) || ends_of D.program F.body) Return (offset_of D F.body)))
        ∙ then_good _ (ap (λ Θ. after_of D (numbers_of ts) false Θ F.body) (sym scope) ∙ after)

    -- h is what is tested at p: that there are no results, or that the body ends
    pub body-ends : (h : Bool) (p : ℕ) → h ≡ (is_empty (numbers_of ts) || ends_of D.program F.body) → p ≡ offset_of D F.body → held h Return p ≡ body_held D F
    body-ends h p is at = sym (opened ∙ (λ j. held (sym is j) Return (sym at j)))
