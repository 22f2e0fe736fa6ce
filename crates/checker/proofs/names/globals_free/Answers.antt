use Rattle.std.proofs.Common.{◌≡◌, ℕ, ◌+◌, ◌*◌, Option, sym, ap, ◌∙◌}
use Rattle.xi.specs.declared.rule.Rule.TheVariants.{Taken}
use Rattle.sheet.specs.Outcome.{bad}
use Rattle.sheet.specs.Sheets.{Decoded}
use Rattle.checker.specs.Checked.{no_global, global_name, globals_free}
use Rattle.checker.specs.Repeats.{repeated, fails_at}
use Rattle.checker.proofs.Searches.{tests-repeated, repeated-within}
use Rattle.checker.proofs.names.globals_free.Goals as goal

free-are : (D : Decoded) (o : Option ℕ) → repeated global_name D.program.globals ≡ o → globals_free D ≡ fails_at Taken (λ i. D.globals_at + 12 * i) o
free-are D o e = tests-repeated no_global Taken (λ i. D.globals_at + 12 * i) D.program.globals global_name ∙ ap (fails_at Taken (λ i. D.globals_at + 12 * i)) e

pub global_offset-requires : goal.global_offset-requires
global_offset-requires c = repeated-within global_name _ _ (ap (repeated global_name) (sym c.globals.ensures) ∙ sym c.repeated.ensures ∙ c.in-Some.is)

pub returns-in-None : goal.returns-in-None
returns-in-None c = free-are c.args.sheet.now _ (ap (repeated global_name) (sym c.globals.ensures) ∙ sym c.repeated.ensures ∙ c.in-None.is)

pub returns-in-Some : goal.returns-in-Some
returns-in-Some c =
    free-are c.args.sheet.now _ (ap (repeated global_name) (sym c.globals.ensures) ∙ sym c.repeated.ensures ∙ c.in-Some.is)
    ∙ ap (bad Taken) (sym c.global_offset.ensures)
