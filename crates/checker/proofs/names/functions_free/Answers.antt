use Rattle.std.proofs.Common.{◌≡◌, ℕ, List, map, Option, slice_index, sym, ap, ◌∙◌}
use Rattle.xi.specs.declared.rule.Rule.TheVariants.{Taken}
use Rattle.sheet.specs.declared.functions.FunctionRecord.{FunctionRecord}
use Rattle.sheet.specs.Outcome.{bad}
use Rattle.sheet.specs.Sheets.{Decoded}
use Rattle.checker.specs.Checked.{function_name, functions_free}
use Rattle.checker.specs.Repeats.{record_name, repeated, fails_at}
use Rattle.checker.specs.Trees.{no_function}
use Rattle.checker.proofs.Searches.{tests-repeated, repeated-within, repeated-map}
use Rattle.checker.proofs.names.functions_free.Goals as goal

-- o is what is found among the records rs
module _ (D : Decoded) (rs : List FunctionRecord) (functions : map (λ (r : FunctionRecord). r.function) rs ≡ D.program.functions) (o : Option ℕ) (found : o ≡ repeated record_name rs) where
  same : repeated function_name D.program.functions ≡ o
  same = ap (repeated function_name) (sym functions) ∙ repeated-map (λ (r : FunctionRecord). r.function) function_name rs ∙ sym found

  free-are : functions_free D ≡ fails_at Taken (slice_index D.function_places) o
  free-are = tests-repeated no_function Taken (slice_index D.function_places) D.program.functions function_name ∙ ap (fails_at Taken (slice_index D.function_places)) same

pub function_place-requires : goal.function_place-requires
function_place-requires c = repeated-within function_name _ _ (same c.args.sheet.now _ c.functions.ensures.functions _ c.repeated.ensures ∙ c.in-Some.is)

pub returns-in-None : goal.returns-in-None
returns-in-None c =
    free-are c.args.sheet.now _ c.functions.ensures.functions _ c.repeated.ensures ∙ ap (fails_at Taken (slice_index c.args.sheet.now.function_places)) c.in-None.is

pub returns-in-Some : goal.returns-in-Some
returns-in-Some c =
    free-are c.args.sheet.now _ c.functions.ensures.functions _ c.repeated.ensures ∙ ap (fails_at Taken (slice_index c.args.sheet.now.function_places)) c.in-Some.is
    ∙ ap (bad Taken) (sym c.function_place.ensures)
