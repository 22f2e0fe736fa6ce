use Rattle.std.proofs.Common.{◌≡◌, ℕ, ◌<◌, List, map, length, get_or, sym, ap, ◌∙◌}
use Rattle.xi.specs.declared.program.Function.{Function}
use Rattle.xi.specs.declared.program.GlobalVariable.{GlobalVariable}
use Rattle.xi.specs.declared.program.Parameter.{Parameter}
use Rattle.xi.specs.Program.{items_of}
use Rattle.sheet.specs.declared.functions.FunctionRecord.{FunctionRecord}
use Rattle.sheet.specs.Sheets.{Decoded}
use Rattle.checker.specs.Checked.{parameters_free_in, parameters_free_of}
use Rattle.checker.specs.Trees.{function_at}
use Rattle.sheet.proofs.Outcomes.{said_on}
use Rattle.sheet.proofs.Steps.{step-bad, step-good}
use Rattle.checker.proofs.Records.{record-known, record-function, record-place}
use Rattle.checker.proofs.names.parameters_free.Goals as goal

-- ps are the parameters of the function of record i
module _
    (D : Decoded) (rs : List FunctionRecord) (functions : map (λ (r : FunctionRecord). r.function) rs ≡ D.program.functions)
    (places : map (λ (r : FunctionRecord). r.at) rs ≡ D.function_places) (i : ℕ) (d : FunctionRecord) (known : i < length rs)
    (gs : List GlobalVariable) (ps : List Parameter) (globals : gs ≡ D.program.globals) (takes : ps ≡ items_of D.program.parameters (get_or rs i d).function.parameters)
  where
    free_of : parameters_free_of D i ≡ parameters_free_in gs ps (get_or rs i d).at
    free_of =
        let e : ps ≡ items_of D.program.parameters (function_at D.program i).parameters = takes ∙ ap (λ (F : Function). items_of D.program.parameters F.parameters) (record-function D rs functions i d known) in
        sym (λ j. parameters_free_in (globals j) (e j) (record-place D rs functions i d known places j))

pub returns-in_err-parameters_free_in : goal.returns-in_err-parameters_free_in
returns-in_err-parameters_free_in c =
    let D = c.args.sheet.now in
    let same = free_of D _ c.functions-record-items.ensures.functions c.functions-record-items.ensures.places _ _ c.loop-record-test.true _ _ c.globals.ensures c.parameters-parameters.ensures.items in
    said_on _ _ _ _ _ _ c.from_residual.ensures.1 c.in_err-parameters_free_in.ensures
    (λ k q e. sym c.loop-record.invariant ∙ step-bad (λ i _. parameters_free_of D i) _ _ tt (record-known D _ c.functions-record-items.ensures.functions _ c.loop-record-test.true) k q (same ∙ e))

pub loop-record-preserved : goal.loop-record-preserved
loop-record-preserved c =
    let D = c.args.sheet.now in
    let same = free_of D _ c.functions-record-items.ensures.functions c.functions-record-items.ensures.places _ _ c.loop-record-test.true _ _ c.globals.ensures c.parameters-parameters.ensures.items in
    step-good (λ i _. parameters_free_of D i) _ _ tt (record-known D _ c.functions-record-items.ensures.functions _ c.loop-record-test.true) tt (same ∙ c.in_ok-parameters_free_in.ensures) ∙ c.loop-record.invariant
