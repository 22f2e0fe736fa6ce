use Rattle.std.proofs.Common.{sym, ap, ◌∙◌}
use Rattle.checker.specs.Checked.{body_held}
use Rattle.checker.specs.Trees.{function_at}
use Rattle.sheet.proofs.Outcomes.{said_on}
use Rattle.sheet.proofs.Steps.{step-bad, step-good}
use Rattle.checker.proofs.Records.{record-known, record-function}
use Rattle.checker.proofs.bodies.bodies.Goals as goal

pub returns-in_err-body_of : goal.returns-in_err-body_of
returns-in_err-body_of c =
    let D = c.args.trees.now.sheet in
    let more = record-known D _ c.functions-record-items.ensures.functions _ c.loop-record-test.true in
    let is = record-function D _ c.functions-record-items.ensures.functions _ _ c.loop-record-test.true in
    said_on _ _ _ _ _ _ c.from_residual.ensures.1 c.in_err-body_of.ensures
    (λ k q e. sym c.loop-record.invariant ∙ step-bad (λ i _. body_held D (function_at D.program i)) _ _ tt more k q (ap (body_held D) (sym is) ∙ e))

pub loop-record-preserved : goal.loop-record-preserved
loop-record-preserved c =
    let D = c.args.trees.now.sheet in
    let more = record-known D _ c.functions-record-items.ensures.functions _ c.loop-record-test.true in
    let is = record-function D _ c.functions-record-items.ensures.functions _ _ c.loop-record-test.true in
    step-good (λ i _. body_held D (function_at D.program i)) _ _ tt more tt (ap (body_held D) (sym is) ∙ c.in_ok-body_of.ensures) ∙ c.loop-record.invariant
