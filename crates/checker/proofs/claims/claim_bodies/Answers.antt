use Rattle.std.proofs.Common.{◌≡◌, ℕ, ◌<◌, List, map, length, get_or, sym, ◌∙◌, subst, below_more}
use Rattle.xi.specs.declared.program.Function.{Function}
use Rattle.sheet.specs.declared.functions.FunctionRecord.{FunctionRecord}
use Rattle.sheet.specs.Sheets.{Decoded}
use Rattle.checker.specs.declared.mark.Mark.{Mark}
use Rattle.checker.specs.Trees.{function_at, body_claimed, claimed_as_body}
use Rattle.sheet.proofs.Outcomes.{said_on}
use Rattle.sheet.proofs.Steps.{step-bad, step-good}
use Rattle.checker.proofs.Records.{record-known, record-function, record-place}
use Rattle.checker.proofs.claims.claim_bodies.Goals as goal

-- the claim of the body in record i
module _
    (D : Decoded) (rs : List FunctionRecord) (functions : map (λ (r : FunctionRecord). r.function) rs ≡ D.program.functions)
    (places : map (λ (r : FunctionRecord). r.at) rs ≡ D.function_places) (i : ℕ) (d : FunctionRecord) (known : i < length rs) (u : List Mark)
  where
    claim_of : body_claimed D i u ≡ claimed_as_body D (get_or rs i d).function.body (get_or rs i d).at u
    claim_of = sym (λ j. claimed_as_body D (record-function D rs functions i d known j).body (record-place D rs functions i d known places j) u)

pub returns-in_err-claim_body-clause-said : goal.returns-in_err-claim_body-clause-said
returns-in_err-claim_body-clause-said c =
    let D = c.args.sheet.now in
    let more = record-known D _ c.functions-record-items.ensures.functions _ c.loop-record-test.true in
    let same = claim_of D _ c.functions-record-items.ensures.functions c.functions-record-items.ensures.places _ _ c.loop-record-test.true c.loop-record.marks in
    said_on _ _ _ _ _ _ c.from_residual.ensures.1 c.in_err-claim_body.ensures.said (λ k q e. sym c.loop-record.invariant.0 ∙ step-bad (body_claimed D) _ _ _ more k q (same ∙ e))

pub loop-record-preserved : goal.loop-record-preserved
loop-record-preserved c =
    let D = c.args.sheet.now in
    let more = record-known D _ c.functions-record-items.ensures.functions _ c.loop-record-test.true in
    let same = claim_of D _ c.functions-record-items.ensures.functions c.functions-record-items.ensures.places _ _ c.loop-record-test.true c.loop-record.marks in
    let is = record-function D _ c.functions-record-items.ensures.functions _ _ c.loop-record-test.true in (
      step-good (body_claimed D) _ _ _ more _ (same ∙ c.in_ok-claim_body.ensures.said) ∙ c.loop-record.invariant.0,
      below_more (λ i. (function_at D.program i).body < length D.program.nodes) _ c.loop-record.invariant.1
          (subst (λ (F : Function). F.body < length D.program.nodes) is c.in_ok-claim_body.ensures.bodied),
    )
