use Rattle.std.proofs.Common.{◌∙◌, rules}
use Rattle.sheet.proofs.Outcomes.{said_on}
use Rattle.sheet.proofs.Steps.{part-next, part-bad, part_end}
use Rattle.sheet.proofs.part.read_part.Goals as goal

pub returns-in_err-add-clause-said : goal.returns-in_err-add-clause-said
returns-in_err-add-clause-said g c =
    let got = c.in_ok-count.ensures in
    let l = c.loop.invariant in
    said_on _ _ _ _ _ _ c.from_residual-in_err-add.ensures.1 c.in_err-add.ensures.said (part-bad (g.P.Part.item c.args.known) (λ q. (g.P.Part.none, q)) c.args.most _ _ _ _ _ _ _ _ got.said got.same got.moved l.left l.same c.loop-test.true)

pub loop-preserved : goal.loop-preserved
loop-preserved g c =
    let l = c.loop.invariant in
    record {
      left = part-next (g.P.Part.item c.args.known) _ _ _ _ _ l.same c.loop-test.true _ c.in_ok-add.ensures.said ∙ l.left;
      same = search rules;
      after = search rules;
      few = search rules;
    }

pub returns-clause-said : goal.returns-clause-said
returns-clause-said g c =
    let got = c.in_ok-count.ensures in
    let l = c.loop.invariant in
    part_end (g.P.Part.item c.args.known) (λ q. (g.P.Part.none, q)) c.args.most _ _ _ _ _ _ _ _ got.said got.same got.moved l.left l.same c.loop-test.false
