use Rattle.std.proofs.Common.{arith}
use Rattle.std.proofs.lemmas.Bool.Decides.{nat_tests}
use Rattle.host.proofs.Rows.{row_more, row_at_newline, row_at_end}
use Rattle.host.proofs.Host.row_within.Goals as goal

pub returns-in_default : goal.returns-in_default
returns-in_default g c =
    let row = row_at_end (g.Self.Host.left c.args.self.now) c.loop-i.i c.loop-i.invariant c.in_default.ensures in
    grind (arith, nat_tests)

pub returns-then-c-eq-NEWLINE : goal.returns-then-c-eq-NEWLINE
returns-then-c-eq-NEWLINE g c =
    let row = row_at_newline (g.Self.Host.left c.args.self.now) c.loop-i.i _ c.loop-i.invariant c.in-Some.ensures c.if-c-eq-NEWLINE.true in
    grind (arith, nat_tests)

pub loop-i-preserved : goal.loop-i-preserved
loop-i-preserved g c = row_more (g.Self.Host.left c.args.self.now) c.loop-i.i _ c.loop-i.invariant c.in-Some.ensures c.if-c-eq-NEWLINE.false

pub returns-else-c-eq-NEWLINE : goal.returns-else-c-eq-NEWLINE
returns-else-c-eq-NEWLINE g c =
    let more = row_more (g.Self.Host.left c.args.self.now) c.loop-i.i _ c.loop-i.invariant c.in-Some.ensures c.if-c-eq-NEWLINE.false in
    grind (arith, nat_tests)
