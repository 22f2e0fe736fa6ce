use Rattle.std.proofs.Common.{◌≤◌}
use Rattle.host.specs.Text.{row_length}
use Rattle.host.proofs.Host.row_within.Given as goal

abbrev pub invariant-loop-i : goal.invariant-loop-i
invariant-loop-i g l = l.i ≤ row_length (g.Self.Host.left l.self)
