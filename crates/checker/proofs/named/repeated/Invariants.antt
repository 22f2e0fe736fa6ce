use Rattle.std.proofs.Common.{◌≡◌, take, drop}
use Rattle.checker.specs.Repeats.{repeated_in, repeated}
use Rattle.checker.proofs.named.repeated.Given as goal

-- what is left to look at decides
abbrev pub invariant-loop-i : goal.invariant-loop-i
invariant-loop-i g l = repeated_in g.T.Named.name (take l.i l.items) l.i (drop l.i l.items) ≡ repeated g.T.Named.name l.items
