use Rattle.std.proofs.Common.{◌≡◌, length}
use Rattle.checker.specs.Trees.{levels}
use Rattle.checker.proofs.tree.find_levels.Given as goal

-- the levels from n on are found
abbrev pub invariant-loop-n : goal.invariant-loop-n
invariant-loop-n l = levels l.marks l.n l.found ≡ levels l.marks (length l.marks) l.initial.found
