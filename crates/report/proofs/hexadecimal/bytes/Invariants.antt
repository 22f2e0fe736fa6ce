use Rattle.std.proofs.Common.{◌≡◌, ◌%◌, [], vec_items, length}
use Rattle.report.specs.Hexadecimal.{pairs_after}
use Rattle.report.proofs.hexadecimal.bytes.Given as goal

-- what is left to read gives all, and is even in length
abbrev pub invariant-loop-rest : goal.invariant-loop-rest
invariant-loop-rest l = (pairs_after (vec_items l.all) l.rest ≡ pairs_after [] l.fn.text) × (length l.rest % 2 ≡ 0)

abbrev pub decreases-loop-rest : goal.decreases-loop-rest
decreases-loop-rest l = length l.rest
