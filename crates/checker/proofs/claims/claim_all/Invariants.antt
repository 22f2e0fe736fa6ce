use Rattle.std.proofs.Common.{◌≡◌, ℕ, ◌-◌, ◌<◌, length}
use Rattle.sheet.specs.Outcome.{runs}
use Rattle.xi.specs.Tree.{node_at}
use Rattle.checker.specs.Facts.{PartsBelow}
use Rattle.checker.specs.Trees.{parts_claimed, nodes_claimed}
use Rattle.checker.proofs.claims.claim_all.Given as goal

-- what is left to claim gives all
abbrev pub invariant-loop-n : goal.invariant-loop-n
invariant-loop-n l =
    (runs (parts_claimed l.sheet) (length l.sheet.program.nodes - l.n) l.n l.marks
    ≡ nodes_claimed l.sheet l.initial.marks)
    × ((n : ℕ) → n < l.n → PartsBelow l.sheet.program n (node_at l.sheet.program n))
