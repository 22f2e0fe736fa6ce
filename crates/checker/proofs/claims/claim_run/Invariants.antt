use Rattle.std.proofs.Common.{◌≡◌, ℕ, ◌<◌, get_or, drop}
use Rattle.xi.specs.Tree.{all}
use Rattle.checker.specs.Trees.{asked, claimed_all}
use Rattle.checker.proofs.claims.claim_run.Given as goal

-- what is left to claim gives all
abbrev pub invariant-loop-part : goal.invariant-loop-part
invariant-loop-part l =
    (claimed_all l.sheet l.n (all (asked l.place) (drop l.part-index l.parts)) l.marks
    ≡ claimed_all l.sheet l.n (all (asked l.place) l.parts) l.initial.marks)
    × ((j : ℕ) → j < l.part-index → get_or l.parts j 0 < l.n)
