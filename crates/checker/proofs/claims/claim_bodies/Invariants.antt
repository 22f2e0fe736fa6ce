use Rattle.std.proofs.Common.{◌≡◌, ℕ, ◌-◌, ◌<◌, length}
use Rattle.sheet.specs.Outcome.{runs}
use Rattle.checker.specs.Trees.{function_at, body_claimed, bodies_claimed}
use Rattle.checker.proofs.claims.claim_bodies.Given as goal

-- what is left to claim gives all
abbrev pub invariant-loop-record : goal.invariant-loop-record
invariant-loop-record l =
    (runs (body_claimed l.sheet) (length l.sheet.program.functions - l.record-index) l.record-index l.marks
    ≡ bodies_claimed l.sheet l.initial.marks)
    × ((i : ℕ) → i < l.record-index → (function_at l.sheet.program i).body < length l.sheet.program.nodes)
