use Rattle.std.proofs.Common.{◌≡◌, ◌-◌, length}
use Rattle.sheet.specs.Outcome.{runs}
use Rattle.checker.specs.Checked.{body_held, bodies_held}
use Rattle.checker.specs.Trees.{function_at}
use Rattle.checker.proofs.bodies.bodies.Given as goal

-- what is left to test decides
abbrev pub invariant-loop-record : goal.invariant-loop-record
invariant-loop-record l =
    runs (λ i _. body_held l.trees.sheet (function_at l.trees.sheet.program i)) (length l.trees.sheet.program.functions - l.record-index) l.record-index tt
    ≡ bodies_held l.trees.sheet
