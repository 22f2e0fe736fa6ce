use Rattle.std.proofs.Common.{◌≡◌, drop, length}
use Rattle.xi.specs.Typing.{numbers_of}
use Rattle.checker.specs.Walk.{targets_fit}
use Rattle.checker.specs.Nodes.{whole}
use Rattle.checker.proofs.declarations.targets_fit.Given as goal

-- what is left to compare decides
abbrev pub invariant-loop-target : goal.invariant-loop-target
invariant-loop-target l =
    (goal.iterator-loop-target).can_next l.target-iterator ×
    (goal.iterator-loop-target).is_finite l.target-iterator ×
    (targets_fit (whole l.targets.node).program (drop (length l.yielded) l.targets.numbers.now) (numbers_of (drop (length l.yielded) l.types))
    ≡ targets_fit (whole l.targets.node).program l.targets.numbers.now (numbers_of l.types))
