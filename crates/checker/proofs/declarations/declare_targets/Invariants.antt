use Rattle.std.proofs.Common.{◌≡◌, drop}
use Rattle.checker.specs.Walk.{targets_declared}
use Rattle.checker.specs.Nodes.{whole}
use Rattle.checker.specs.Scopes.{scope_of}
use Rattle.checker.proofs.declarations.declare_targets.Given as goal

-- what is left to declare gives all
abbrev pub invariant-loop-target : goal.invariant-loop-target
invariant-loop-target l =
    targets_declared (whole l.targets.node) (drop l.target-index l.targets.numbers.now) (scope_of l.scope)
    ≡ targets_declared (whole l.targets.node) l.targets.numbers.now (scope_of l.initial.scope)
