use Rattle.std.proofs.Common.{◌≡◌, ◌+◌, ◌*◌, drop}
use Rattle.xi.specs.Typing.{numbers_of}
use Rattle.checker.specs.Walk.{after_all, after_of}
use Rattle.checker.specs.Nodes.{whole}
use Rattle.checker.specs.Scopes.{scope_of}
use Rattle.checker.proofs.statements.+block_statement.Given as goal

abbrev pub decreases-block : goal.decreases-block
decreases-block l = 2 * l.parts.node.number

abbrev pub decreases-statement : goal.decreases-statement
decreases-statement l = 2 * l.node.number + 1

-- what is left of the block gives what all of it gives
abbrev pub invariant-block-loop-i : goal.invariant-block-loop-i
invariant-block-loop-i l =
    after_all (after_of (whole l.parts.node) (numbers_of l.owed)) (drop l.i l.parts.numbers.now) (scope_of l.scope)
    ≡ after_all (after_of (whole l.parts.node) (numbers_of l.owed)) l.parts.numbers.now (scope_of l.initial.scope)
