use Rattle.std.proofs.Common.{◌≡◌, ◌+◌, ◌*◌, length}
use Rattle.checker.specs.Walk.{fitting, type_of}
use Rattle.checker.specs.Nodes.{whole}
use Rattle.checker.specs.Scopes.{scope_of}
use Rattle.checker.specs.Wants.{wanted_types}
use Rattle.checker.proofs.Fitting.{left}
use Rattle.checker.proofs.expressions.+arguments_call_expression_values.Given as goal

abbrev pub decreases-values : goal.decreases-values
decreases-values l = 4 * l.parts.node.number

abbrev pub decreases-arguments : goal.decreases-arguments
decreases-arguments l = 4 * l.parts.node.number + 1

abbrev pub decreases-call : goal.decreases-call
decreases-call l = 4 * l.node.number + 2

abbrev pub decreases-expression : goal.decreases-expression
decreases-expression l = 4 * l.node.number + 3

-- what is left to type gives all
abbrev pub invariant-values-loop-i : goal.invariant-values-loop-i
invariant-values-loop-i l =
    left (type_of (whole l.parts.node) (scope_of l.scope)) l.parts.numbers.now (wanted_types l.wanted (length l.parts.numbers.now)) l.i l.fit
    ≡ fitting (type_of (whole l.parts.node) (scope_of l.scope)) l.parts.numbers.now (wanted_types l.wanted (length l.parts.numbers.now))
