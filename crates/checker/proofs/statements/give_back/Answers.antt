use Rattle.std.proofs.Common.{subst}
use Rattle.sheet.specs.Outcome.{Outcome, Said}
use Rattle.sheet.proofs.Outcomes.{said_on}
use Rattle.checker.specs.Scopes.{scope_of}
use Rattle.checker.specs.Walk.{type_of}
use Rattle.checker.proofs.Returns.{count-bad, type-bad, to_last}
use Rattle.checker.proofs.statements.give_back.Goals as goal

pub returns-in_err-hold : goal.returns-in_err-hold
returns-in_err-hold c =
    let go = type_of c.args.parts.node.trees.now.sheet (scope_of c.args.scope.now) in
    said_on _ _ _ _ _ _ c.from_residual-in_err-hold.ensures.1 c.in_err-hold.ensures.said (count-bad go c.args.parts.numbers.now c.args.owed.now c.args.last _ _ _ c.offset-at.ensures c.in_ok-fit.ensures)

pub returns-in_err-hold-2 : goal.returns-in_err-hold-2
returns-in_err-hold-2 c =
    let go = type_of c.args.parts.node.trees.now.sheet (scope_of c.args.scope.now) in
    said_on _ _ _ _ _ _ c.from_residual-in_err-hold-2.ensures.1 c.in_err-hold-2.ensures.said (type-bad go c.args.parts.numbers.now c.args.owed.now c.args.last _ _ _ c.offset-at.ensures c.in_ok-fit.ensures c.in_ok-hold.ensures.said)

pub returns : goal.returns
returns c =
    let go = type_of c.args.parts.node.trees.now.sheet (scope_of c.args.scope.now) in
    subst (λ (o : Outcome (Unit {0})). Said c.hold-3.result (λ _. tt) o) (to_last go c.args.parts.numbers.now c.args.owed.now c.args.last _ _ _ c.offset-at.ensures c.in_ok-fit.ensures c.in_ok-hold.ensures.said c.in_ok-hold-2.ensures.said) c.hold-3.ensures.said
