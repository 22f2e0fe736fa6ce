use Rattle.std.proofs.Common.{subst}
use Rattle.sheet.specs.Outcome.{Outcome, Said}
use Rattle.checker.proofs.BodySteps.{body-ends}
use Rattle.checker.proofs.bodies.body_of.Goals as goal

pub returns : goal.returns
returns c =
    subst (λ (o : Outcome (Unit {0})). Said c.hold.result (λ _. tt) o)
    (body-ends _ c.args.function _ _ _ _ c.results-owed.ensures c.parameters.ensures.items c.parameter_scope-scope.ensures c.in_ok-statement.ensures _ _ c.ends_as_owed.ensures c.offset.ensures)
    c.hold.ensures.said
