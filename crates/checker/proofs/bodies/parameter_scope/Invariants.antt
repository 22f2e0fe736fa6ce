use Rattle.std.proofs.Common.{◌≡◌, [], map, length, drop}
use Rattle.xi.specs.declared.program.Parameter.{Parameter}
use Rattle.xi.specs.Typing.{binding, pushed}
use Rattle.checker.specs.Scopes.{scope_of}
use Rattle.checker.proofs.bodies.parameter_scope.Given as goal

-- what is left to push gives all
abbrev pub invariant-loop-parameter : goal.invariant-loop-parameter
invariant-loop-parameter l =
    (pushed (map (λ (p : Parameter). binding p.name p.ty) (drop l.parameter-index l.parameters)) (scope_of l.scope)
    ≡ pushed (map (λ (p : Parameter). binding p.name p.ty) l.parameters) [])
    × (length (scope_of l.scope) ≡ l.parameter-index)
