use Rattle.std.proofs.Common.{◌≡◌}
use Rattle.xi.specs.Typing.{type_in}
use Rattle.checker.specs.Scopes.{scope_from}
use Rattle.checker.proofs.scope.Scope.find.Given as goal

-- what is left to look at decides
abbrev pub invariant-loop-i : goal.invariant-loop-i
invariant-loop-i l = type_in (scope_from l.self.names l.i) l.name ≡ type_in (scope_from l.self.names l.self.len) l.name
