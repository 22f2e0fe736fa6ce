use Rattle.std.proofs.Common.{ltb, sym, ap}
use Rattle.checker.specs.Scopes.{scope_of}
use Rattle.checker.proofs.Scoped.{scope_length}
use Rattle.checker.proofs.scope.Scope.has_room.Goals as goal

pub returns : goal.returns
unfolding scope_of
returns c = ap (λ n. ltb n 64) (sym (scope_length c.args.self.now.names c.args.self.now.len))
