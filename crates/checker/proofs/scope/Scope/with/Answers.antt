use Rattle.std.proofs.Common.{◌<◌, length, arith, rules}
use Rattle.checker.specs.Scopes.{scope_of}
use Rattle.checker.proofs.Scoped.{scope_length, scope_more}
use Rattle.checker.proofs.scope.Scope.with.Goals as goal

pub returns : goal.returns
unfolding scope_of
returns c =
    let room : c.args.self.len < 64 = omega (arith, scope_length c.args.self.names c.args.self.len) in
    let within : c.args.self.len < length c.args.self.names = search rules in
    scope_more _ _ _ within
