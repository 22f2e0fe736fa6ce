-- What a `Scope` holds, the newest name first.
use Rattle.std.specs.Prelude.{ℕ, zero, suc, List, [], ◌∷◌, Some, None, Option as RustOption, slice_index_or}
use Rattle.std.proofs.Math.Option.{Option, none, some}
use Rattle.xi.specs.declared.node.Ty.{Ty}
use Rattle.xi.specs.declared.program.Parameter.{Parameter}
use Rattle.xi.specs.declared.program.Function.{Function}
use Rattle.checker.specs.declared.scope.Scope.{Scope as ScopeArray}
use Rattle.xi.specs.Typing.{binding, Scope}
use Rattle.checker.specs.Checked.{no_parameter}

abbrev pub scope_from : List Parameter → ℕ → Scope
scope_from ps zero = []
scope_from ps (suc n) = binding (slice_index_or ps n no_parameter).name (slice_index_or ps n no_parameter).ty ∷ scope_from ps n

unfoldable pub scope_of : ScopeArray → Scope
scope_of s = scope_from s.names s.len

-- the number of the type that was found
abbrev pub type_found : RustOption Ty → Option ℕ
type_found None = none
type_found (Some t) = some t.number

abbrev pub function_found : RustOption Function → Option Function
function_found None = none
function_found (Some F) = some F
