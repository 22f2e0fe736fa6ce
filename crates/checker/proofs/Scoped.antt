-- The names in a scope, one by one.
use Rattle.std.proofs.Common.{◌≡◌, ℕ, zero, suc, ◌+◌, ◌<◌, ◌≤◌, ◌≢◌, List, ◌∷◌, length, set, refl, ap, ◌∙◌, arith}
use Rattle.std.proofs.lemmas.List.{get_or-set_same, get_or-set_other}
use Rattle.xi.specs.declared.program.Parameter.{Parameter}
use Rattle.xi.specs.Typing.{binding}
use Rattle.checker.specs.Checked.{no_parameter}
use Rattle.checker.specs.Scopes.{scope_from}

pub scope_length : (ps : List Parameter) (n : ℕ) → length (scope_from ps n) ≡ n
scope_length ps zero = refl
scope_length ps (suc n) = ap suc (scope_length ps n)

pub scope_kept : (ps : List Parameter) (n k : ℕ) (x : Parameter) → n ≤ k → scope_from (set ps k x) n ≡ scope_from ps n
scope_kept ps zero k x h = refl
scope_kept ps (suc n) k x h =
    let other : n ≢ k = omega arith in
    let same = get_or-set_other ps k n x no_parameter other in
    (λ i. binding (same i).name (same i).ty ∷ scope_kept ps n k x (omega arith) i)

pub scope_more : (ps : List Parameter) (n : ℕ) (x : Parameter) → n < length ps → scope_from (set ps n x) (n + 1) ≡ binding x.name x.ty ∷ scope_from ps n
scope_more ps n x h =
    let one : n + 1 ≡ suc n = omega arith in
    let same = get_or-set_same ps n x no_parameter h in
    ap (scope_from (set ps n x)) one ∙ (λ i. binding (same i).name (same i).ty ∷ scope_kept ps n n x (omega arith) i)
