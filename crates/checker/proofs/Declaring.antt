-- Declaring names, one after another.
use Rattle.std.proofs.Common.{◌≡◌, ℕ, suc, ◌<◌, true, not, eqb, ltb, List, [], ◌∷◌, ◌++◌, length, refl, ap, ◌∙◌, arith}
use mathlib.Core.Option.{Option, none, some}
use Rattle.std.proofs.lemmas.Bool.{lt-ltb, ltb-true, eq-eqb, eqb-true, and_parts, and_from, false≢true}
use Rattle.xi.specs.Program.{Program}
use Rattle.xi.specs.Tree.{node_at}
use Rattle.xi.specs.Typing.{Binding, Scope, pushed, type_in, global_type, or_else, variable_type, target_bindings, targets_bindings, Declarable, BindingsHave, TargetsFit}
use Rattle.sheet.specs.Outcome.{good}
use Rattle.sheet.specs.Sheets.{Decoded}
use Rattle.checker.specs.Trees.{offset_of}
use Rattle.checker.specs.Walk.{is_some, declared, declared_all, targets_declared, bindings_have, targets_fit}
use Rattle.checker.proofs.Chains.{good_same, then_splits, held_splits}

-- neither is there
neither : {A : Type 0} (a b : Option A) → not (is_some (or_else a b)) ≡ true → (a ≡ none) × (b ≡ none)
neither none none h = (refl, refl)
neither none (some x) h = absurd (false≢true h)
neither (some x) b h = absurd (false≢true h)

-- two lists of names, one after the other
pub pushed_append : {A : Type 0} (cs bs Γ : List A) → pushed (cs ++ bs) Γ ≡ pushed bs (pushed cs Γ)
pushed_append [] bs Γ = refl
pushed_append (a ∷ cs) bs Γ = pushed_append cs bs (a ∷ Γ)

module _ (P : Program) where
  -- a name that can be declared is declared
  pub declared-ready : (Γ : Scope) (b : Binding) (p : ℕ) → type_in Γ b.name ≡ none → global_type P.globals b.name ≡ none → length Γ < 64 → declared P Γ b p ≡ good (b ∷ Γ)
  declared-ready Γ b p e f l = rw (lt-ltb (length Γ) 64 l, e, f)

  -- names that can be declared are declared
  pub all-declared : (p : ℕ) (bs : List Binding) (Γ : Scope) → Declarable P Γ bs → declared_all P p bs Γ ≡ good (pushed bs Γ)
  all-declared p [] Γ h = refl
  all-declared p (b ∷ bs) Γ h = rw (declared-ready Γ b p h.0 h.1 h.2) (all-declared p bs (b ∷ Γ) h.3)

  -- the first of two lists of names can be declared
  declarable-left : (cs bs : List Binding) (Γ : Scope) → Declarable P Γ (cs ++ bs) → Declarable P Γ cs
  declarable-left [] bs Γ h = tt
  declarable-left (a ∷ cs) bs Γ h = (h.0, h.1, h.2, declarable-left cs bs (a ∷ Γ) h.3)

  -- so can the second, behind the first
  declarable-right : (cs bs : List Binding) (Γ : Scope) → Declarable P Γ (cs ++ bs) → Declarable P (pushed cs Γ) bs
  declarable-right [] bs Γ h = h
  declarable-right (a ∷ cs) bs Γ h = declarable-right cs bs (a ∷ Γ) h.3

  -- two lists of names that can be declared, one after the other
  declarable-append : (cs bs : List Binding) (Γ : Scope) → Declarable P Γ cs → Declarable P (pushed cs Γ) bs → Declarable P Γ (cs ++ bs)
  declarable-append [] bs Γ h k = k
  declarable-append (a ∷ cs) bs Γ h k = (h.0, h.1, h.2, declarable-append cs bs (a ∷ Γ) h.3 k)

  -- what was declared could be, and is in scope
  pub declared-was : (Γ Δ : Scope) (b : Binding) (p : ℕ) → declared P Γ b p ≡ good Δ → Declarable P Γ (b ∷ []) × (b ∷ Γ ≡ Δ)
  declared-was Γ Δ b p q =
      let x = held_splits (ltb (length Γ) 64) _ p _ q in
      let y = held_splits (not (is_some (variable_type P Γ b.name))) _ p _ x.1 in
      let z = neither (type_in Γ b.name) (global_type P.globals b.name) y.0 in
      ((z.0, z.1, ltb-true _ _ x.0, tt), good_same y.1)

  -- what were declared could be, and are in scope
  pub all-were : (p : ℕ) (bs : List Binding) (Γ Δ : Scope) → declared_all P p bs Γ ≡ good Δ → Declarable P Γ bs × (pushed bs Γ ≡ Δ)
  all-were p [] Γ Δ q = (tt, good_same q)
  all-were p (b ∷ bs) Γ Δ q =
      let x = then_splits (declared P Γ b p) (λ Θ. declared_all P p bs Θ) q in
      let y = declared-was Γ x.0 b p x.1 in
      let z = all-were p bs (b ∷ Γ) Δ (ap (λ Θ. declared_all P p bs Θ) y.1 ∙ x.2) in
      ((y.0.0, y.0.1, y.0.2, z.0), z.1)

  -- the test that names have a type passes
  have-ready : (t : ℕ) (bs : List Binding) → BindingsHave t bs → bindings_have t bs ≡ true
  have-ready t [] h = refl
  have-ready t (b ∷ bs) h = and_from _ _ (eq-eqb _ _ h.0) (have-ready t bs h.1)

  -- names that pass the test have the type
  have-were : (t : ℕ) (bs : List Binding) → bindings_have t bs ≡ true → BindingsHave t bs
  have-were t [] h = tt
  have-were t (b ∷ bs) h = let x = and_parts (eqb b.type t) _ h in (eqb-true _ _ x.0, have-were t bs x.1)

  -- targets that fit pass their test, and are as many as the results
  pub fit-ready : (ns ts : List ℕ) → TargetsFit P ns ts → (targets_fit P ns ts ≡ true) × (length ts ≡ length ns)
  fit-ready [] [] h = (refl, refl)
  fit-ready [] (t ∷ ts) h = absurd h
  fit-ready (a ∷ ns) [] h = absurd h
  fit-ready (a ∷ ns) (t ∷ ts) h = let r = fit-ready ns ts h.1 in (and_from _ _ (have-ready t (target_bindings (node_at P a)) h.0) r.0, ap suc r.1)

  -- targets that pass their test, and are as many as the results, fit
  pub fit-were : (ns ts : List ℕ) → length ts ≡ length ns → targets_fit P ns ts ≡ true → TargetsFit P ns ts
  fit-were [] [] l h = tt
  fit-were [] (t ∷ ts) l h = let z : ⊥ = omega arith in absurd z
  fit-were (a ∷ ns) [] l h = absurd (false≢true h)
  fit-were (a ∷ ns) (t ∷ ts) l h = let x = and_parts (bindings_have t (target_bindings (node_at P a))) _ h in (have-were t (target_bindings (node_at P a)) x.0, fit-were ns ts (omega arith) x.1)

module _ (D : Decoded) where
  -- targets that can be declared are declared
  pub targets-ready : (ns : List ℕ) (Γ : Scope) → Declarable D.program Γ (targets_bindings D.program ns) → targets_declared D ns Γ ≡ good (pushed (targets_bindings D.program ns) Γ)
  targets-ready [] Γ h = refl
  targets-ready (a ∷ ns) Γ h =
      let bs : List Binding = target_bindings (node_at D.program a) in
      let cs : List Binding = targets_bindings D.program ns in
      rw (all-declared D.program (offset_of D a) bs Γ (declarable-left D.program bs cs Γ h), pushed_append bs cs Γ) (targets-ready ns (pushed bs Γ) (declarable-right D.program bs cs Γ h))

  -- targets that were declared could be, and are in scope
  pub targets-were : (ns : List ℕ) (Γ Δ : Scope) → targets_declared D ns Γ ≡ good Δ → Declarable D.program Γ (targets_bindings D.program ns) × (pushed (targets_bindings D.program ns) Γ ≡ Δ)
  targets-were [] Γ Δ q = (tt, good_same q)
  targets-were (a ∷ ns) Γ Δ q =
      let bs : List Binding = target_bindings (node_at D.program a) in
      let cs : List Binding = targets_bindings D.program ns in
      let x = then_splits (declared_all D.program (offset_of D a) bs Γ) (λ Θ. targets_declared D ns Θ) q in
      let y = all-were D.program (offset_of D a) bs Γ x.0 x.1 in
      let z = targets-were ns (pushed bs Γ) Δ (ap (λ Θ. targets_declared D ns Θ) y.1 ∙ x.2) in
      (declarable-append D.program bs cs Γ y.0 z.0, pushed_append bs cs Γ ∙ z.1)
