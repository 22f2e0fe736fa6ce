-- Chains of tests: a chain that ends well went well at each step.
use Rattle.std.proofs.Common.{◌≡◌, ℕ, zero, suc, ◌+◌, ◌<◌, ◌≤◌, Bool, true, false, refl, ap, ◌∙◌, ⊎_elim, arith}
use Rattle.std.proofs.lemmas.Bool.{cases_eq}
use mathlib.Core.Option.{Option, none, some}
use Rattle.xi.specs.declared.rule.Rule.{Rule}
use Rattle.sheet.specs.Outcome.{Outcome, good, bad, then, held, runs}
use Rattle.checker.specs.Walk.{known}

-- no refusal is a value
pub not_good : {A : Type 0} {x : A} {k : Rule} {p : ℕ} → bad k p ≡ good x → ⊥
not_good q = let z : ◌≡◌ {A = ℕ} 0 1 = cc in omega arith

-- a value is one
pub good_same : {A : Type 0} {x y : A} → good x ≡ good y → x ≡ y
good_same q = cc

-- a chain that ends well went well before
pub then_splits : {A B : Type 0} {y : B} (o : Outcome A) (f : A → Outcome B) → then o f ≡ good y → (x : A) × (o ≡ good x) × (f x ≡ good y)
then_splits (good x) f q = (x, refl, q)
then_splits (bad k p) f q = absurd (not_good q)

-- what follows from each step of a chain that ends well
pub then_leads : {A B : Type 0} {y : B} (C : Type 0) (o : Outcome A) (f : A → Outcome B) → then o f ≡ good y → ((x : A) → o ≡ good x → f x ≡ good y → C) → C
then_leads C o f q h = let x = then_splits o f q in h x.0 x.1 x.2

-- two steps that end well, one after the other
pub then_comes : {A B : Type 0} (o : Outcome A) (f : A → Outcome B) (x : (a : A) × (o ≡ good a)) → (b : B) × (f x.0 ≡ good b) → (b : B) × (then o f ≡ good b)
then_comes o f x y = (y.0, ap (λ r. then r f) x.1 ∙ y.1)

-- a test that went well
pub held-true : {x : Unit {0}} (b : Bool) (k : Rule) (p : ℕ) → held b k p ≡ good x → b ≡ true
held-true true k p q = refl
held-true false k p q = absurd (not_good q)

-- a test whose condition holds goes well
pub held_good : (b : Bool) (k : Rule) (p : ℕ) → b ≡ true → held b k p ≡ good tt
held_good b k p e = ap (λ v. held v k p) e

-- a test in front of a chain that ends well
pub held_splits : {B : Type 0} {y : B} (b : Bool) (k : Rule) (p : ℕ) (f : Unit {0} → Outcome B) → then (held b k p) f ≡ good y → (b ≡ true) × (f tt ≡ good y)
held_splits true k p f q = (refl, q)
held_splits false k p f q = absurd (not_good q)

-- what was looked up is there
pub known_splits : {A : Type 0} {x : A} (o : Option A) (k : Rule) (p : ℕ) → known o k p ≡ good x → o ≡ some x
known_splits {A} (some y) k p q = ap {B = Option A} some (good_same q)
known_splits none k p q = absurd (not_good q)

-- a loop of tests went well where each of them did
pub tests_were : (f : ℕ → Outcome (Unit {0})) (m i : ℕ) (s : Unit {0}) → runs (λ n _. f n) m i tt ≡ good s → (n : ℕ) → i ≤ n → n < i + m → f n ≡ good tt
tests_were f zero i s q n l h = absurd (omega arith)
tests_were f (suc m) i s q n l h =
    let x = then_splits (f i) (λ _. runs (λ n _. f n) m (i + 1) tt) q in
    ⊎_elim (λ (e : n ≡ i). ap f e ∙ x.1) (λ (e : n ≡ i → ⊥). tests_were f m (i + 1) s x.2 n (omega arith) (omega arith)) (cases_eq n i)

-- and goes well where each of them does
pub tests_ready : (f : ℕ → Outcome (Unit {0})) (m i : ℕ) → ((n : ℕ) → i ≤ n → n < i + m → f n ≡ good tt) → runs (λ n _. f n) m i tt ≡ good tt
tests_ready f zero i h = refl
tests_ready f (suc m) i h = ap (λ o. then o (λ t. runs (λ n _. f n) m (i + 1) t)) (h i (omega arith) (omega arith)) ∙ tests_ready f m (i + 1) (λ n l k. h n (omega arith) (omega arith))
