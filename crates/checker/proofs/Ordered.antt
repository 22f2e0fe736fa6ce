-- What an outcome has to do with tests in order: `Gives o ts x` says that o is the first broken of ts, and x where all hold.
use Rattle.std.proofs.Common.{◌≡◌, ℕ, Bool, true, false, List, [], ◌∷◌, ◌++◌, map, sym, refl, ap, ◌∙◌}
use mathlib.Core.Option.{Option, none, some}
use Rattle.xi.specs.declared.rule.Rule.{Rule}
use Rattle.xi.specs.declared.rule.Rule.TheVariants.{«Type» as TypeRule}
use Rattle.sheet.specs.Outcome.{Outcome, good, bad, then, held}
use Rattle.checker.specs.Walk.{known, is_some, types_each, operands}
use Rattle.checker.specs.Tests.{Test, test, first_broken, value_or, or_else, each}

pub record Gives {A : Type 0} (o : Outcome A) (ts : List Test) (x : A) : Type 0 where
  pub is : o ≡ then (first_broken ts) (λ _. good x)

then-then : {A B C : Type 0} (o : Outcome A) (f : A → Outcome B) (g : B → Outcome C) → then (then o f) g ≡ then o (λ x. then (f x) g)
then-then (good x) f g = refl
then-then (bad k p) f g = refl

-- tests behind tests
pub joined : {B : Type 0} (us vs : List Test) (f : Unit {0} → Outcome B) → then (first_broken (us ++ vs)) f ≡ then (first_broken us) (λ _. then (first_broken vs) f)
joined [] vs f = refl
joined (t ∷ us) vs f =
    then-then (held t.holds t.rule t.place) (λ _. first_broken (us ++ vs)) f
    ∙ ap (λ g. then (held t.holds t.rule t.place) (λ (_ : Unit {0}). g)) (joined us vs f)
    ∙ sym (then-then (held t.holds t.rule t.place) (λ _. first_broken us) (λ _. then (first_broken vs) f))

pub gives_good : {A : Type 0} (x : A) → Gives (good x) [] x
gives_good x = record { is = refl }

pub gives-held : (b : Bool) (k : Rule) (p : ℕ) → Gives (held b k p) (test b k p ∷ []) tt
gives-held true k p = record { is = refl }
gives-held false k p = record { is = refl }

-- one outcome after another
pub gives_then : {A B : Type 0} {o : Outcome A} {us : List Test} {x : A} {vs : List Test} {y : B} (f : A → Outcome B) → Gives o us x → Gives (f x) vs y → Gives (then o f) (us ++ vs) y
gives_then {us = us} {x = x} {vs = vs} {y = y} f h e =
    record { is = ap (λ w. then w f) h.is ∙ then-then (first_broken us) (λ _. good x) f ∙ ap (λ w. then (first_broken us) (λ (_ : Unit {0}). w)) e.is ∙ sym (joined us vs (λ _. good y)) }

-- one test, and then an outcome
pub gives-test : {B : Type 0} {vs : List Test} {y : B} (b : Bool) (k : Rule) (p : ℕ) (f : Unit {0} → Outcome B) → Gives (f tt) vs y → Gives (then (held b k p) f) (test b k p ∷ vs) y
gives-test true k p f e = record { is = e.is }
gives-test false k p f e = record { is = refl }

-- what is looked up, with a default for what is not there
pub gives-known : {A B : Type 0} {vs : List Test} {y : B} (d : A) (o : Option A) (k : Rule) (p : ℕ) (f : A → Outcome B) → Gives (f (or_else d o)) vs y → Gives (then (known o k p) f) (test (is_some o) k p ∷ vs) y
gives-known d none k p f e = record { is = refl }
gives-known d (some x) k p f e = record { is = e.is }

pub gives_found : {A : Type 0} (d : A) (o : Option A) (k : Rule) (p : ℕ) → Gives (known o k p) (test (is_some o) k p ∷ []) (or_else d o)
gives_found d none k p = record { is = refl }
gives_found d (some x) k p = record { is = refl }

-- the value of an outcome, with a default where it is refused
pub gives_value : {A : Type 0} {o : Outcome A} {ts : List Test} {x : A} (d : A) → Gives o ts x → Gives o ts (value_or d o)
gives_value {o = o} {ts = ts} {x = x} d e = record { is = e.is ∙ same (first_broken ts) e.is }
  where
    same : (v : Outcome (Unit {0})) → o ≡ then v (λ _. good x) → then v (λ _. good x) ≡ then v (λ _. good (value_or d o))
    same (good u) h = ap (λ w. good (value_or d w)) (sym h)
    same (bad k p) h = refl

pub gives-operands : (b : Bool) (p u : ℕ) → Gives (operands b p u) (test b TypeRule p ∷ []) u
gives-operands true p u = record { is = refl }
gives-operands false p u = record { is = refl }

-- a value that is made into another
pub gives-map : {A B : Type 0} {o : Outcome A} {ts : List Test} {x : A} (f : A → B) → Gives o ts x → Gives (then o (λ y. good (f y))) ts (f x)
gives-map {ts = ts} {x = x} f e = record { is = ap (λ w. then w (λ y. good (f y))) e.is ∙ then-then (first_broken ts) (λ _. good x) (λ y. good (f y)) }

-- the parts in order
pub gives-each : (go : ℕ → Outcome ℕ) (tests : ℕ → List Test) (type : ℕ → ℕ) → ((n : ℕ) → Gives (go n) (tests n) (type n)) → (ns : List ℕ) → Gives (types_each go ns) (each tests ns) (map type ns)
gives-each go tests type h [] = gives_good []
gives-each go tests type h (n ∷ ns) = gives_then (λ t. then (types_each go ns) (λ ts. good (t ∷ ts))) (h n) (gives-map (λ ts. type n ∷ ts) (gives-each go tests type h ns))
