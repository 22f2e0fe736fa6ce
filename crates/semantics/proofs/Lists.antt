-- Lists: what is pushed, kept, found.
use Rattle.std.proofs.Common.{◌≡◌, ℕ, zero, suc, ◌+◌, ◌-◌, ◌<◌, List, [], ◌∷◌, ◌++◌, map, length, take, drop, replicate, sym, refl, ap, ◌∙◌, subst, le_of_suc-le-suc, not-suc-le-zero, add-zero, add-suc, suc-add, zero-add, arith}
use mathlib.Core.Option.{some, none-ne-some, some-injective}
use lib.ListN.{get_elem?}
use Rattle.xi.specs.Tree.{Each}
use Rattle.xi.specs.Typing.{pushed}
use Rattle.semantics.specs.State.{keep, Value, Move}
use Rattle.semantics.specs.Rules.{take_values}

pub at_append : {A : Type 0} {a : A} (l r : List A) (i : ℕ) → get_elem? l i ≡ some a → get_elem? (l ++ r) i ≡ some a
at_append {a = a} [] r i e = absurd (none-ne-some a e)
at_append (x ∷ l) r zero e = e
at_append (x ∷ l) r (suc i) e = at_append l r i e

pub get_elem-append_end : {A : Type 0} (l r : List A) (i : ℕ) → get_elem? (l ++ r) (length l + i) ≡ get_elem? r i
get_elem-append_end [] r i = rw zero-add
get_elem-append_end (x ∷ l) r i = rw suc-add (get_elem-append_end l r i)

pub at_first : {A : Type 0} {a : A} (l r : List A) → get_elem? (l ++ (a ∷ r)) (length l) ≡ some a
at_first [] r = refl
at_first (x ∷ l) r = at_first l r

pub at-replicate : {A : Type 0} (n : ℕ) (a : A) (i : ℕ) → i < n → get_elem? (replicate n a) i ≡ some a
at-replicate zero a i h = absurd (not-suc-le-zero h)
at-replicate (suc n) a zero h = refl
at-replicate (suc n) a (suc i) h = at-replicate n a i (le_of_suc-le-suc h)

pub at_drop : {A : Type 0} (q : ℕ) (l : List A) (i : ℕ) → get_elem? (drop q l) i ≡ get_elem? l (q + i)
at_drop zero l i = rw zero-add
at_drop (suc q) [] i = refl
at_drop (suc q) (x ∷ l) i = rw suc-add (at_drop q l i)

pub at_less : {A : Type 0} {a : A} (l : List A) (i : ℕ) → get_elem? l i ≡ some a → i < length l
at_less {a = a} [] i e = absurd (none-ne-some a e)
at_less (x ∷ l) zero e = omega arith
at_less (x ∷ l) (suc i) e = omega (arith, at_less l i e)

pub at_is : {A : Type 0} (l : List A) (i : ℕ) → i < length l → (a : A) × (get_elem? l i ≡ some a)
at_is [] i h = absurd (not-suc-le-zero h)
at_is (x ∷ l) zero h = (x, refl)
at_is (x ∷ l) (suc i) h = at_is l i (le_of_suc-le-suc h)

pub append-nil : {A : Type 0} (l : List A) → l ++ [] ≡ l
append-nil {A} [] = refl
append-nil {A} (x ∷ l) = ap {B = List A} (λ r. x ∷ r) (append-nil l)

pub length-pushed : {A : Type 0} (l r : List A) → length (pushed l r) ≡ length l + length r
length-pushed [] r = rw zero-add
length-pushed (x ∷ l) r = length-pushed l (x ∷ r) ∙ omega arith

pub drop-pushed : {A : Type 0} (l r : List A) (m : ℕ) → drop (length l + m) (pushed l r) ≡ drop m r
drop-pushed [] r m = rw zero-add
drop-pushed (x ∷ l) r m = rw (suc-add, ← add-suc (length l) m) (drop-pushed l (x ∷ r) (suc m))

pub keep-pushed : {A : Type 0} (l r : List A) → keep (length r) (pushed l r) ≡ r
keep-pushed l r =
    let e : length (pushed l r) - length r ≡ length l + 0 = omega (arith, length-pushed l r) in
    rw e (drop-pushed l r 0)

pub pushed_append : {A : Type 0} (l m r : List A) → pushed (l ++ m) r ≡ pushed m (pushed l r)
pushed_append [] m r = refl
pushed_append (x ∷ l) m r = pushed_append l m (x ∷ r)

pub each_append : {A : Type 0} (Q : A → Type 0) (l r : List A) → Each Q l → Each Q r → Each Q (l ++ r)
each_append Q [] r a b = b
each_append Q (x ∷ l) r a b = (a.0, each_append Q l r a.1 b)

pub each_front : {A : Type 0} (Q : A → Type 0) (l r : List A) → Each Q (l ++ r) → Each Q l
each_front Q [] r a = tt
each_front Q (x ∷ l) r a = (a.0, each_front Q l r a.1)

pub each_back : {A : Type 0} (Q : A → Type 0) (l r : List A) → Each Q (l ++ r) → Each Q r
each_back Q [] r a = a
each_back Q (x ∷ l) r a = each_back Q l r a.1

pub each-drop : {A : Type 0} (Q : A → Type 0) (n : ℕ) (l : List A) → Each Q l → Each Q (drop n l)
each-drop Q zero l a = a
each-drop Q (suc n) [] a = tt
each-drop Q (suc n) (x ∷ l) a = each-drop Q n l a.1

pub each_take : {A : Type 0} (Q : A → Type 0) (n : ℕ) (l : List A) → Each Q l → Each Q (take n l)
each_take Q zero l a = tt
each_take Q (suc n) [] a = tt
each_take Q (suc n) (x ∷ l) a = (a.0, each_take Q n l a.1)

pub each_map : {A B : Type 0} (Q : A → Type 0) (R : B → Type 0) (f : A → B) → ((x : A) → Q x → R (f x)) → (l : List A) → Each Q l → Each R (map f l)
each_map Q R f h [] a = tt
each_map Q R f h (x ∷ l) a = (h x a.0, each_map Q R f h l a.1)

pub each_at : {A : Type 0} (Q : A → Type 0) (l : List A) (i : ℕ) (x : A) → Each Q l → get_elem? l i ≡ some x → Q x
each_at Q [] i x a e = absurd (none-ne-some x e)
each_at Q (y ∷ l) zero x a e = subst Q (some-injective _ _ e) a.0
each_at Q (y ∷ l) (suc i) x a e = each_at Q l i x a.1 e

-- the last operands, in order, are those that were pushed
take-pushed : (vs O acc : List Value) (m : ℕ) (f : List Value → List Value → Move) → take_values (length vs + m) (pushed vs O) acc f ≡ take_values m O (vs ++ acc) f
take-pushed [] O acc m f = rw zero-add
take-pushed (v ∷ vs) O acc m f = rw (suc-add, ← add-suc (length vs) m) (take-pushed vs (v ∷ O) acc (suc m) f)

pub takes-pushed : (vs O : List Value) (f : List Value → List Value → Move) → take_values (length vs) (pushed vs O) [] f ≡ f vs O
takes-pushed vs O f = ap (λ (m : ℕ). take_values m (pushed vs O) [] f) (sym (add-zero (length vs))) ∙ take-pushed vs O [] 0 f ∙ ap (λ (ws : List Value). f ws O) (append-nil vs)
