-- What a good outcome tells of its steps.
use Rattle.std.proofs.Common.{◌≡◌, ℕ, zero, suc, ◌+◌, Bool, true, false, cond, ◌&&◌, List, [], ◌∷◌, ◌++◌, get_or, refl, subst, arith}
use Rattle.xi.specs.declared.rule.Rule.{Rule}
use Rattle.sheet.specs.Outcome.{Outcome, good, bad, then, held, runs}

pub never : {A : Type 0} {k : Rule} {p : ℕ} {x : A} → ◌≡◌ {A = Outcome A} (bad k p) (good x) → ⊥
never {A} {k} {p} {x} e = let z : ◌≡◌ {A = ℕ} 0 1 = cc in omega arith

pub same_good : {A : Type 0} {x y : A} → ◌≡◌ {A = Outcome A} (good x) (good y) → x ≡ y
same_good {A} {x} {y} e = cc

pub then_opens : {A B : Type 0} (o : Outcome A) (f : A → Outcome B) (y : B) → then o f ≡ good y → (x : A) × (o ≡ good x) × (f x ≡ good y)
then_opens (good x) f y e = (x, refl, e)
then_opens (bad k p) f y e = absurd (never e)

pub held_opens : (b : Bool) (k : Rule) (p : ℕ) (u : Unit {0}) → held b k p ≡ good u → b ≡ true
held_opens true k p u e = refl
held_opens false k p u e = absurd (never e)

pub cond_opens : {A : Type 0} (b : Bool) (x y : A) (k : Rule) (p : ℕ) → cond b (good x) (bad k p) ≡ good y → b ≡ true
cond_opens true x y k p e = refl
cond_opens false x y k p e = absurd (never e)

pub and_left : (a b : Bool) → (a && b) ≡ true → a ≡ true
and_left true b e = refl
and_left false b e = e

pub and_right : (a b : Bool) → (a && b) ≡ true → b ≡ true
and_right true b e = e
and_right false b e = let z : b ≡ true = cc in z

-- what each step keeps, all keep
pub runs-keep : {S : Type 0} (go : ℕ → S → Outcome S) (Q : S → Type 0) → ((i : ℕ) (s t : S) → Q s → go i s ≡ good t → Q t) → (n i : ℕ) (s t : S) → Q s → runs go n i s ≡ good t → Q t
runs-keep go Q step zero i s t q e = subst Q (same_good e) q
runs-keep go Q step (suc n) i s t q e =
    let o = then_opens (go i s) (λ u. runs go n (i + 1) u) t e in
    runs-keep go Q step n (i + 1) o.0 t (step i s o.0 q o.1) o.2

abbrev pub Each : {A : Type 0} → (A → Type 0) → List A → Type 0
Each R [] = Unit {0}
Each R (x ∷ xs) = R x × Each R xs

pub each_push : {A : Type 0} (R : A → Type 0) (xs : List A) (x : A) → Each R xs → R x → Each R (xs ++ x ∷ [])
each_push R [] x r h = (h, tt)
each_push R (y ∷ ys) x r h = (r.0, each_push R ys x r.1 h)

pub each_get : {A : Type 0} (R : A → Type 0) (xs : List A) (d : A) → Each R xs → R d → (i : ℕ) → R (get_or xs i d)
each_get R [] d r h i = h
each_get R (x ∷ xs) d r h zero = r.0
each_get R (x ∷ xs) d r h (suc i) = each_get R xs d r.1 h i

pub each_map : {A : Type 0} (R R' : A → Type 0) → ((x : A) → R x → R' x) → (xs : List A) → Each R xs → Each R' xs
each_map R R' f [] r = tt
each_map R R' f (x ∷ xs) r = (f x r.0, each_map R R' f xs r.1)
