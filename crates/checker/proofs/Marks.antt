-- Marks on nodes, and how often a number stands in a list.
use Rattle.std.proofs.Common.{◌≡◌, ℕ, ◌+◌, ◌<◌, true, false, cond, eqb, List, [], ◌∷◌, ◌++◌, length, get_or, set, sym, refl, ◌∙◌, ⊎_elim, arith}
use Rattle.std.proofs.lemmas.List.{get_or-set_same, get_or-set_other}
use Rattle.std.proofs.lemmas.Bool.{cases_eq, eq-eqb, ne_eqb, false≢true}
use Rattle.xi.specs.Tree.{times}
use Rattle.checker.specs.declared.mark.Mark.{Mark}
use Rattle.checker.specs.declared.mark.Mark.TheVariants.{Free, PartOf, Body}
use Rattle.checker.specs.Trees.{is_free}

-- 1 where node k has a mark, else 0
abbrev pub used_by : Mark → ℕ
used_by m = cond (is_free m) 0 1

-- 1 where node k has a mark
abbrev pub used : List Mark → ℕ → ℕ
used u k = used_by (get_or u k Free)

-- marks once made stay
abbrev pub Keeps : List Mark → List Mark → Type 0
Keeps u v = (k : ℕ) → is_free (get_or u k Free) ≡ false → get_or v k Free ≡ get_or u k Free

-- a node with a mark is used
pub marked_used : (m : Mark) → is_free m ≡ false → used_by m ≡ 1
marked_used m e = rw e

-- a node that is not used has no mark
pub unused_free : (m : Mark) → used_by m ≡ 0 → is_free m ≡ true
unused_free Free e = refl
unused_free (PartOf n) e = let z : ⊥ = omega arith in absurd z
unused_free Body e = let z : ⊥ = omega arith in absurd z

-- one mark more
pub set-used : (u : List Mark) (p : ℕ) (m : Mark) → p < length u → is_free (get_or u p Free) ≡ true → is_free m ≡ false → (k : ℕ) → used (set u p m) k ≡ cond (eqb k p) 1 0 + used u k
set-used u p m l f e k = ⊎_elim same other (cases_eq k p)
  where
    same : k ≡ p → used (set u p m) k ≡ cond (eqb k p) 1 0 + used u k
    same q = rw (q, eq-eqb p p refl, get_or-set_same u p m Free l, e, f)

    other : (k ≡ p → ⊥) → used (set u p m) k ≡ cond (eqb k p) 1 0 + used u k
    other q = rw (ne_eqb k p q, get_or-set_other u p k m Free q) (omega arith)

-- a mark on a free node leaves all others
pub set_keeps : (u : List Mark) (p : ℕ) (m : Mark) → is_free (get_or u p Free) ≡ true → Keeps u (set u p m)
set_keeps u p m f k e = get_or-set_other u p k m Free (λ q. let w : is_free (get_or u k Free) ≡ true = rw q f in false≢true (sym e ∙ w))

-- marks that stay twice stay
pub keeps_on : (u v w : List Mark) → Keeps u v → Keeps v w → Keeps u w
keeps_on u v w a b k e = let x = a k e in b k (rw x e) ∙ x

-- how often a number stands in two lists
pub times_append : (k : ℕ) (xs ys : List ℕ) → times k (xs ++ ys) ≡ times k xs + times k ys
times_append k [] ys = omega arith
times_append k (x ∷ xs) ys = rw (times_append k xs ys) (omega arith)

-- a number stands at its own place
pub times_here : (k : ℕ) (xs : List ℕ) → times k (k ∷ xs) ≡ 1 + times k xs
times_here k xs = rw (eq-eqb k k refl)
