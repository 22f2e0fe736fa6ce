-- Second readings of rows, numerals and nested arrays.
use Rattle.std.proofs.Common.{◌≡◌, ℕ, zero, suc, ◌+◌, ◌-◌, ◌*◌, ◌/◌, ◌%◌, ◌^◌, ◌<◌, ◌≤◌, Bool, true, false, cond, eqb, ltb, leb, List, [], ◌∷◌, ◌++◌, map, length, set, replicate, ℤ, pos, negsuc, neg_ℤ, decimal, sym, refl, ap, ◌∙◌, subst, true≢false, le_of_suc-le-suc, not-suc-le-zero, add-zero, suc-mul, mul-zero, zero-mul, arith, length-append, length-set, w64, SFits}
use mathlib.Core.Bool.{false≢true}
use mathlib.Core.Option.{Option, none, some, none-ne-some, some-injective}
use lib.ListN.{get_elem?, length-replicate}
use Rattle.std.specs.Fmt.{signed_decimal}
use Rattle.std.proofs.lemmas.Fmt.{decimal_by_steps}
use Rattle.std.proofs.lemmas.Bool.{eqb-true, eqb-false, eq-eqb, ne_eqb, leb-true, ltb-true, le-leb, lt-ltb, cond-true, cond-false}
use Rattle.xi.specs.Tree.{Each}
use Rattle.semantics.specs.State.{Store, Slot, int, array, grown, with_cell}
use Rattle.semantics.specs.Numbers.{equalℤ, digit, if_some, digits_on, first_digit, natural, ranged, literal, row, row_takes, cells_for, element_of, filled, nested}
use Rattle.semantics.specs.Readings.{RowEnds, IsRow, RowIsRow, OneRow, code, value_on, IsNatural, is_natural, IsLiteral, plain, minus, LiteralIsLiteral, LiteralsAreTaken, NumeralIsTaken, NestedTakes, NestedInOrder}
use Rattle.semantics.specs.Rules.{is_zero}
use Rattle.semantics.proofs.Decimal.{numeral_is_written}
use Rattle.semantics.proofs.Lists.{at_first, each_append}

-- rows

row_more : (c : ℕ) (cs : List ℕ) (b : Bool) → eqb c 10 ≡ b → IsRow cs (row cs) (row_takes cs) → IsRow (c ∷ cs) (cond b [] (c ∷ row cs)) (cond b 1 (suc (row_takes cs)))
row_more c cs true e r = record { rest = c ∷ cs; front = refl; unbroken = tt; ends = (eqb-true c 10 e, omega arith) }
row_more c cs false e r =
    record { rest = r.rest; front = ap {B = List ℕ} (λ l. c ∷ l) r.front; unbroken = (eqb-false c 10 e, r.unbroken); ends = longer r.rest r.ends }
  where
    longer : (l : List ℕ) → RowEnds l (length (row cs)) (row_takes cs) → RowEnds l (suc (length (row cs))) (suc (row_takes cs))
    longer [] h = ap suc h
    longer (x ∷ l) h = (h.0, omega (arith, h.1))

pub row_is_row : RowIsRow
row_is_row [] = record { rest = []; front = refl; unbroken = tt; ends = refl }
row_is_row (c ∷ cs) = row_more c cs (eqb c 10) refl (row_is_row cs)

one_row_of : (r rest : List ℕ) (taken : ℕ) → Each (λ (c : ℕ). (c ≡ 10) → ⊥) r → RowEnds rest (length r) taken → (r ≡ row (r ++ rest)) × (taken ≡ row_takes (r ++ rest))
one_row_of [] [] taken u e = (refl, e)
one_row_of [] (c ∷ cs) taken u e = let q = eq-eqb c 10 e.0 in (sym (cond-true (eqb c 10) [] (c ∷ row cs) q), e.1 ∙ omega arith ∙ sym (cond-true (eqb c 10) 1 (suc (row_takes cs)) q))
one_row_of (c ∷ r) rest taken u e =
    let q = ne_eqb c 10 u.0 in
    let p = shorter rest e in
    let i = one_row_of r rest p.0 u.1 p.1 in (
      ap {B = List ℕ} (λ l. c ∷ l) i.0 ∙ sym (cond-false (eqb c 10) [] (c ∷ row (r ++ rest)) q),
      p.2 ∙ ap suc i.1 ∙ sym (cond-false (eqb c 10) 1 (suc (row_takes (r ++ rest))) q),
    )
  where
    shorter : (l : List ℕ) → RowEnds l (suc (length r)) taken → (m : ℕ) × RowEnds l (length r) m × (taken ≡ suc m)
    shorter [] h = (length r, refl, h)
    shorter (x ∷ l) h = (length r + 1, (h.0, refl), h.1 ∙ omega arith)

pub one_row : OneRow
one_row left r taken i = subst (λ (l : List ℕ). (r ≡ row l) × (taken ≡ row_takes l)) (sym i.front) (one_row_of r i.rest taken i.unbroken i.ends)

-- numerals

digit_is : (z : ℤ) (d : ℕ) → digit z ≡ some d → (z ≡ code d) × (d ≤ 9)
digit_is (pos c) d e = low (leb 48 c) refl e
  where
    high : leb 48 c ≡ true → (b : Bool) → leb c 57 ≡ b → cond b (some (c - 48)) none ≡ some d → (pos c ≡ code d) × (d ≤ 9)
    high l true h e =
        let x : c - 48 ≡ d = some-injective _ _ e in
        (ap pos (omega (arith, x, leb-true 48 c l)), omega (arith, x, leb-true c 57 h))
    high l false h e = absurd (none-ne-some d e)

    low : (b : Bool) → leb 48 c ≡ b → cond b (cond (leb c 57) (some (c - 48)) none) none ≡ some d → (pos c ≡ code d) × (d ≤ 9)
    low true l e = high l (leb c 57) refl e
    low false l e = absurd (none-ne-some d e)
digit_is (negsuc c) d e = absurd (none-ne-some d e)

digit-code : (d : ℕ) → d ≤ 9 → digit (code d) ≡ some d
digit-code d h =
    cond-true (leb 48 (48 + d)) _ _ (le-leb 48 (48 + d) (omega arith)) ∙ cond-true (leb (48 + d) 57) _ _ (le-leb (48 + d) 57 (omega arith)) ∙ ap {B = Option ℕ} some (omega arith)

record Digits (m : ℕ) (zs : List ℤ) (k : ℕ) : Type 0 where
  digits : List ℕ
  are : zs ≡ map code digits
  small : Each (λ (e : ℕ). e ≤ 9) digits
  value : k ≡ value_on m digits

digits_are : (m : ℕ) (zs : List ℤ) (k : ℕ) → digits_on m zs ≡ some k → Digits m zs k
digits_are m [] k e = record { digits = []; are = refl; small = tt; value = sym (some-injective _ _ e) }
digits_are m (z ∷ zs) k e = more (digit z) refl e (λ d. digits_are (10 * m + d) zs k)
  where
    more : (x : Option ℕ) → digit z ≡ x → if_some x (λ d. digits_on (10 * m + d) zs) ≡ some k → ((d : ℕ) → digits_on (10 * m + d) zs ≡ some k → Digits (10 * m + d) zs k) → Digits m (z ∷ zs) k
    more none q e r = absurd (none-ne-some k e)
    more (some d) q e r =
        let i = digit_is z d q in
        let n = r d e in
        record { digits = d ∷ n.digits; are = ap {B = List ℤ} (λ y. y ∷ zs) i.0 ∙ ap {B = List ℤ} (λ l. code d ∷ l) n.are; small = (i.1, n.small); value = n.value }

digits-taken : (m : ℕ) (ds : List ℕ) → Each (λ (e : ℕ). e ≤ 9) ds → digits_on m (map code ds) ≡ some (value_on m ds)
digits-taken m [] h = refl
digits-taken m (d ∷ ds) h = ap (λ (x : Option ℕ). if_some x (λ e. digits_on (10 * m + e) (map code ds))) (digit-code d h.0) ∙ digits-taken (10 * m + d) ds h.1

natural_is : (zs : List ℤ) (m : ℕ) → natural zs ≡ some m → IsNatural zs m
natural_is [] m e = absurd (none-ne-some m e)
natural_is (z ∷ zs) m e = first (digit z) refl e
  where
    first : (x : Option ℕ) → digit z ≡ x → first_digit x zs ≡ some m → IsNatural (z ∷ zs) m
    first none q e = absurd (none-ne-some m e)
    first (some zero) q e = absurd (none-ne-some m e)
    first (some (suc d)) q e =
        let i = digit_is z (suc d) q in
        let n = digits_are (suc d) zs m e in
        subst (λ (k : ℕ). IsNatural (z ∷ zs) k) (sym n.value)
        (subst (λ (l : List ℤ). IsNatural l (value_on (suc d) n.digits)) (sym (ap {B = List ℤ} (λ y. y ∷ zs) i.0 ∙ ap {B = List ℤ} (λ l. code (suc d) ∷ l) n.are))
        (is_natural (suc d) n.digits (omega arith) i.1 n.small))

natural-taken : {zs : List ℤ} {m : ℕ} → IsNatural zs m → natural zs ≡ some m
natural-taken (is_natural zero ds l h s) = absurd (not-suc-le-zero l)
natural-taken (is_natural (suc d) ds l h s) = ap (λ (x : Option ℕ). first_digit x (map code ds)) (digit-code (suc d) h) ∙ digits-taken (suc d) ds s

plain_is : (zs : List ℤ) (z : ℤ) (x : Option ℕ) → natural zs ≡ x → ranged false x ≡ some z → IsLiteral zs z
plain_is zs z none q e = absurd (none-ne-some z e)
plain_is zs z (some m) q e = at (ltb m (2 ^ 63)) refl e
  where
    at : (b : Bool) → ltb m (2 ^ 63) ≡ b → cond b (some (pos m)) none ≡ some z → IsLiteral zs z
    at true l e = subst (IsLiteral zs) (some-injective _ _ e) (plain (natural_is zs m q) (ltb-true m (2 ^ 63) l))
    at false l e = absurd (none-ne-some z e)

minus_is : (zs : List ℤ) (z : ℤ) (x : Option ℕ) → natural zs ≡ x → ranged true x ≡ some z → IsLiteral (pos 45 ∷ zs) z
minus_is zs z none q e = absurd (none-ne-some z e)
minus_is zs z (some m) q e = at (leb m (2 ^ 63)) refl e
  where
    at : (b : Bool) → leb m (2 ^ 63) ≡ b → cond b (some (neg_ℤ (pos m))) none ≡ some z → IsLiteral (pos 45 ∷ zs) z
    at true l e = subst (IsLiteral (pos 45 ∷ zs)) (some-injective _ _ e) (minus (natural_is zs m q) (leb-true m (2 ^ 63) l))
    at false l e = absurd (none-ne-some z e)

minus_sign : (z : ℤ) → equalℤ z (pos 45) ≡ true → z ≡ pos 45
minus_sign (pos c) e = ap pos (eqb-true c 45 e)
minus_sign (negsuc c) e = absurd (false≢true e)

pub literal_is_literal : LiteralIsLiteral
literal_is_literal [] z e = absurd (none-ne-some z e)
literal_is_literal (y ∷ zs) z e = at (equalℤ y (pos 45)) refl e
  where
    at : (b : Bool) → equalℤ y (pos 45) ≡ b → cond b (ranged true (natural zs)) (ranged false (natural (y ∷ zs))) ≡ some z → IsLiteral (y ∷ zs) z
    at true q e = subst (λ (w : ℤ). IsLiteral (w ∷ zs) z) (sym (minus_sign y q)) (minus_is zs z (natural zs) refl e)
    at false q e = plain_is (y ∷ zs) z (natural (y ∷ zs)) refl e

-- a digit is no minus
not_minus : {zs : List ℤ} {m : ℕ} → IsNatural zs m → (z : ℤ) → literal zs ≡ ranged false (natural zs)
not_minus (is_natural d ds l h s) z = cond-false (eqb (48 + d) 45) _ _ (ne_eqb (48 + d) 45 (λ e. let f : ⊥ = omega arith in f))

pub literals_are_taken : LiteralsAreTaken
literals_are_taken zs z (plain {m = m} n h) = not_minus n z ∙ ap (ranged false) (natural-taken n) ∙ cond-true (ltb m (2 ^ 63)) _ _ (lt-ltb m (2 ^ 63) h)
literals_are_taken zs z (minus {m = m} n h) = ap (ranged true) (natural-taken n) ∙ cond-true (leb m (2 ^ 63)) _ _ (le-leb m (2 ^ 63) h)

-- the decimal text of a number above 0 is a literal

value_last : (m : ℕ) (ds : List ℕ) (e : ℕ) → value_on m (ds ++ (e ∷ [])) ≡ 10 * value_on m ds + e
value_last m [] e = refl
value_last m (d ∷ ds) e = value_last (10 * m + d) ds e

codes_append : (ds es : List ℕ) → map code (ds ++ es) ≡ map code ds ++ map code es
codes_append [] es = refl
codes_append (d ∷ ds) es = ap {B = List ℤ} (λ l. code d ∷ l) (codes_append ds es)

pos_append : (xs ys : List ℕ) → map pos (xs ++ ys) ≡ map pos xs ++ map pos ys
pos_append [] ys = refl
pos_append (x ∷ xs) ys = ap {B = List ℤ} (λ l. pos x ∷ l) (pos_append xs ys)

natural-last : {zs : List ℤ} {m : ℕ} (e : ℕ) → e ≤ 9 → IsNatural zs m → IsNatural (zs ++ (code e ∷ [])) (10 * m + e)
natural-last e h (is_natural d ds l k s) =
    subst (λ (z : List ℤ). IsNatural z (10 * value_on d ds + e)) (codes_append (d ∷ ds) (e ∷ []))
    (subst (λ (m : ℕ). IsNatural (map code ((d ∷ ds) ++ (e ∷ []))) m) (value_last d ds e) (is_natural d (ds ++ (e ∷ [])) l k (each_append (λ (x : ℕ). x ≤ 9) ds (e ∷ []) s (h, tt))))

decimal-natural : (n : ℕ) → n < 2 ^ 64 → 0 < n → IsNatural (map pos (decimal n)) n
decimal-natural n small =
    decimal_by_steps (λ n ds. 0 < n → IsNatural (map pos ds) n)
    (λ n l p. is_natural n [] p (omega arith) tt)
    (λ n ds l r p. subst (λ (m : ℕ). IsNatural (map pos (ds ++ ((48 + n % 10) ∷ []))) m) (omega arith)
    (subst (λ (z : List ℤ). IsNatural z (10 * (n / 10) + n % 10)) (sym (pos_append ds ((48 + n % 10) ∷ []))) (natural-last (n % 10) (omega arith) (r (omega arith)))))
    n small

signed_literal : (z : ℤ) → SFits w64 z → is_zero z ≡ false → IsLiteral (map pos (signed_decimal z)) z
signed_literal (pos zero) f e = absurd (true≢false e)
signed_literal (pos (suc n)) f e = plain (decimal-natural (suc n) (omega (arith, f.sfits)) (omega arith)) f.sfits
signed_literal (negsuc n) f e = minus (decimal-natural (suc n) (omega (arith, f.sfits)) (omega arith)) f.sfits

pub numeral_is_taken : NumeralIsTaken
numeral_is_taken z f e = rw (numeral_is_written z f) (literals_are_taken (map pos (signed_decimal z)) z (signed_literal z f e))

-- nested arrays

length-grown : (s : Store) (t n : ℕ) → length (grown s t (replicate n none)).cells ≡ length s.cells + suc n
length-grown s t n = length-append s.cells (some (int (pos (length (replicate n none)))) ∷ replicate n none) ∙ ap (λ (z : ℕ). length s.cells + suc z) (length-replicate n none)

filled-takes : (m : ℕ) (make : Store → Store) → ((s : Store) → length (make s).cells ≡ length s.cells + m) → (n c : ℕ) (s : Store) → length (filled n c make s).cells ≡ length s.cells + n * m
filled-takes m make f zero c s = omega (arith, zero-mul m)
filled-takes m make f (suc n) c s =
    filled-takes m make f n (suc c) (with_cell (make s) c (array (length s.cells)))
    ∙ ap (λ (z : ℕ). z + n * m) (length-set (make s).cells c (some (array (length s.cells))) ∙ f s) ∙ omega (arith, suc-mul n m)

pub nested-takes : NestedTakes
nested-takes t n [] s = length-grown s t n ∙ omega (arith, mul-zero n)
nested-takes t n (m ∷ ns) s =
    filled-takes (cells_for (m ∷ ns)) (nested (element_of t) (m ∷ ns)) (nested-takes (element_of t) m ns) n (suc (length s.cells)) (grown s t (replicate n none))
    ∙ ap (λ (z : ℕ). z + n * cells_for (m ∷ ns)) (length-grown s t n) ∙ omega arith

-- making leaves the cells of before

at_front : {A : Type 0} (l r : List A) (p : ℕ) → p < length l → get_elem? (l ++ r) p ≡ get_elem? l p
at_front [] r p h = absurd (not-suc-le-zero h)
at_front (x ∷ l) r zero h = refl
at_front (x ∷ l) r (suc p) h = at_front l r p (le_of_suc-le-suc h)

at_set : {A : Type 0} (l : List A) (i : ℕ) (a : A) → i < length l → get_elem? (set l i a) i ≡ some a
at_set [] i a h = absurd (not-suc-le-zero h)
at_set (x ∷ l) zero a h = refl
at_set (x ∷ l) (suc i) a h = at_set l i a (le_of_suc-le-suc h)

at_set_below : {A : Type 0} (l : List A) (i j : ℕ) (a : A) → j < i → get_elem? (set l i a) j ≡ get_elem? l j
at_set_below [] i j a h = refl
at_set_below (x ∷ l) zero j a h = absurd (not-suc-le-zero h)
at_set_below (x ∷ l) (suc i) zero a h = refl
at_set_below (x ∷ l) (suc i) (suc j) a h = at_set_below l i j a (le_of_suc-le-suc h)

abbrev Keeps : (Store → Store) → Type 0
Keeps make = (s : Store) (p : ℕ) → p < length s.cells → get_elem? (make s).cells p ≡ get_elem? s.cells p

module _ (m : ℕ) (make : Store → Store) (takes : (s : Store) → length (make s).cells ≡ length s.cells + m) (keeps : Keeps make) where
  filled_keeps : (n c : ℕ) (s : Store) (p : ℕ) → p < c → p < length s.cells → get_elem? (filled n c make s).cells p ≡ get_elem? s.cells p
  filled_keeps zero c s p h l = refl
  filled_keeps (suc n) c s p h l =
      filled_keeps n (suc c) (with_cell (make s) c (array (length s.cells))) p (omega arith) (rw (length-set (make s).cells c (some (array (length s.cells))), takes s) (omega arith))
      ∙ at_set_below (make s).cells c p (some (array (length s.cells))) h ∙ keeps s p l

  filled-in-order : (n c : ℕ) (s : Store) → c + n ≤ length s.cells → (i : ℕ) → i < n → get_elem? (filled n c make s).cells (c + i) ≡ some (some (array (length s.cells + i * m)))
  filled-in-order zero c s h i lt = absurd (not-suc-le-zero lt)
  filled-in-order (suc n) c s h zero lt =
      let s₁ : Store = with_cell (make s) c (array (length s.cells)) in
      let l : length s₁.cells ≡ length s.cells + m = length-set (make s).cells c (some (array (length s.cells))) ∙ takes s in
      ap (λ (q : ℕ). get_elem? (filled n (suc c) make s₁).cells q) (add-zero c)
      ∙ filled_keeps n (suc c) s₁ c (omega arith) (omega (arith, l)) ∙ at_set (make s).cells c (some (array (length s.cells))) (omega (arith, takes s))
      ∙ ap {B = Option Slot} (λ (q : ℕ). some (some (array q))) (omega (arith, zero-mul m))
  filled-in-order (suc n) c s h (suc i) lt =
      let s₁ : Store = with_cell (make s) c (array (length s.cells)) in
      let l : length s₁.cells ≡ length s.cells + m = length-set (make s).cells c (some (array (length s.cells))) ∙ takes s in
      ap (λ (q : ℕ). get_elem? (filled n (suc c) make s₁).cells q) (omega arith)
      ∙ filled-in-order n (suc c) s₁ (omega (arith, l)) i (omega arith)
      ∙ ap {B = Option Slot} (λ (q : ℕ). some (some (array q))) (omega (arith, l, suc-mul i m))

nested_keeps : (t n : ℕ) (ns : List ℕ) → Keeps (nested t (n ∷ ns))
nested_keeps t n [] s p h = at_front s.cells _ p h
nested_keeps t n (m ∷ ns) s p h =
    filled_keeps (cells_for (m ∷ ns)) (nested (element_of t) (m ∷ ns)) (nested-takes (element_of t) m ns) (nested_keeps (element_of t) m ns) n (suc (length s.cells)) (grown s t (replicate n none)) p
    (omega arith) (omega (arith, length-grown s t n))
    ∙ at_front s.cells _ p h

pub nested_in_order : NestedInOrder
nested_in_order t n m ns s =
    let g : Store = grown s t (replicate n none) in
    record {
      outer =
          filled_keeps (cells_for (m ∷ ns)) (nested (element_of t) (m ∷ ns)) (nested-takes (element_of t) m ns) (nested_keeps (element_of t) m ns) n (suc (length s.cells)) g (length s.cells)
          (omega arith) (omega (arith, length-grown s t n))
          ∙ at_first s.cells (replicate n none) ∙ ap {B = Option Slot} (λ (k : ℕ). some (some (int (pos k)))) (length-replicate n none);
      inner = λ i lt.
          ap (λ (q : ℕ). get_elem? (nested t (n ∷ m ∷ ns) s).cells q) (omega arith)
          ∙ filled-in-order (cells_for (m ∷ ns)) (nested (element_of t) (m ∷ ns)) (nested-takes (element_of t) m ns) (nested_keeps (element_of t) m ns) n (suc (length s.cells)) g (omega (arith, length-grown s t n)) i lt
          ∙ ap {B = Option Slot} (λ (q : ℕ). some (some (array (q + i * cells_for (m ∷ ns))))) (length-grown s t n);
    }
