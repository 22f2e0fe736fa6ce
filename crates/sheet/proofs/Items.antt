-- Items that lie one after another.
use Rattle.std.proofs.Common.{◌≡◌, ℕ, suc, ◌+◌, ◌*◌, ◌/◌, ◌<◌, List, [], ◌∷◌, ◌++◌, length, take, drop, slice_index, sym, ap, ◌∙◌, arith, zero, refl, mul-suc, mul-add, mul-one, one-mul, add-zero, length-append, Bool, true, false, ◌&&◌, lit<}
use Rattle.std.proofs.Math.Nat.{add-div_left}
use Rattle.std.proofs.Math.Seq.{take-append_seam, drop-append_seam}
use Rattle.std.proofs.Math.Numerals.{add-one}
use Rattle.std.proofs.lemmas.List.{get_or-take, get_or-drop, drop-take, drop-drop, take-take}
use Rattle.xi.specs.declared.rule.Rule.{Rule}
use Rattle.xi.specs.declared.rule.Rule.TheVariants.{Range}
use Rattle.xi.specs.declared.node.Ty.{Ty}
use Rattle.xi.specs.declared.program.Parameter.{Parameter}
use Rattle.sheet.specs.Outcome.{Outcome, good, bad, then, held, runs}
use Rattle.sheet.specs.Fields.{items_in}
use Rattle.sheet.specs.Functions.{parameter_reads, result_reads, parameter_item, result_item, parameters_of, results_of}
use Rattle.sheet.proofs.Outcomes.{then_good, then_bad}

-- the bytes are those of an item, and the rest
module _ {A : Type 0} (n : ℕ) (reads : ℕ → List ℕ → Outcome A) (p : ℕ) (w x rest : List ℕ) (xs : List A) (some : 0 < n) (parts : w ≡ x ++ rest) (long : length x ≡ n) where
  pub counted : length w / n ≡ suc (length rest / n)
  counted =
      let e : length w ≡ n + length rest = ap length parts ∙ length-append x rest ∙ ap (λ k. k + length rest) long in
      ap (λ k. k / n) e ∙ add-div_left (length rest) some ∙ add-one _

  taken : take n w ≡ x
  taken = (λ j. take (sym long j) (parts j)) ∙ take-append_seam x rest

  dropped : drop n w ≡ rest
  dropped = (λ j. drop (sym long j) (parts j)) ∙ drop-append_seam x rest

  one_more : items_in n reads p (length w / n) w xs ≡ then (reads p x) (λ y. items_in n reads p (length rest / n) rest (xs ++ y ∷ []))
  one_more =
      ap (λ m. items_in n reads p m w xs) counted
      ∙ (λ j. then (reads p (taken j)) (λ y. items_in n reads p (length rest / n) (dropped j) (xs ++ y ∷ [])))

  pub item-bad : (k : Rule) (q : ℕ) → reads p x ≡ bad k q → items_in n reads p (length w / n) w xs ≡ bad k q
  item-bad k q e = one_more ∙ then_bad _ e

  pub item-good : (y : A) → reads p x ≡ good y → items_in n reads p (length rest / n) rest (xs ++ y ∷ []) ≡ items_in n reads p (length w / n) w xs
  item-good y e = sym (one_more ∙ then_good _ e)

-- The items that lie from b on in the bytes w, by their number: `go` reads one.
module _ {A : Type 0} (n : ℕ) (reads : ℕ → List ℕ → Outcome A) (p b : ℕ) (w : List ℕ) (go : ℕ → List A → Outcome (List A))
    (each : (i : ℕ) (xs : List A) → then (reads p (take n (drop (b + n * i) w))) (λ x. good (xs ++ x ∷ [])) ≡ go i xs)
  where
    from_item : ℕ → List ℕ
    from_item i = drop (b + n * i) w

    first : (m i : ℕ) → take n (take (n * suc m) (drop (b + n * i) w)) ≡ take n (drop (b + n * i) w)
    first m i = take-take n (n * suc m) _ (omega (arith, mul-suc n m))

    others : (m i : ℕ) → drop n (take (n * suc m) (drop (b + n * i) w)) ≡ take (n * m) (drop (b + n * (i + 1)) w)
    others m i =
        let e : n * suc m ≡ n + n * m = omega (arith, mul-suc n m) in
        let f : b + n * i + n ≡ b + n * (i + 1) = omega (arith, mul-add n i 1, mul-one n) in
        ap (λ k. drop n (take k (drop (b + n * i) w))) e ∙ drop-take n (n * m) _ ∙ ap (take (n * m)) (drop-drop n (b + n * i) w ∙ ap (λ k. drop k w) f)

    goes : (o : Outcome A) (f : A → Outcome (List A)) (xs : List A) (g : List A → Outcome (List A)) → ((x : A) → f x ≡ g (xs ++ x ∷ [])) → then o f ≡ then (then o (λ x. good (xs ++ x ∷ []))) g
    goes (good x) f xs g h = h x
    goes (bad k q) f xs g h = refl

    pub by_number : (m i : ℕ) (xs : List A) → items_in n reads p m (take (n * m) (drop (b + n * i) w)) xs ≡ runs go m i xs
    by_number zero i xs = refl
    by_number (suc m) i xs =
        (λ j. then (reads p (first m i j)) (λ x. items_in n reads p m (others m i j) (xs ++ x ∷ [])))
        ∙ goes (reads p (take n (drop (b + n * i) w))) _ xs _ (λ x. by_number m (i + 1) (xs ++ x ∷ []))
        ∙ ap (λ o. then o (λ t. runs go m (i + 1) t)) (each i xs)

at_place : (w : List ℕ) (i n k : ℕ) → k < n → slice_index (take n (drop i w)) k ≡ slice_index w (i + k)
at_place w i n k h = get_or-take n (drop i w) k 0 h ∙ get_or-drop i w k 0

at_front : (w : List ℕ) (i n : ℕ) → 0 < n → slice_index (take n (drop i w)) 0 ≡ slice_index w i
at_front w i n h = at_place w i n 0 h ∙ ap (slice_index w) (add-zero i)

parameter_from : (a b : Bool) (p x t : ℕ) (xs : List Parameter)
    → then (then (then (held a Range p) (λ _. good x)) (λ x. then {B = Parameter} (then {B = Ty} (held b Range p) (λ _. good (record { number = t }))) (λ t. good (record { name = x; ty = t })))) (λ x. good (xs ++ x ∷ []))
    ≡ then (held (a && b) Range p) (λ _. good (xs ++ record { name = x; ty = record { number = t } } ∷ []))
parameter_from true true p x t xs = refl
parameter_from true false p x t xs = refl
parameter_from false b p x t xs = refl

parameter_each : (names p : ℕ) (w : List ℕ) (i : ℕ) (xs : List Parameter) → then (parameter_reads names p (take 3 (drop (3 + 3 * i) w))) (λ x. good (xs ++ x ∷ [])) ≡ parameter_item names w p (3 + 3 * i) xs
parameter_each names p w i xs =
    let x = at_front w (3 + 3 * i) 3 (lit< tt) in
    let y = at_place w (3 + 3 * i) 3 1 (lit< tt) in
    let t = at_place w (3 + 3 * i) 3 2 (lit< tt) in
    rw (x, y, t) (parameter_from _ _ p _ _ xs)

-- the parameters in the part b of the record w
pub parameters_read : (names p q m : ℕ) (w b : List ℕ) (xs : List Parameter) → b ≡ take (3 * m) (drop 3 w) → length b ≡ 3 * m → q ≡ p → items_in 3 (parameter_reads names) q (length b / 3) b xs ≡ parameters_of names w p m xs
parameters_read names p q m w b xs e l h =
    let f : length b / 3 ≡ m = omega (arith, l) in
    (λ j. items_in 3 (parameter_reads names) (h j) (f j) (e j) xs)
    ∙ by_number 3 (parameter_reads names) p 3 w (λ i s. parameter_item names w p (3 + 3 * i) s) (parameter_each names p w) m 0 xs

result_from : (a : Bool) (p t : ℕ) (xs : List Ty) → then (then {B = Ty} (held a Range p) (λ _. good (record { number = t }))) (λ x. good (xs ++ x ∷ [])) ≡ then (held a Range p) (λ _. good (xs ++ record { number = t } ∷ []))
result_from true p t xs = refl
result_from false p t xs = refl

result_each : (p b : ℕ) (w : List ℕ) (i : ℕ) (xs : List Ty) → then (result_reads p (take 1 (drop (b + 1 * i) w))) (λ x. good (xs ++ x ∷ [])) ≡ result_item w p (b + i) xs
result_each p b w i xs =
    let t = at_front w (b + 1 * i) 1 (lit< tt) in
    let e : b + 1 * i ≡ b + i = omega arith in
    rw (t, e) (result_from _ p _ xs)

-- the results in the part c of the record w, which begins at b
pub results_read : (p q b m : ℕ) (w c : List ℕ) (xs : List Ty) → c ≡ take m (drop b w) → length c ≡ m → q ≡ p → items_in 1 result_reads q (length c / 1) c xs ≡ results_of w p b m xs
results_read p q b m w c xs e l h =
    let f : length c / 1 ≡ m = omega (arith, l) in
    let g : c ≡ take (1 * m) (drop (b + 1 * 0) w) = e ∙ (λ j. take (sym (one-mul m) j) (drop (sym (add-zero b) j) w)) in
    (λ j. items_in 1 result_reads (h j) (f j) (g j) xs) ∙ by_number 1 result_reads p b w (λ i s. result_item w p (b + i) s) (result_each p b w) m 0 xs
