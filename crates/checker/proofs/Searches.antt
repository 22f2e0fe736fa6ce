-- What a search through a list finds, and the tests of its items that it stands for.
use Rattle.std.proofs.Common.{◌≡◌, ℕ, suc, ◌+◌, ◌<◌, ◌≤◌, Bool, true, false, cond, not, ◌||◌, eqb, List, [], ◌∷◌, ◌++◌, map, length, get_or, take, Some, Option, sym, refl, ap, ◌∙◌, append-nil, append_assoc, zero-add, arith}
use Rattle.std.proofs.lemmas.List.{map-append}
use Rattle.std.specs.List.{list_any, position_from}
use Rattle.xi.specs.declared.rule.Rule.{Rule}
use Rattle.sheet.specs.Outcome.{Outcome, then, held, runs}
use Rattle.checker.specs.Checked.{has_name}
use Rattle.checker.specs.Repeats.{fails_at, repeated_in, repeated}

-- a name is among the names where some item has it
pub has_name-any : {A : Type 0} (name : A → ℕ) (x : ℕ) (xs : List A) → list_any (λ a. eqb (name a) x) xs ≡ has_name name xs x
has_name-any name x [] = refl
has_name-any name x (a ∷ xs) = ap (λ b. eqb (name a) x || b) (has_name-any name x xs)

-- the names of what is made of some things
pub has_name-map : {A B : Type 0} (f : A → B) (name : B → ℕ) (x : ℕ) (xs : List A) → has_name name (map f xs) x ≡ has_name (λ a. name (f a)) xs x
has_name-map f name x [] = refl
has_name-map f name x (a ∷ xs) = ap (λ b. eqb (name (f a)) x || b) (has_name-map f name x xs)

module _ (K : Rule) (p : ℕ → ℕ) (g : ℕ → Bool) where
  -- tests one after another, from i on
  abbrev tests : ℕ → ℕ → Outcome (Unit {0})
  tests n i = runs (λ j _. held (g j) K (p j)) n i tt

  -- one test more
  tests_more : (n i : ℕ) (b : Bool) (o : Option ℕ) → g i ≡ not b → tests n (i + 1) ≡ fails_at K p o → tests (suc n) i ≡ fails_at K p (cond b (Some i) o)
  tests_more n i true o e r = ap (λ v. then (held v K (p i)) (λ u. tests n (i + 1))) e
  tests_more n i false o e r = ap (λ v. then (held v K (p i)) (λ u. tests n (i + 1))) e ∙ r

  module _ {A : Type 0} (d : A) where
    -- no item passes the test t
    tests-position_from : (t : A → Bool) (xs : List A) (i : ℕ) → ((j k : ℕ) → j ≡ i + k → k < length xs → g j ≡ not (t (get_or xs k d))) → tests (length xs) i ≡ fails_at K p (position_from t i xs)
    tests-position_from t [] i h = refl
    tests-position_from t (x ∷ xs) i h =
        tests_more (length xs) i (t x) (position_from t (i + 1) xs) (h i 0 (omega arith) (omega arith))
        (tests-position_from t xs (i + 1) (λ j k e l. h j (suc k) (omega arith) (omega arith)))

    -- no item has the name of an earlier one
    tests-repeated_in : (name : A → ℕ) (seen xs : List A) (i : ℕ) → ((j k : ℕ) → j ≡ i + k → k < length xs → g j ≡ not (has_name name (seen ++ take k xs) (name (get_or xs k d)))) → tests (length xs) i ≡ fails_at K p (repeated_in name seen i xs)
    tests-repeated_in name seen [] i h = refl
    tests-repeated_in name seen (x ∷ xs) i h =
        tests_more (length xs) i (has_name name seen (name x)) (repeated_in name (seen ++ x ∷ []) (i + 1) xs)
        (h i 0 (omega arith) (omega arith) ∙ ap (λ ys. not (has_name name ys (name x))) (append-nil seen))
        (tests-repeated_in name (seen ++ x ∷ []) xs (i + 1) (λ j k e l. h j (suc k) (omega arith) (omega arith) ∙ ap (λ ys. not (has_name name ys (name (get_or xs k d)))) (sym (append_assoc seen (x ∷ []) (take k xs)))))

module _ {A : Type 0} (d : A) (K : Rule) (p : ℕ → ℕ) (xs : List A) where
  -- tests of which each says that an item does not pass the test t
  pub tests-position : (g : ℕ → Bool) (t : A → Bool) → ((i : ℕ) → i < length xs → g i ≡ not (t (get_or xs i d))) → runs (λ i _. held (g i) K (p i)) (length xs) 0 tt ≡ fails_at K p (position_from t 0 xs)
  tests-position g t same = tests-position_from K p g d t xs 0 (λ j k e l. ap g (e ∙ zero-add k) ∙ same k l)

  -- tests of which each says that an item does not have the name of an earlier one
  pub tests-repeated : (name : A → ℕ) → runs (λ i _. held (not (has_name name (take i xs) (name (get_or xs i d)))) K (p i)) (length xs) 0 tt ≡ fails_at K p (repeated name xs)
  tests-repeated name =
      tests-repeated_in K p (λ i. not (has_name name (take i xs) (name (get_or xs i d)))) d name [] xs 0 (λ j k e l. ap (λ i. not (has_name name (take i xs) (name (get_or xs i d)))) (e ∙ zero-add k))

-- what is found is the number of an item
first_within : (i n j : ℕ) (b : Bool) (o : Option ℕ) → (o ≡ Some j → (i + 1 ≤ j) × (j < i + 1 + n)) → cond b (Some i) o ≡ Some j → (i ≤ j) × (j < i + (n + 1))
first_within i n j true o h e = let z : i ≡ j = cc in (omega arith, omega arith)
first_within i n j false o h e = let z : (i + 1 ≤ j) × (j < i + 1 + n) = h e in (omega arith, omega arith)

repeated_in-within : {A : Type 0} (name : A → ℕ) (seen xs : List A) (i j : ℕ) → repeated_in name seen i xs ≡ Some j → (i ≤ j) × (j < i + length xs)
repeated_in-within name seen [] i j e = absurd (let z : ◌≡◌ {A = ℕ} 0 1 = cc in omega arith)
repeated_in-within name seen (x ∷ xs) i j e =
    let z = first_within i (length xs) j (has_name name seen (name x)) (repeated_in name (seen ++ x ∷ []) (i + 1) xs) (λ q. repeated_in-within name (seen ++ x ∷ []) xs (i + 1) j q) e in (omega arith, omega arith)

pub repeated-within : {A : Type 0} (name : A → ℕ) (xs : List A) (j : ℕ) → repeated name xs ≡ Some j → j < length xs
repeated-within name xs j e = let z = repeated_in-within name [] xs 0 j e in omega arith

-- the names of what is made of some things
repeated_in-map : {A B : Type 0} (f : A → B) (name : B → ℕ) (seen xs : List A) (i : ℕ) → repeated_in name (map f seen) i (map f xs) ≡ repeated_in (λ a. name (f a)) seen i xs
repeated_in-map f name seen [] i = refl
repeated_in-map f name seen (x ∷ xs) i =
    ap (λ b. cond b (Some i) (repeated_in name (map f seen ++ f x ∷ []) (i + 1) (map f xs))) (has_name-map f name (name (f x)) seen)
    ∙ ap (λ o. cond (has_name (λ a. name (f a)) seen (name (f x))) (Some i) o)
    (ap (λ ys. repeated_in name ys (i + 1) (map f xs)) (sym (map-append f seen (x ∷ []))) ∙ repeated_in-map f name (seen ++ x ∷ []) xs (i + 1))

pub repeated-map : {A B : Type 0} (f : A → B) (name : B → ℕ) (xs : List A) → repeated name (map f xs) ≡ repeated (λ a. name (f a)) xs
repeated-map f name xs = repeated_in-map f name [] xs 0
