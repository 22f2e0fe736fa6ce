-- What holds of each item of a list.
use Rattle.std.proofs.Common.{ℕ, zero, suc, ◌<◌, List, [], ◌∷◌, ◌++◌, length, get_or, le_of_suc-le-suc, not-suc-le-zero, arith}
use Rattle.xi.specs.Tree.{Each}

module _ {A : Type 0} where
  -- what each item has, and what follows from it
  pub each-onto : (Q R : A → Type 0) → ((x : A) → Q x → R x) → (xs : List A) → Each Q xs → Each R xs
  each-onto Q R f [] h = tt
  each-onto Q R f (x ∷ xs) h = (f x h.0, each-onto Q R f xs h.1)

  -- what follows of each item from two facts
  pub each_both : (Q R S : A → Type 0) → ((x : A) → Q x → R x → S x) → (xs : List A) → Each Q xs → Each R xs → Each S xs
  each_both Q R S f [] h k = tt
  each_both Q R S f (x ∷ xs) h k = (f x h.0 k.0, each_both Q R S f xs h.1 k.1)

  -- two lists, one after the other
  pub each_append : (Q : A → Type 0) (xs ys : List A) → Each Q xs → Each Q ys → Each Q (xs ++ ys)
  each_append Q [] ys h k = k
  each_append Q (x ∷ xs) ys h k = (h.0, each_append Q xs ys h.1 k)

  -- the first of two lists
  pub each_left : (Q : A → Type 0) (xs ys : List A) → Each Q (xs ++ ys) → Each Q xs
  each_left Q [] ys h = tt
  each_left Q (x ∷ xs) ys h = (h.0, each_left Q xs ys h.1)

  -- the second of two lists
  pub each_right : (Q : A → Type 0) (xs ys : List A) → Each Q (xs ++ ys) → Each Q ys
  each_right Q [] ys h = h
  each_right Q (x ∷ xs) ys h = each_right Q xs ys h.1

  -- the item at a place
  pub each_at : (Q : A → Type 0) (xs : List A) (i : ℕ) (d : A) → i < length xs → Each Q xs → Q (get_or xs i d)
  each_at Q [] i d l h = absurd (not-suc-le-zero l)
  each_at Q (x ∷ xs) zero d l h = h.0
  each_at Q (x ∷ xs) (suc i) d l h = each_at Q xs i d (le_of_suc-le-suc l) h.1

  -- from every place
  pub each_from : (Q : A → Type 0) (xs : List A) (d : A) → ((i : ℕ) → i < length xs → Q (get_or xs i d)) → Each Q xs
  each_from Q [] d h = tt
  each_from Q (x ∷ xs) d h = (h 0 (omega arith), each_from Q xs d (λ i l. h (suc i) (omega arith)))

  -- what each item has under a hypothesis
  pub each-given : (X : Type 0) (Q : A → Type 0) (xs : List A) → (X → Each Q xs) → Each (λ (x : A). X → Q x) xs
  each-given X Q [] h = tt
  each-given X Q (x ∷ xs) h = (λ y. (h y).0, each-given X Q xs (λ y. (h y).1))
