-- The length of a row, found by one character after another, or by one part of the text after another.
use Rattle.std.proofs.Common.{◌≡◌, ℕ, zero, suc, ◌+◌, ◌≤◌, min, List, [], ◌∷◌, ◌++◌, length, take, drop, Some, None, ◌∙◌, arith}
use Rattle.std.proofs.lemmas.List.Sums.{prefix_len-le-length}
use Rattle.std.proofs.lemmas.List.Folds.{prefix_len-append}
use Rattle.std.proofs.lemmas.Bool.{eq-eqb, cond-true}
use Rattle.std.proofs.lemmas.Bool.Decides.{nat_tests}
use Rattle.host.specs.Text.{item, row_length}

pub row_length-le : (cs : List ℕ) → row_length cs ≤ length cs
row_length-le cs = prefix_len-le-length _ cs

-- a step of a search for the row's end: at any other character, at a newline, and at the end of the text
pub row_more : (cs : List ℕ) (i c : ℕ) → i ≤ row_length cs → Some c ≡ item cs i → (c ≡ 10 → ⊥) → i + 1 ≤ row_length cs
row_more [] i c h e n = grind (arith, nat_tests)
row_more (d ∷ cs) zero c h e n = grind (arith, nat_tests)
row_more (d ∷ cs) (suc i) c h e n =
    let again : i ≤ row_length cs → Some c ≡ item cs i → i + 1 ≤ row_length cs = λ k m. row_more cs i c k m n in
    grind (arith, nat_tests)

pub row_at_newline : (cs : List ℕ) (i c : ℕ) → i ≤ row_length cs → Some c ≡ item cs i → c ≡ 10 → row_length cs ≡ i
row_at_newline [] i c h e n = grind (arith, nat_tests)
row_at_newline (d ∷ cs) zero c h e n = grind (arith, nat_tests)
row_at_newline (d ∷ cs) (suc i) c h e n =
    let again : i ≤ row_length cs → Some c ≡ item cs i → row_length cs ≡ i = λ k m. row_at_newline cs i c k m n in
    grind (arith, nat_tests)

pub row_at_end : (cs : List ℕ) (i : ℕ) → i ≤ row_length cs → None ≡ item cs i → row_length cs ≡ i
row_at_end cs i h e = let l = row_length-le cs in grind (arith, nat_tests)

-- the row of the text's front
pub row-take : (n : ℕ) (cs : List ℕ) → row_length (take n cs) ≡ min n (row_length cs)
row-take zero cs = grind (arith, nat_tests)
row-take (suc n) [] = grind (arith, nat_tests)
row-take (suc n) (c ∷ cs) = let again = row-take n cs in grind (arith, nat_tests)

-- a text with no newline, of which the row's length is the whole length
pub plain-cons : (c : ℕ) (cs : List ℕ) → (c ≡ 10 → ⊥) → row_length cs ≡ length cs → row_length (c ∷ cs) ≡ length (c ∷ cs)
plain-cons c cs n e = grind (arith, nat_tests)

plain_rest : (c : ℕ) (cs : List ℕ) → row_length (c ∷ cs) ≡ length (c ∷ cs) → (c ≡ 10 → ⊥) × (row_length cs ≡ length cs)
plain_rest c cs e = grind (arith, nat_tests)

pub plain-drop : (n : ℕ) (cs : List ℕ) → row_length cs ≡ length cs → row_length (drop n cs) ≡ length (drop n cs)
plain-drop zero cs e = e
plain-drop (suc n) [] e = e
plain-drop (suc n) (c ∷ cs) e = plain-drop n cs (plain_rest c cs e).1

pub row-append : (cs ds : List ℕ) → row_length cs ≡ length cs → row_length (cs ++ ds) ≡ length cs + row_length ds
row-append cs ds e = prefix_len-append _ cs ds ∙ cond-true _ _ _ (eq-eqb _ _ e)
