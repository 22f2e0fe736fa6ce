-- The reading of one pair of hexadecimal digits more.
use Rattle.std.proofs.Common.{◌≡◌, ℕ, suc, ◌-◌, ◌%◌, ◌≤◌, List, [], ◌∷◌, ◌++◌, length, take, drop, get_or, Some, None, Option, refl, sym, ap, ◌∙◌, arith}
use Rattle.std.proofs.lemmas.List.{take_all}
use Rattle.report.specs.Hexadecimal.{digit_of, joined, with, pairs_after}

-- xs begins with a pair that says b, and bs and b make cs
pub next-pair : (xs bs cs : List ℕ) (b : ℕ) → 2 ≤ length xs → joined (digit_of (get_or xs 0 0)) (digit_of (get_or xs 1 0)) ≡ Some b → cs ≡ bs ++ b ∷ [] → pairs_after cs (take (length xs - 2) (drop 2 xs)) ≡ pairs_after bs xs
next-pair [] bs cs b h e f = absurd (omega arith)
next-pair (x ∷ []) bs cs b h e f = absurd (omega arith)
next-pair (x ∷ y ∷ t) bs cs b h e f =
    let n : suc (suc (length t)) - 2 ≡ length t = omega arith in
    ap (λ m. pairs_after cs (take m t)) n
    ∙ ap (pairs_after cs) (take_all (length t) t (omega arith))
    ∙ ap (λ l. pairs_after l t) f
    ∙ sym (ap (λ o. with o (λ c. pairs_after (bs ++ c ∷ []) t)) e)

none_of : (o : Option ℕ) (f : ℕ → Option (List ℕ)) → ((b : ℕ) → f b ≡ None) → with o f ≡ None
none_of None f h = refl
none_of (Some b) f h = h b

-- an odd number of digits says no bytes
pub odd-none : (xs bs : List ℕ) → length xs % 2 ≡ 1 → pairs_after bs xs ≡ None
odd-none [] bs h = absurd (omega arith)
odd-none (x ∷ []) bs h = refl
odd-none (x ∷ y ∷ t) bs h = none_of _ _ (λ b. odd-none t (bs ++ b ∷ []) (omega arith))

-- behind a pair the number of digits is even, where it was
pub even-behind : (xs : List ℕ) → 2 ≤ length xs → length xs % 2 ≡ 0 → length (take (length xs - 2) (drop 2 xs)) % 2 ≡ 0
even-behind [] h e = absurd (omega arith)
even-behind (x ∷ []) h e = absurd (omega arith)
even-behind (x ∷ y ∷ t) h e =
    let n : suc (suc (length t)) - 2 ≡ length t = omega arith in
    let l : length (take (suc (suc (length t)) - 2) t) ≡ length t = ap (λ m. length (take m t)) n ∙ ap length (take_all (length t) t (omega arith)) in
    ap (λ m. m % 2) l ∙ omega arith
