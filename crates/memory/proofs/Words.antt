-- The words of a stack, newest first.
use Rattle.std.proofs.Common.{◌≡◌, ℕ, zero, suc, ◌+◌, ◌-◌, ◌<◌, ◌≤◌, List, [], ◌∷◌, ◌++◌, reverse, length, get_or, take, drop, refl, sym, ap, ◌∙◌, arith}
use Rattle.std.proofs.lemmas.List.{reverse-append, reverse-reverse, length-reverse, length-take-le, length-drop, take_at}
use Rattle.std.proofs.lemmas.Slice.{take-put_mid}
use Rattle.std.proofs.Math.Seq.{take-add, take-suc}
use borrow.Rule.Slice.PartMut.{put_mid}
use Rattle.memory.specs.Stacks.{newest_first}

-- the first n words, the last of them first, are those words turned
pub turned_newest : (ws : List ℕ) (n : ℕ) → n ≤ length ws → reverse (take n ws) ≡ newest_first ws n
turned_newest ws zero h = refl
turned_newest ws (suc n) h =
    ap reverse (take-suc ws n 0 (omega arith)) ∙ reverse-append (take n ws) (get_or ws n 0 ∷ [])
    ∙ ap (λ (l : List ℕ). get_or ws n 0 ∷ l) (turned_newest ws n (omega arith))

-- the k newest, oldest first, as they lie in memory
pub newest_in_order : {X : Type 0} (ws : List X) (n k : ℕ) → k ≤ n → n ≤ length ws → take (n - (n - k)) (drop (n - k) ws) ≡ reverse (take k (reverse (take n ws)))
newest_in_order {X} ws n k h l =
    let m : (n - k) + k ≡ n = omega arith in
    let o : n - (n - k) ≡ k = omega arith in
    let old : List X = take (n - k) ws in
    let new : List X = take k (drop (n - k) ws) in
    let s : take n ws ≡ old ++ new = ap (λ (j : ℕ). take j ws) (sym m) ∙ take-add (n - k) k ws in
    let e : length (reverse new) ≡ k = length-reverse new ∙ length-take-le k (drop (n - k) ws) (simp length-drop (omega arith)) in
    ap (λ (j : ℕ). take j (drop (n - k) ws)) o
    ∙ sym (ap (λ (r : List X). reverse (take k (reverse r))) s
    ∙ ap (λ (r : List X). reverse (take k r)) (reverse-append old new)
    ∙ ap reverse (take_at (reverse new) (reverse old) k e)
    ∙ reverse-reverse new)

-- after a copy to behind the first n words
pub items_appended : (ws vs us : List ℕ) (n k m : ℕ) → n ≤ length ws → m ≡ n + length vs → vs ≡ reverse us → reverse (take m (put_mid n k ws vs)) ≡ us ++ reverse (take n ws)
items_appended ws vs us n k m h e r =
    ap reverse (take-put_mid n k ws vs m e h)
    ∙ reverse-append (take n ws) vs
    ∙ ap (λ (l : List ℕ). l ++ reverse (take n ws)) (ap reverse r ∙ reverse-reverse us)

pub ruleset turning = (newest_in_order, items_appended, length-reverse, length-take-le)
