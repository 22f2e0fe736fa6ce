-- The last entry of a block.
use Rattle.std.proofs.Common.{◌≡◌, ℕ, suc, ◌-◌, ◌<◌, Bool, List, [], ◌∷◌, length, get_or, sym, refl, ap, ◌∙◌, arith}
use Rattle.checker.specs.Walk.{ends_last}

pub ends_last-get : (go : ℕ → Bool) (xs : List ℕ) → 0 < length xs → ends_last go xs ≡ go (get_or xs (length xs - 1) 0)
ends_last-get go [] h = absurd (omega arith)
ends_last-get go (x ∷ []) h = refl
ends_last-get go (x ∷ y ∷ ys) h =
    let one : suc (length ys) - 1 ≡ length ys = omega arith in
    let two : suc (suc (length ys)) - 1 ≡ suc (length ys) = omega arith in
    ends_last-get go (y ∷ ys) (omega arith) ∙ ap (λ k. go (get_or (y ∷ ys) k 0)) one ∙ sym (ap (λ k. go (get_or (x ∷ y ∷ ys) k 0)) two)
