-- The cells in use, and the unset ones behind them: after a write, a push, a growth, a copy.
use Rattle.std.proofs.Common.{◌≡◌, ℕ, ◌+◌, ◌-◌, ◌≤◌, List, ◌++◌, length, take, drop, replicate, pos, sym, ap, ◌∙◌, w64, to_z, arith}
use Rattle.std.proofs.lemmas.Int.{to_z-of_z, to_z_pos}
use Rattle.std.proofs.lemmas.List.{drop-drop, drop-replicate, take-replicate, take-take, drop-take, length-drop, length-take-le, set-get_or}
use Rattle.std.proofs.lemmas.List.Edits.{take-paste}
use Rattle.std.proofs.Math.Seq.{take-add, take-set-lt}
use Rattle.std.specs.List.{copy_within}
use Rattle.memory.specs.declared.heap.Heap.{Heap}
use Rattle.memory.specs.Heaps.{cells_in}

pub cells_in-length : (h : Heap) → length (cells_in h) ≡ h.used
cells_in-length h = length-take-le h.used h.cells.now h.within

-- where the next cell stands, as a cell's number
pub next_number : (h : Heap) → to_z w64 h.used ≡ pos (length (cells_in h))
next_number h = to_z_pos w64 h.used (omega (arith, h.within, h.fits)) ∙ ap pos (sym (cells_in-length h))

-- what follows k more is unset too
pub rest_past : {X : Type 0} (xs : List X) (n k : ℕ) (y : X) → drop n xs ≡ replicate (length xs - n) y → drop (n + k) xs ≡ replicate (length xs - (n + k)) y
rest_past xs n k y e =
    let m : length xs - n - k ≡ length xs - (n + k) = omega arith in
    sym (drop-drop k n xs) ∙ ap (drop k) e ∙ drop-replicate k (length xs - n) y ∙ ap (λ (j : ℕ). replicate j y) m

-- k more are unset
pub take_grown : {X : Type 0} (xs : List X) (n k : ℕ) (y : X) → n + k ≤ length xs → drop n xs ≡ replicate (length xs - n) y → take (n + k) xs ≡ take n xs ++ replicate k y
take_grown {X} xs n k y h e =
    take-add n k xs ∙ ap (λ (r : List X). take n xs ++ r) (ap (take k) e ∙ take-replicate k (length xs - n) y (omega arith))

-- after a copy to behind the first n
pub take_copied : {X : Type 0} (xs : List X) (n from k : ℕ) → n + k ≤ length xs → from + k ≤ n → take (n + k) (copy_within xs from (from + k) n) ≡ take n xs ++ take k (drop from (take n xs))
take_copied {X} xs n from k h l =
    let m : from + k - from ≡ k = omega arith in
    let a : from + (n - from) ≡ n = omega arith in
    let b : take k (drop from (take n xs)) ≡ take k (drop from xs) =
    ap (λ (j : ℕ). take k (drop from (take j xs))) (sym a) ∙ ap (take k) (drop-take from (n - from) xs) ∙ take-take k (n - from) (drop from xs) (omega arith) in
    rw (m, b) (take-paste xs n (drop from xs) k (omega arith) (simp length-drop (omega arith)))

-- what the cells in use are after each of those, and after a write; what is put back where it stands changes nothing
pub ruleset taking = (rest_past, take_grown, take_copied, take-set-lt, length-take-le, to_z-of_z, set-get_or)
