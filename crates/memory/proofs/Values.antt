-- Values as words and as cells: what a caller's lists of values become.
use Rattle.std.proofs.Common.{◌≡◌, ℕ, zero, suc, ◌≤◌, true, false, List, [], ◌∷◌, map, reverse, length, take, drop, sym, refl, ap, ◌∙◌, arith, w64, to_z}
use mathlib.Core.List.{reverse_aux}
use mathlib.Core.Option.{some}
use mathlib.Mathlib.Data.List.Basic.{map-reverse_aux}
use Rattle.std.proofs.lemmas.List.{take-map}
use Rattle.std.proofs.lemmas.Int.{to_z-of_z, to_z_pos}
use Rattle.semantics.specs.State.{Value, int, bool, array, Slot, Move}
use Rattle.semantics.specs.Rules.{take_values}
use Rattle.memory.specs.Encoding.{word, number, cell_of, cell_of_word, set_cell, InRange, AllInRange}

pub word_number : (v : Value) → InRange v → to_z w64 (word v) ≡ number v
word_number (int z) r = to_z-of_z w64 z r
word_number (bool false) r = refl
word_number (bool true) r = refl
word_number (array p) r = to_z_pos w64 p r

pub values_cells : (vs : List Value) → AllInRange vs → map cell_of_word (map word vs) ≡ map cell_of (map {B = Slot} some vs)
values_cells [] r = refl
values_cells (v ∷ vs) r =
    let a : cell_of_word (word v) ≡ cell_of (some v) = ap set_cell (word_number v (r 0 v (omega arith))) in
    let b = values_cells vs (λ k d h. r (suc k) d (omega arith)) in
    cc

-- the newest operands, oldest first

pub newest_words : (n : ℕ) (O : List Value) → reverse (take n (map word O)) ≡ map word (reverse (take n O))
newest_words n O = ap reverse (take-map word n O) ∙ sym (map-reverse_aux word (take n O) [])

take_turned : (n : ℕ) (O vs : List Value) (f : List Value → List Value → Move) → n ≤ length O → take_values n O vs f ≡ f (reverse_aux (take n O) vs) (drop n O)
take_turned zero O vs f h = refl
take_turned (suc n) [] vs f h = absurd (omega arith)
take_turned (suc n) (v ∷ O) vs f h = take_turned n O (v ∷ vs) f (omega arith)

pub take_values-take : (n : ℕ) (O : List Value) (f : List Value → List Value → Move) → n ≤ length O → take_values n O [] f ≡ f (reverse (take n O)) (drop n O)
take_values-take n O f h = take_turned n O [] f h
