-- Nested arrays: the outer array, then the elements one after another.
use Rattle.std.proofs.Common.{◌≡◌, ℕ, suc, ◌+◌, ◌-◌, ◌*◌, ◌<◌, ◌≤◌, List, [], ◌∷◌, ◌++◌, map, length, set, replicate, ℤ, pos, sym, refl, ap, append_assoc, ◌∙◌, suc-mul, arith}
use mathlib.Core.Option.{none, some}
use lib.LanesLaws.{map-replicate}
use Rattle.std.proofs.lemmas.List.{map-set, length-map, length-append, length-replicate}
use Rattle.semantics.specs.State.{Store, array, grown, with_cell}
use Rattle.semantics.specs.Numbers.{element_of, filled, nested}
use Rattle.memory.specs.declared.cell.Cell.{Cell}
use Rattle.memory.specs.declared.heap.Heap.{Heap}
use Rattle.memory.specs.Encoding.{unset_cell, set_cell, cell_of}
use Rattle.memory.specs.Heaps.{cells_in, HoldsStore}
use Rattle.memory.proofs.Cells.{cells_in-length}
use Rattle.memory.proofs.Stores.{array_held}

-- a new array of n unset elements
abbrev pub unset_array : ℕ → List Cell
unset_array n = set_cell (pos n) ∷ replicate n unset_cell

pub opened_used : (old new : Heap) (n : ℕ) → cells_in new ≡ cells_in old ++ unset_array n → new.used ≡ old.used + 1 + n
opened_used old new n e =
    let l = ap length e ∙ length-append (cells_in old) (unset_array n) in
    let r = length-replicate n unset_cell in
    omega (arith, cells_in-length old, cells_in-length new)

pub opened_held : (old new : Heap) (s : Store) (t n : ℕ) → cells_in new ≡ cells_in old ++ unset_array n → HoldsStore old s → HoldsStore new (grown s t (replicate n none))
opened_held old new s t n e h =
    e ∙ ap (λ (cs : List Cell). cs ++ unset_array n) h
    ∙ simp length-replicate (simp (append_assoc, map-replicate, length-replicate) at (array_held s t (replicate n none)))

pub held_used : (h : Heap) (s : Store) → HoldsStore h s → h.used ≡ length s.cells
held_used h s e = sym (cells_in-length h) ∙ ap length e ∙ length-map s.cells cell_of

-- with more lengths the elements are filled, and without they stay unset
pub nested-filled : (t n : ℕ) (ns : List ℕ) (s : Store) → 0 < length ns →
    nested t (n ∷ ns) s ≡ filled n (suc (length s.cells)) (nested (element_of t) ns) (grown s t (replicate n none))
nested-filled t n [] s h = absurd (omega arith)
nested-filled t n (m ∷ ns) s h = refl

pub nested-last : (t n : ℕ) (ns : List ℕ) (s : Store) → length ns ≤ 0 → nested t (n ∷ ns) s ≡ grown s t (replicate n none)
nested-last t n [] s h = refl
nested-last t n (m ∷ ns) s h = absurd (omega arith)

-- the elements from a place on, up to the end, are still to be filled
pub record Filling (make : Store → Store) (end place : ℕ) (whole : Store) (cs : List Cell) : Type 0 where
  pub store : Store
  pub held : cs ≡ map cell_of store.cells
  pub left : filled (end - place) place make store ≡ whole

pub filling_more : (make : Store → Store) (end place : ℕ) (whole : Store) (cs ds es : List Cell) (z : ℤ) → place < end → (f : Filling make end place whole cs) → ds ≡ map cell_of (make f.store).cells →
    z ≡ pos (length cs) → es ≡ set ds place (set_cell z) → Filling make end (place + 1) whole es
filling_more make end place whole cs ds es z h f d n e =
    let part : ℕ = length f.store.cells in
    let next : Store = with_cell (make f.store) place (array part) in
    let m : z ≡ pos part = n ∙ ap (λ (l : List Cell). pos (length l)) f.held ∙ ap pos (length-map f.store.cells cell_of) in
    let a : end - place ≡ suc (end - (place + 1)) = omega arith in
    let b : place + 1 ≡ suc place = omega arith in
    record {
      store = next;
      held = e
          ∙ ap (λ (y : ℤ). set ds place (set_cell y)) m
          ∙ ap (λ (l : List Cell). set l place (set_cell (pos part))) d
          ∙ sym (map-set cell_of (make f.store).cells place (some (array part)));
      left = ap (λ (k : ℕ). filled (end - (place + 1)) k make next) b ∙ ap (λ (k : ℕ). filled k place make f.store) (sym a) ∙ f.left;
    }

pub filling_all : (make : Store → Store) (end place : ℕ) (whole : Store) (cs : List Cell) → end ≤ place → Filling make end place whole cs → cs ≡ map cell_of whole.cells
filling_all make end place whole cs h f =
    let z : 0 ≡ end - place = omega arith in
    f.held ∙ ap (λ (r : Store). map cell_of r.cells) (ap (λ (k : ℕ). filled k place make f.store) z ∙ f.left)

-- the whole array, of more lengths, and of one
pub nested_whole : (s : Store) (t n first end : ℕ) (ns xs : List ℕ) (cs : List Cell) → xs ≡ n ∷ ns → 0 < length ns → first ≡ length s.cells → end ≡ first + 1 + n →
    cs ≡ map cell_of (filled (end - (first + 1)) (first + 1) (nested (element_of t) ns) (grown s t (replicate n none))).cells → cs ≡ map cell_of (nested t xs s).cells
nested_whole s t n first end ns xs cs x l f e h =
    let a : end - (first + 1) ≡ n = omega arith in
    let b : first + 1 ≡ suc (length s.cells) = omega arith in
    h ∙ ap (λ (r : Store). map cell_of r.cells)
    (ap (λ (k : ℕ). filled k (first + 1) (nested (element_of t) ns) (grown s t (replicate n none))) a
    ∙ ap (λ (k : ℕ). filled n k (nested (element_of t) ns) (grown s t (replicate n none))) b
    ∙ sym (ap (λ (ys : List ℕ). nested t ys s) x ∙ nested-filled t n ns s l))

pub nested_one : (s : Store) (t n : ℕ) (ns xs : List ℕ) (cs : List Cell) → xs ≡ n ∷ ns → length ns ≤ 0 → cs ≡ map cell_of (grown s t (replicate n none)).cells → cs ≡ map cell_of (nested t xs s).cells
nested_one s t n ns xs cs x l h = h ∙ ap (λ (r : Store). map cell_of r.cells) (sym (ap (λ (ys : List ℕ). nested t ys s) x ∙ nested-last t n ns s l))

-- k cells more are used, and one element fewer is left
pub used_more : (old new total end place k : ℕ) → place < end → new ≡ old + k → old + (end - place) * k ≡ total → new + (end - (place + 1)) * k ≡ total
used_more old new total end place k h n e =
    let left : ℕ = end - (place + 1) in
    let a : end - place ≡ suc left = omega arith in
    let b : old + k + left * k ≡ old + (left * k + k) = omega arith in
    ap (λ (j : ℕ). j + left * k) n ∙ b ∙ ap (λ (j : ℕ). old + j) (sym (ap (λ (j : ℕ). j * k) a ∙ suc-mul left k)) ∙ e
