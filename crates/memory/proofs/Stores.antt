-- The cells of a store as a heap holds them: one that is read or set, a new array, the elements of an array.
use Rattle.std.proofs.Common.{◌≡◌, ℕ, zero, suc, List, [], ◌∷◌, ◌++◌, map, length, get_or, take, drop, set, pos, sym, ap, ◌∙◌, append_assoc}
use mathlib.Core.Option.{some, none-ne-some, some-injective}
use lib.ListN.{get_elem?}
use Rattle.std.proofs.lemmas.List.{map-append, map-set, take-map, drop-map}
use Rattle.semantics.specs.State.{Value, int, Slot, Store, grown, with_cell, elements_at}
use Rattle.memory.specs.Encoding.{number, unset_cell, set_cell, cell_of}

pub cell_held : (cs : List Slot) (i : ℕ) (c : Slot) → get_elem? cs i ≡ some c → get_or (map cell_of cs) i unset_cell ≡ cell_of c
cell_held [] i c e = absurd (none-ne-some c e)
cell_held (x ∷ cs) zero c e = ap cell_of (some-injective _ _ e)
cell_held (x ∷ cs) (suc i) c e = cell_held cs i c e

pub set-held : (s : Store) (p : ℕ) (v : Value) → set (map cell_of s.cells) p (set_cell (number v)) ≡ map cell_of (with_cell s p v).cells
set-held s p v = sym (map-set cell_of s.cells p (some v))

pub array_held : (s : Store) (t : ℕ) (cs : List Slot) → (map cell_of s.cells ++ (set_cell (pos (length cs)) ∷ [])) ++ map cell_of cs ≡ map cell_of (grown s t cs).cells
array_held s t cs =
    append_assoc (map cell_of s.cells) (set_cell (pos (length cs)) ∷ []) (map cell_of cs)
    ∙ sym (map-append cell_of s.cells (some (int (pos (length cs))) ∷ cs))

pub elements-held : (s : Store) (p m : ℕ) → take m (drop (suc p) (map cell_of s.cells)) ≡ map cell_of (elements_at s p m)
elements-held s p m = ap (take m) (drop-map cell_of (suc p) s.cells) ∙ take-map cell_of m (drop (suc p) s.cells)
