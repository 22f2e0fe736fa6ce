-- What a heap holds.
use Rattle.std.specs.Prelude.{◌≡◌, ℕ, ◌-◌, ◌^◌, ◌<◌, ◌≤◌, List, map, length, take, drop, replicate}
use Rattle.semantics.specs.State.{Store}
use Rattle.memory.specs.declared.cell.Cell.{Cell}
use Rattle.memory.specs.declared.heap.Heap.{Heap}
use Rattle.memory.specs.Encoding.{unset_cell, cell_of}

-- the cells in use
abbrev pub cells_in : Heap → List Cell
cells_in h = take h.used h.cells.now

-- how many cells are lent
abbrev pub cell_count : Heap → ℕ
cell_count h = length h.cells.now

-- the cells that are not in use are unset; each cell's number is in the range of an `int`
pub record Clean (h : Heap) : Type 0 where
  pub within : h.used ≤ cell_count h
  pub fits : cell_count h < 2 ^ 63
  pub rest : drop h.used h.cells.now ≡ replicate (cell_count h - h.used) unset_cell

-- the cells in use are those of a store
abbrev pub HoldsStore : Heap → Store → Type 0
HoldsStore h s = cells_in h ≡ map cell_of s.cells
