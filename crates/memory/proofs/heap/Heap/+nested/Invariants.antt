use Rattle.std.proofs.Common.{◌≡◌, ℕ, ◌+◌, ◌-◌, ◌*◌, length}
use Rattle.semantics.specs.State.{Store}
use Rattle.semantics.specs.Numbers.{cells_for, filled, nested}
use Rattle.memory.specs.Heaps.{cells_in, cell_count, HoldsStore}
use Rattle.memory.proofs.Nests.{Filling}
use Rattle.memory.proofs.heap.Heap.+nested.Given as goal

abbrev pub decreases-nested : goal.decreases-nested
decreases-nested l = length l.lengths.now

-- the elements before the place are filled, and the next begins behind them
abbrev pub invariant-loop-place : goal.invariant-loop-place
invariant-loop-place l = record {
  elements : (s : Store) (t : ℕ) → HoldsStore l.initial.self s → Filling (nested t l.inner) l.place-end l.place (filled (l.place-end - (l.first + 1)) (l.first + 1) (nested t l.inner) s) (cells_in l.self);
  used : length (cells_in l.self) + (l.place-end - l.place) * cells_for l.inner ≡ length (cells_in l.initial.self) + (l.place-end - (l.first + 1)) * cells_for l.inner;
  count : cell_count l.self ≡ cell_count l.initial.self;
}
