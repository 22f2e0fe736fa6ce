use Rattle.std.proofs.Common.{◌≡◌, ◌++◌, map, take}
use Rattle.memory.specs.Encoding.{cell_of_word}
use Rattle.memory.specs.Heaps.{cells_in, cell_count}
use Rattle.memory.proofs.heap.Heap.append_values.Given as goal

abbrev pub invariant-loop-word : goal.invariant-loop-word
invariant-loop-word l = record {
  cells : cells_in l.self ≡ cells_in l.initial.self ++ map cell_of_word (take l.word-index l.word-items);
  count : cell_count l.self ≡ cell_count l.initial.self;
}
