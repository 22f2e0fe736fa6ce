use Rattle.std.proofs.Common.{◌≡◌, ◌+◌, ◌/◌, length, vec_items, vec_len}
use Rattle.std.specs.Slice.Iter.{chunks_exact_rest, chunks_exact_size}
use Rattle.sheet.specs.Fields.{items_in}
use Rattle.sheet.proofs.functions.records.add_items.Given as goal

-- what is left to read gives all
abbrev pub invariant-loop-bytes : goal.invariant-loop-bytes
invariant-loop-bytes g l = record {
  left :
      items_in g.T.Item.SIZE (g.T.Item.reads l.known) l.at (length (chunks_exact_rest l.bytes-iterator) / g.T.Item.SIZE) (chunks_exact_rest l.bytes-iterator) (vec_items l.all)
      ≡ items_in g.T.Item.SIZE (g.T.Item.reads l.known) l.at (length l.fn.span.bytes.now / g.T.Item.SIZE) l.fn.span.bytes.now (vec_items l.initial.all);
  size : chunks_exact_size l.bytes-iterator ≡ g.T.Item.SIZE;
  long : vec_len l.all + length (chunks_exact_rest l.bytes-iterator) / g.T.Item.SIZE ≡ vec_len l.initial.all + length l.fn.span.bytes.now / g.T.Item.SIZE;
}
