use Rattle.std.proofs.Common.{get_or, replicate, length, ap, ◌∙◌, length-set, rules}
use mathlib.Core.Option.{none}
use Rattle.std.proofs.lemmas.Slice.{first_rest}
use Rattle.semantics.specs.State.{grown}
use Rattle.semantics.specs.Numbers.{element_of}
use Rattle.memory.proofs.Cells.{next_number}
use Rattle.memory.proofs.Nests.{opened_used, opened_held, held_used, used_more, filling_more, filling_all, nested_whole, nested_one}
use Rattle.memory.proofs.heap.Heap.+nested.Goals as goal

pub loop-place-preserved : goal.loop-place-preserved
loop-place-preserved t c = record {
  elements = λ s ty h.
      let f = c.loop-place.invariant.elements s ty h in
      filling_more _ _ _ _ _ _ _ _ c.loop-place-test.true f (c.nested.ensures.cells f.store ty f.held) (next_number c.loop-place.self) c.write.ensures.cells;
  used = used_more _ _ _ _ _ _ c.loop-place-test.true (ap length c.write.ensures.cells ∙ length-set _ _ _ ∙ c.nested.ensures.used) c.loop-place.invariant.used;
  count = c.write.ensures.count ∙ c.nested.ensures.count ∙ c.loop-place.invariant.count;
}

pub returns-after-loop-place-clause-cells : goal.returns-after-loop-place-clause-cells
returns-after-loop-place-clause-cells t c = λ s ty h.
    let n = get_or c.args.lengths.now 0 0 in
    let opened = opened_held c.args.self.now c.push_unset.new.self s ty n c.push_unset.ensures.cells h in
    nested_whole s ty n c.args.self.now.used c.push_unset.new.self.used _ c.args.lengths.now _ (first_rest c.args.lengths.now 0 c.in-len1-up.len_at_least) (search rules)
    (held_used c.args.self.now s h) (opened_used c.args.self.now c.push_unset.new.self n c.push_unset.ensures.cells)
    (filling_all _ _ _ _ _ c.loop-place-test.false (c.loop-place.invariant.elements (grown s ty (replicate n none)) (element_of ty) opened))

pub returns-else-not-is_empty-clause-cells : goal.returns-else-not-is_empty-clause-cells
returns-else-not-is_empty-clause-cells t c = λ s ty h.
    let n = get_or c.args.lengths.now 0 0 in
    nested_one s ty n _ c.args.lengths.now _ (first_rest c.args.lengths.now 0 c.in-len1-up.len_at_least) (search rules)
    (opened_held c.args.self.now c.push_unset.new.self s ty n c.push_unset.ensures.cells h)
