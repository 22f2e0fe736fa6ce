use Rattle.std.proofs.Common.{◌≡◌, ◌/◌, ◌<◌, length, vec_items, sym, subst, ap, ◌∙◌, arith}
use Rattle.std.specs.Slice.Iter.{chunks_exact_rest}
use Rattle.std.proofs.Math.Nat.{div-eq_of_lt}
use Rattle.sheet.specs.Fields.{items_in}
use Rattle.sheet.proofs.Outcomes.{said_on}
use Rattle.sheet.proofs.Items.{item-bad, item-good, counted}
use Rattle.sheet.proofs.functions.records.add_items.Goals as goal

pub returns-in_err-read-clause-said : goal.returns-in_err-read-clause-said
returns-in_err-read-clause-said g c =
    let step = c.in-Some.ensures.steps.1 in
    said_on _ _ _ _ _ _ c.from_residual.ensures.1 c.in_err-read.ensures
    (λ k q e. sym c.loop-bytes.invariant.left ∙ item-bad g.T.Item.SIZE (g.T.Item.reads c.args.known) c.args.span.at _ _ _ (vec_items c.loop-bytes.all) c.requires.some step.0 (step.1 ∙ c.loop-bytes.invariant.size) k q e)

pub loop-bytes-preserved : goal.loop-bytes-preserved
loop-bytes-preserved g c =
    let step = c.in-Some.ensures.steps.1 in
    let long = step.1 ∙ c.loop-bytes.invariant.size in
    let rest = chunks_exact_rest c.next.new.self in
    record {
      left =
          ap (items_in g.T.Item.SIZE (g.T.Item.reads c.args.known) c.args.span.at (length rest / g.T.Item.SIZE) rest) c.in_ok-push.ensures.items
          ∙ item-good g.T.Item.SIZE (g.T.Item.reads c.args.known) c.args.span.at _ _ _ (vec_items c.loop-bytes.all) c.requires.some step.0 long _ c.in_ok-read.ensures
          ∙ c.loop-bytes.invariant.left;
      size = c.in-Some.ensures.steps.0 ∙ c.loop-bytes.invariant.size;
      long = omega (arith, counted g.T.Item.SIZE (g.T.Item.reads c.args.known) c.args.span.at _ _ _ (vec_items c.loop-bytes.all) c.requires.some step.0 long, c.in_ok-push.ensures.len, c.loop-bytes.invariant.long);
    }

pub returns-clause-said : goal.returns-clause-said
returns-clause-said g c =
    let rest = chunks_exact_rest c.loop-bytes.bytes-iterator in
    let none : length rest / g.T.Item.SIZE ≡ 0 = div-eq_of_lt (subst (λ n. length rest < n) c.loop-bytes.invariant.size c.in-None.ensures.steps.1.0) in
    sym c.loop-bytes.invariant.left ∙ ap (λ m. items_in g.T.Item.SIZE (g.T.Item.reads c.args.known) c.args.span.at m rest (vec_items c.loop-bytes.all)) none
