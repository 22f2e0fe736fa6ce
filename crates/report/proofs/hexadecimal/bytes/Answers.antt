use Rattle.std.proofs.Common.{cond, [], Some, vec_items, sym, ap, ◌∙◌}
use Rattle.std.specs.Str.{bytes_eq}
use Rattle.report.specs.Hexadecimal.{pairs_after}
use Rattle.report.proofs.Pairs.{next-pair, odd-none, even-behind}
use Rattle.report.proofs.hexadecimal.bytes.Goals as goal

pub returns-then-text-eq1 : goal.returns-then-text-eq1
returns-then-text-eq1 c =
    sym (ap (λ b. cond b (Some []) (pairs_after [] c.args.text.now)) (sym (c.if-eq.ensures ∙ ap (bytes_eq c.args.text.now) c.as_slice.ensures))
    ∙ odd-none c.args.text.now [] c.if-text-eq1.true)

pub loop-rest-preserved : goal.loop-rest-preserved
loop-rest-preserved c = (
  next-pair c.loop-rest.rest.now (vec_items c.loop-rest.all) _ _ c.in-len2-up.len_at_least (sym c.in-Some.ensures) c.in_ok-push.ensures.items ∙ c.loop-rest.invariant.0,
  even-behind c.loop-rest.rest.now c.in-len2-up.len_at_least c.loop-rest.invariant.1,
)
