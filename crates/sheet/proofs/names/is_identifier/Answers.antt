use Rattle.std.proofs.Common.{◌≡◌, ℕ, ◌+◌, ◌<◌, ◌&&◌, List, length, get_or, drop, sym, ◌∙◌}
use Rattle.std.proofs.lemmas.List.{at_drop_more, at_drop_all}
use Rattle.sheet.specs.Names.{stands, identifier_from}
use Rattle.sheet.proofs.names.is_identifier.Goals as goal

one_more : (w : List ℕ) (i : ℕ) → i < length w → identifier_from i (drop i w) ≡ (stands i (get_or w i 0) && identifier_from (i + 1) (drop (i + 1) w))
one_more w i h = at_drop_more (identifier_from i) w i 0 h

pub returns-then-not-may_stand : goal.returns-then-not-may_stand
returns-then-not-may_stand c = rw (← c.if-not-may_stand.ensures) at (sym (one_more c.args.w.now c.loop-i.i c.loop-i-test.true)) ∙ c.loop-i.invariant

pub loop-i-preserved : goal.loop-i-preserved
loop-i-preserved c = rw (← c.if-not-may_stand.ensures) at (sym (one_more c.args.w.now c.loop-i.i c.loop-i-test.true)) ∙ c.loop-i.invariant

pub returns : goal.returns
returns c = sym (at_drop_all (identifier_from c.loop-i.i) c.args.w.now c.loop-i.i c.loop-i-test.false) ∙ c.loop-i.invariant
