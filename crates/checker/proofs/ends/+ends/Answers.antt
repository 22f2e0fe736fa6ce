use Rattle.std.proofs.Common.{sym, ap, ◌∙◌}
use Rattle.checker.specs.Walk.{ends_last, ends_of}
use Rattle.checker.proofs.Endings.{ends_last-get}
use Rattle.checker.proofs.Parts.{at_part}
use Rattle.checker.proofs.ends.+ends.Goals as goal

pub returns-in-len1-up : goal.returns-in-len1-up
returns-in-len1-up t c =
    let go = ends_of c.args.node.trees.now.sheet.program in
    let part = at_part (λ D. ends_of D.program) c.args.node c.part-in-len1-up.result c.part-in-len1-up.ensures.trees c.part-in-len1-up.ensures.number in
    c.ends-in-len1-up.ensures ∙ sym (c.in-Block.ensures.ends ∙ ap (ends_last go) (sym c.entries.ensures) ∙ ends_last-get go _ c.in-len1-up.len_at_least ∙ part)
