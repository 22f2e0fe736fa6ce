use Rattle.std.proofs.Common.{◌≡◌, ℕ, not, List, length, get_or, Option, sym, refl, ap, ◌∙◌, subst}
use Rattle.std.specs.List.{position_from}
use Rattle.xi.specs.declared.rule.Rule.TheVariants.{Tree as TreeRule}
use Rattle.sheet.specs.Outcome.{Outcome, Said, held, runs}
use Rattle.sheet.specs.Sheets.{Decoded}
use Rattle.checker.specs.declared.mark.Mark.{Mark}
use Rattle.checker.specs.declared.mark.Mark.TheVariants.{Free}
use Rattle.checker.specs.Trees.{offset_of, is_free, all_used}
use Rattle.checker.specs.Repeats.{fails_at}
use Rattle.checker.proofs.Searches.{tests-position}
use Rattle.checker.proofs.tree.all_used.Goals as goal

-- o is what is found among the marks
used_where : (D : Decoded) (u : List Mark) (o : Option ℕ) → length u ≡ length D.program.nodes → position_from is_free 0 u ≡ o → all_used D u ≡ fails_at TreeRule (offset_of D) o
used_where D u o long found =
    ap (λ n. runs (λ i _. held (not (is_free (get_or u i Free))) TreeRule (offset_of D i)) n 0 tt) (sym long)
    ∙ tests-position Free TreeRule (offset_of D) u (λ i. not (is_free (get_or u i Free))) is_free (λ i l. refl) ∙ ap (fails_at TreeRule (offset_of D)) found

pub returns : goal.returns
returns c =
    subst (λ (o : Outcome (Unit {0})). Said c.broken_at.result (λ _. tt) o) (sym (used_where c.args.sheet.now c.args.marks.now _ c.requires (sym c.first_free.ensures.first))) c.broken_at.ensures
