use Rattle.std.proofs.Common.{◌≡◌, ℕ, not, leb, ltb, List, length, get_or, Option, sym, ap, ◌∙◌, subst, arith}
use Rattle.std.proofs.lemmas.Bool.Decides.{nat_tests}
use Rattle.std.specs.List.{position_from}
use Rattle.xi.specs.declared.rule.Rule.TheVariants.{Tree as TreeRule}
use Rattle.sheet.specs.Outcome.{Outcome, Said, held, runs}
use Rattle.sheet.specs.Sheets.{Decoded}
use Rattle.checker.specs.Trees.{offset_of, all_shallow}
use Rattle.checker.specs.Repeats.{fails_at}
use Rattle.checker.proofs.Searches.{tests-position}
use Rattle.checker.proofs.tree.all_shallow.Goals as goal

not_above : (a b : ℕ) → leb a b ≡ not (ltb b a)
not_above a b = grind (arith, nat_tests)

-- o is what is found among the levels
shallow_where : (D : Decoded) (v : List ℕ) (o : Option ℕ) → length v ≡ length D.program.nodes → position_from (ltb 32) 0 v ≡ o → all_shallow D v ≡ fails_at TreeRule (offset_of D) o
shallow_where D v o long found =
    ap (λ n. runs (λ i _. held (leb (get_or v i 0) 32) TreeRule (offset_of D i)) n 0 tt) (sym long)
    ∙ tests-position 0 TreeRule (offset_of D) v (λ i. leb (get_or v i 0) 32) (ltb 32) (λ i l. not_above (get_or v i 0) 32) ∙ ap (fails_at TreeRule (offset_of D)) found

pub returns : goal.returns
returns c =
    subst (λ (o : Outcome (Unit {0})). Said c.broken_at.result (λ _. tt) o) (sym (shallow_where c.args.sheet.now c.args.found.now _ c.requires (sym c.first_too_deep.ensures.first))) c.broken_at.ensures
