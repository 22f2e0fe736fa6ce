use Rattle.std.proofs.Common.{◌≡◌, ◌^◌, ◌<◌, length, sym, ap, ◌∙◌, subst, rules}
use Rattle.sheet.specs.Outcome.{Outcome, good, then}
use Rattle.sheet.specs.Sheets.{Decoded}
use Rattle.sheet.proofs.Outcomes.{then_good, then_bad, said_on}
use Rattle.checker.specs.Checked.{IsMain, rules_held}
use Rattle.checker.specs.Held.{held_by}
use Rattle.checker.proofs.Exactly.{accepts_exactly}
use Rattle.checker.proofs.Granting.{grants}
use Rattle.checker.proofs.Refusals.{refuses_exactly}
use Rattle.checker.proofs.checked.check.check.Goals as goal

pub returns-in_err-sheet : goal.returns-in_err-sheet
returns-in_err-sheet c =
    record {
      said = said_on _ _ _ _ _ _ c.from_residual.ensures.1 c.in_err-sheet.ensures (λ k q e. then_bad _ e);
      exact = accepts_exactly;
      refuses = refuses_exactly;
      main = search rules;
    }

pub new-requires : goal.new-requires
unfolding held_by
new-requires c =
    let small : length c.args.bytes.now < 2 ^ 64 = search rules in
    grants c.args.bytes.now _ small c.in_ok-sheet.ensures

pub returns-in_err-trees : goal.returns-in_err-trees
unfolding held_by
returns-in_err-trees c =
    record {
      said = said_on _ _ _ _ _ _ c.from_residual-in_err-trees.ensures.1 c.in_err-trees.ensures.said (λ k q e. then_good (λ D. then (rules_held D) (λ _. good D)) c.in_ok-sheet.ensures ∙ then_bad _ (ap rules_held (sym c.new.ensures) ∙ e));
      exact = accepts_exactly;
      refuses = refuses_exactly;
      main = search rules;
    }

-- the sheet that was taken out again is the one that was read
kept : (D E F G : Decoded) (o : Outcome Decoded) → o ≡ good D → E ≡ D → rules_held E ≡ good tt → F ≡ E → G ≡ F → then o (λ D. then (rules_held D) (λ _. good D)) ≡ good G
kept D E F G o read made held same out =
    then_good (λ D. then (rules_held D) (λ _. good D)) read ∙ then_good _ (ap rules_held (sym made) ∙ held) ∙ ap good (sym (out ∙ same ∙ made))

pub invariant_of-result : goal.invariant_of-result
unfolding held_by
invariant_of-result c = record { accepted = ∣ kept _ _ _ _ _ c.in_ok-sheet.ensures c.new.ensures c.in_ok-trees.ensures.said c.in_ok-trees.ensures.same c.into_sheet.ensures ∣₁ }

pub returns : goal.returns
unfolding held_by
returns c =
    record {
      said = kept _ _ _ _ _ c.in_ok-sheet.ensures c.new.ensures c.in_ok-trees.ensures.said c.in_ok-trees.ensures.same c.into_sheet.ensures;
      exact = accepts_exactly;
      refuses = refuses_exactly;
      main = subst (λ (D : Decoded). IsMain D c.in_ok-trees.main) (sym (c.into_sheet.ensures ∙ c.in_ok-trees.ensures.same)) c.in_ok-trees.ensures.main;
    }
