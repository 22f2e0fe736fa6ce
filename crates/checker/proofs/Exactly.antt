-- Bytes are accepted exactly where they stand for a sheet that obeys the rules.
use Rattle.std.proofs.Common.{◌≡◌, ℕ, ◌<◌, List, get_or, ◌∙◌, subst}
use Rattle.xi.specs.Obeys.{Obeys}
use Rattle.sheet.specs.Outcome.{good, then}
use Rattle.sheet.specs.Sheets.{Decoded, decoded_at}
use Rattle.sheet.proofs.Outcomes.{then_good}
use Rattle.checker.specs.Checked.{rules_held, checked_at}
use Rattle.checker.specs.Exact.{AcceptsExactly}
use Rattle.checker.proofs.Chains.{good_same, then_splits}
use Rattle.checker.proofs.Accepts.{accepts_obeying}
use Rattle.checker.proofs.Obeying.{obeying_accepted}
use Rattle.checker.proofs.ReadRanges.{reads_in_range}

module _ (bs : List ℕ) (bytes : (i : ℕ) → get_or bs i 0 < 256) (D : Decoded) where
  -- what is accepted was read, and obeys
  accepted-obeys : checked_at bs ≡ good D → (decoded_at bs ≡ good D) × Obeys D.program
  accepted-obeys q =
      let x = then_splits (decoded_at bs) (λ E. then (rules_held E) (λ _. good E)) q in
      let y = then_splits (rules_held x.0) (λ _. good x.0) x.2 in
      let O : Obeys x.0.program = obeying_accepted x.0 (reads_in_range bs x.0 bytes x.1) y.1 in
      subst (λ (E : Decoded). (decoded_at bs ≡ good E) × Obeys E.program) (good_same y.2) (x.1, O)

  -- what is read and obeys is accepted
  obeys-accepted : (decoded_at bs ≡ good D) × Obeys D.program → checked_at bs ≡ good D
  obeys-accepted h = then_good (λ E. then (rules_held E) (λ _. good E)) h.0 ∙ then_good (λ _. good D) (accepts_obeying D h.1.ranges h.1)

-- both ways
pub accepts_exactly : AcceptsExactly
accepts_exactly bs bytes D = (accepted-obeys bs bytes D, obeys-accepted bs bytes D)
