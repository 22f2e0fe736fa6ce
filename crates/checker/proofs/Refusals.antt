-- Where a refusal comes from: the reading of a sheet, or its first test that fails.
use Rattle.std.proofs.Common.{◌≡◌, ℕ, ◌⊎◌, List, sym, refl, ◌∙◌, inl, inr, ⊎_elim}
use Rattle.xi.specs.declared.rule.Rule.{Rule}
use Rattle.sheet.specs.Outcome.{Outcome, good, bad, then}
use Rattle.sheet.specs.Sheets.{Decoded, decoded_at}
use Rattle.sheet.proofs.Outcomes.{then_good, then_bad}
use Rattle.checker.specs.Checked.{rules_held, checked_at}
use Rattle.checker.specs.Tests.{tests_of, FirstBroken}
use Rattle.checker.specs.Exact.{RefusesExactly}
use Rattle.checker.proofs.Chains.{not_good}
use Rattle.checker.proofs.OrderedRules.{refuses_first}

-- what a step of a refused chain says
abbrev Refused : {A B : Type 0} → Outcome A → (A → Outcome B) → Rule → ℕ → Type 0
Refused {A} o f k p = (o ≡ bad k p) ⊎ ((x : A) × (o ≡ good x) × (f x ≡ bad k p))

-- a chain that is refused
chain_to : {A B : Type 0} (o : Outcome A) (f : A → Outcome B) (k : Rule) (p : ℕ) → then o f ≡ bad k p → Refused o f k p
chain_to (good x) f k p q = inr (x, refl, q)
chain_to (bad l r) f k p q = inl (let e : l ≡ k = cc in let g : r ≡ p = cc in (λ i. bad (e i) (g i)))

module _ (bs : List ℕ) (k : Rule) (p : ℕ) where
  -- a sheet that was read, with its first test that fails
  abbrev Broken : Type 0
  Broken = (D : Decoded) × (decoded_at bs ≡ good D) × FirstBroken (tests_of D) k p

  -- bytes that are refused
  refused-by : checked_at bs ≡ bad k p → (decoded_at bs ≡ bad k p) ⊎ Broken
  refused-by q =
      ⊎_elim (λ (e : decoded_at bs ≡ bad k p). inl e)
      (λ (x : (D : Decoded) × (decoded_at bs ≡ good D) × (then (rules_held D) (λ _. good D) ≡ bad k p)).
      ⊎_elim (λ (e : rules_held x.0 ≡ bad k p). inr (x.0, x.1, (refuses_first x.0 k p).0 e))
      (λ (y : (u : Unit {0}) × (rules_held x.0 ≡ good u) × (good x.0 ≡ bad k p)). absurd (not_good (sym y.2))) (chain_to (rules_held x.0) (λ _. good x.0) k p x.2))
      (chain_to (decoded_at bs) (λ D. then (rules_held D) (λ _. good D)) k p q)

  -- and back
  by-refused : (decoded_at bs ≡ bad k p) ⊎ Broken → checked_at bs ≡ bad k p
  by-refused h =
      ⊎_elim (λ (e : decoded_at bs ≡ bad k p). then_bad (λ D. then (rules_held D) (λ _. good D)) e)
      (λ (x : Broken). then_good (λ D. then (rules_held D) (λ _. good D)) x.1 ∙ then_bad (λ _. good x.0) ((refuses_first x.0 k p).1 x.2)) h

-- both ways
pub refuses_exactly : RefusesExactly
refuses_exactly bs k p = (refused-by bs k p, by-refused bs k p)
