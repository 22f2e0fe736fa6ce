-- A turn of a loop whose turns are the steps of a run.
use Rattle.std.proofs.Common.{◌≡◌, ℕ, suc, ◌+◌, ◌-◌, ◌<◌, ◌≤◌, List, sym, ap, ◌∙◌, arith}
use Rattle.xi.specs.declared.rule.Rule.{Rule}
use Rattle.sheet.specs.Outcome.{Outcome, good, bad, runs}
use Rattle.sheet.specs.Fields.{count_at, part_at}
use Rattle.sheet.proofs.Outcomes.{then_good, then_bad}

module _ {S : Type 0} (go : ℕ → S → Outcome S) (n i : ℕ) (s : S) (more : i < n) where
  one_more : n - i ≡ suc (n - (i + 1))
  one_more = omega arith

  pub step-bad : (k : Rule) (q : ℕ) → go i s ≡ bad k q → runs go (n - i) i s ≡ bad k q
  step-bad k q e = ap (λ m. runs go m i s) one_more ∙ then_bad _ e

  pub step-good : (t : S) → go i s ≡ good t → runs go (n - (i + 1)) (i + 1) t ≡ runs go (n - i) i s
  step-good t e = sym (ap (λ m. runs go m i s) one_more ∙ then_good _ e)

pub no_more : {S : Type 0} (go : ℕ → S → Outcome S) (n i : ℕ) (s : S) → n ≤ i → runs go (n - i) i s ≡ good s
no_more go n i s h = let z : n - i ≡ 0 = omega arith in ap (λ m. runs go m i s) z

-- A loop over the items of a part: the bytes are b where it begins and c at the turn i, and what is left gives all.
module _ {S : Type 0} (item : List ℕ → S → Outcome S) (b c : List ℕ) (n i : ℕ) (s : S) (same : c ≡ b) (more : i < n) where
  pub part-next : (t : S) → item c s ≡ good t → runs (λ _ s. item b s) (n - (i + 1)) (i + 1) t ≡ runs (λ _ s. item b s) (n - i) i s
  part-next t e = step-good (λ _ s. item b s) n i s more t (ap (λ x. item x s) (sym same) ∙ e)

module _
    {S : Type 0} (item : List ℕ → S → Outcome S) (start : ℕ → S) (m : ℕ) (a b c : List ℕ) (p q n i : ℕ) (s : S)
    (counted : count_at a p m ≡ good n) (kept : b ≡ a) (moved : q ≡ p + 2)
    (all : runs (λ _ s. item b s) (n - i) i s ≡ runs (λ _ s. item b s) n 0 (start q)) (same : c ≡ b)
  where
    whole : part_at item start m a p ≡ runs (λ _ s. item b s) (n - i) i s
    whole = then_good _ counted ∙ (λ j. runs (λ _ s. item (sym kept j) s) n 0 (start (sym moved j))) ∙ sym all

    pub part-bad : i < n → (k : Rule) (r : ℕ) → item c s ≡ bad k r → part_at item start m a p ≡ bad k r
    part-bad more k r e = whole ∙ step-bad (λ _ s. item b s) n i s more k r (ap (λ x. item x s) (sym same) ∙ e)

    pub part_end : n ≤ i → part_at item start m a p ≡ good s
    part_end h = whole ∙ no_more (λ _ s. item b s) n i s h
