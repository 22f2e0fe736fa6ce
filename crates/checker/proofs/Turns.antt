-- A turn of a loop over a list, where F takes the items one after another by go.
use Rattle.std.proofs.Common.{◌≡◌, ℕ, ◌+◌, ◌<◌, ◌≤◌, List, [], ◌∷◌, length, get_or, drop, sym, ◌∙◌}
use Rattle.std.proofs.lemmas.List.{at_drop_more, at_drop_all}
use Rattle.xi.specs.declared.rule.Rule.{Rule}
use Rattle.sheet.specs.Outcome.{Outcome, good, bad, then}
use Rattle.sheet.proofs.Outcomes.{then_good, then_bad}

module _ {A S : Type 0} (F : List A → S → Outcome S) (go : A → List A → S → Outcome S) (opens : (x : A) (xs : List A) (s : S) → F (x ∷ xs) s ≡ then (go x xs s) (F xs)) (xs : List A) (i : ℕ) (d : A) (s : S) (more : i < length xs) where
  turn : F (drop i xs) s ≡ then (go (get_or xs i d) (drop (i + 1) xs) s) (F (drop (i + 1) xs))
  turn = at_drop_more (λ ys. F ys s) xs i d more ∙ opens _ _ _

  pub turn-bad : (k : Rule) (q : ℕ) → go (get_or xs i d) (drop (i + 1) xs) s ≡ bad k q → F (drop i xs) s ≡ bad k q
  turn-bad k q e = turn ∙ then_bad _ e

  pub turn-good : (t : S) → go (get_or xs i d) (drop (i + 1) xs) s ≡ good t → F (drop (i + 1) xs) t ≡ F (drop i xs) s
  turn-good t e = sym (turn ∙ then_good _ e)

pub turn_end : {A S : Type 0} (F : List A → S → Outcome S) (closes : (s : S) → F [] s ≡ good s) (xs : List A) (i : ℕ) (s : S) → length xs ≤ i → F (drop i xs) s ≡ good s
turn_end F closes xs i s h = at_drop_all (λ ys. F ys s) xs i h ∙ closes s
