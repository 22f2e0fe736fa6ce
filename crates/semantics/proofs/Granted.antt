-- The function `after` is the relation of grants.
use Rattle.std.proofs.Common.{◌≡◌, ℕ, zero, suc, Bool, true, false, sym, refl, ap, ◌∙◌, subst, true≢false}
use mathlib.Core.Option.{Option, none, some, none-ne-some}
use Rattle.xi.specs.Program.{Program}
use Rattle.semantics.specs.State.{Limits}
use Rattle.semantics.specs.Runs.{Config, Outcome, advance, paid, waits, free, settle, turn, run, after, start, limits, unless_ended}
use Rattle.semantics.specs.Laws.{RestsAt}
use Rattle.semantics.specs.Grants.{Grant, has_ended, unpaid, costs_nothing, costs_one, AfterIsGranted, FurtherIsGranted, GrantLeadsToOne}
use Rattle.semantics.proofs.Fuel.{stays, grants_add}
use Rattle.semantics.proofs.Rest.{pick-ended, pick, turn-rests, settle-rests, comes_to_rest}

module _ (P : Program) (L : Limits) where
  -- from where the free steps lead, back to where they began
  free_back : (m n : ℕ) (g d : Config) → Grant P L (free P L m g) n d → Grant P L g n d
  unfolding free
  free_back zero n g d h = h
  free_back (suc m) n g d h =
      pick-ended (λ x. Grant P L x n d → Grant P L g n d) g.outcome g _ (λ o e q. q)
      (λ e. pick (λ x. Grant P L x n d → Grant P L g n d) (waits g.core.tasks) g _ (λ w q. q) (λ w q. costs_nothing e w (free_back m n (advance P L g) d q))) h

  open_turn : (g : Config) → g.outcome ≡ none → turn P L g ≡ settle P L (paid P L (advance P L g))
  unfolding turn
  open_turn g e = ap (λ (x : Option Outcome). unless_ended x g (λ g. settle P L (paid P L (advance P L g)))) e

  run-grant : (n : ℕ) (g : Config) (x : Option Outcome) → g.outcome ≡ x → RestsAt x g.core.tasks → Grant P L g n (run P L n g)
  unfolding run settle
  run-grant n g (some o) e r = subst (Grant P L g n) (sym (stays P L g o n e)) (has_ended e)
  run-grant zero g none e r = unpaid e r
  run-grant (suc n) g none e r =
      costs_one e r (free_back _ n (paid P L (advance P L g)) (run P L n (turn P L g))
      (subst (λ (d : Config). Grant P L d n (run P L n (turn P L g))) (open_turn g e) (run-grant n (turn P L g) (turn P L g).outcome refl (turn-rests P L g))))

pub after_is_granted : AfterIsGranted
unfolding after settle
after_is_granted S n =
    let g = settle S.program (limits S) (start S) in
    free_back S.program (limits S) _ n (start S) _ (run-grant S.program (limits S) n g g.outcome refl (settle-rests S.program (limits S) (start S)))

pub further_is_granted : FurtherIsGranted
further_is_granted S m n = rw (grants_add S m n) (run-grant S.program (limits S) n (after S m) (after S m).outcome refl (comes_to_rest S m))

not-ended : {A : Type 0} {x : Option Outcome} {o : Outcome} → x ≡ none → x ≡ some o → A
not-ended p q = absurd (none-ne-some _ (sym p ∙ q))

not_both : {A : Type 0} {b : Bool} → b ≡ true → b ≡ false → A
not_both p q = absurd (true≢false (sym p ∙ q))

pub grant_leads_to_one : GrantLeadsToOne
grant_leads_to_one P L g d e n (has_ended p) (has_ended q) = refl
grant_leads_to_one P L g d e n (has_ended p) (unpaid q w) = refl
grant_leads_to_one P L g d e n (has_ended p) (costs_nothing q w k) = not-ended q p
grant_leads_to_one P L g d e n (has_ended p) (costs_one q w k) = not-ended q p
grant_leads_to_one P L g d e n (unpaid p v) (has_ended q) = refl
grant_leads_to_one P L g d e n (unpaid p v) (unpaid q w) = refl
grant_leads_to_one P L g d e n (unpaid p v) (costs_nothing q w k) = not_both v w
grant_leads_to_one P L g d e n (costs_nothing p v h) (has_ended q) = not-ended p q
grant_leads_to_one P L g d e n (costs_nothing p v h) (unpaid q w) = not_both w v
grant_leads_to_one P L g d e n (costs_nothing p v h) (costs_nothing q w k) = grant_leads_to_one P L _ d e n h k
grant_leads_to_one P L g d e n (costs_nothing p v h) (costs_one q w k) = not_both w v
grant_leads_to_one P L g d e n (costs_one p v h) (has_ended q) = not-ended p q
grant_leads_to_one P L g d e n (costs_one p v h) (costs_nothing q w k) = not_both v w
grant_leads_to_one P L g d e n (costs_one {n = m} p v h) (costs_one q w k) = grant_leads_to_one P L _ d e m h k
