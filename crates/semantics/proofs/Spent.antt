-- What is spent of what was granted.
use Rattle.std.proofs.Common.{◌≡◌, ℕ, zero, suc, ◌+◌, ◌≤◌, sym, refl, ap, ◌∙◌, arith}
use mathlib.Core.Option.{Option, none, some, none-ne-some}
use Rattle.xi.specs.Program.{Program}
use Rattle.semantics.specs.State.{Limits, Move, go, finished, stop, stuck}
use Rattle.semantics.specs.Rules.{step}
use Rattle.semantics.specs.Runs.{Config, Outcome, moved, advance, free, settle, paid, turn, run, after, start, limits, waits, unless_ended}
use Rattle.semantics.specs.Laws.{SpendsGranted}
use Rattle.semantics.proofs.Fuel.{ended-all, unless-all, stays}

moved_spent : (m : Move) (g : Config) → (moved m g).spent ≡ g.spent
moved_spent (go c e) g = refl
moved_spent finished g = refl
moved_spent (stop s n) g = refl
moved_spent stuck g = refl

module _ (P : Program) (L : Limits) where
  free-spent : (m : ℕ) (g : Config) → (free P L m g).spent ≡ g.spent
  unfolding free advance
  free-spent zero g = refl
  free-spent (suc m) g =
      ended-all (λ d. d.spent ≡ g.spent) g.outcome g _ refl
      (unless-all (λ d. d.spent ≡ g.spent) (waits g.core.tasks) g _ refl (free-spent m (advance P L g) ∙ moved_spent (step P L g.host g.core) g))

  turn-spent : (g : Config) → g.outcome ≡ none → (turn P L g).spent ≡ suc g.spent
  unfolding turn settle advance
  turn-spent g e =
      ap (λ (x : Option Outcome). (unless_ended x g (λ g. settle P L (paid P L (advance P L g)))).spent) e
      ∙ free-spent _ (paid P L (advance P L g)) ∙ ap suc (moved_spent (step P L g.host g.core) g)

  abbrev Within : ℕ → Config → Config → Type 0
  Within n g d = (d.spent ≤ g.spent + n) × (d.outcome ≡ none → d.spent ≡ g.spent + n)

  by_end : (n : ℕ) (g : Config) (x : Option Outcome) → g.outcome ≡ x → Within n (turn P L g) (run P L n (turn P L g)) → Within (suc n) g (run P L n (turn P L g))
  unfolding run
  by_end n g none e r =
      let t = turn-spent g e in
      (omega (arith, t, r.0), λ q. omega (arith, t, r.1 q))
  by_end n g (some o) e r =
      let s = stays P L g o (suc n) e in
      (omega (arith, ap (λ (d : Config). d.spent) s), λ q. absurd (none-ne-some o (sym q ∙ ap (λ (d : Config). d.outcome) s ∙ e)))

  run-spent : (n : ℕ) (g : Config) → Within n g (run P L n g)
  unfolding run
  run-spent zero g = (omega arith, λ e. omega arith)
  run-spent (suc n) g = by_end n g g.outcome refl (run-spent n (turn P L g))

pub spends_granted : SpendsGranted
unfolding after settle
spends_granted S n =
    let s : (settle S.program (limits S) (start S)).spent ≡ 0 = free-spent S.program (limits S) _ (start S) in
    let r = run-spent S.program (limits S) n (settle S.program (limits S) (start S)) in
    record { most = omega (arith, s, r.0); all = λ e. omega (arith, s, r.1 e) }
