-- A stop is at a begun node whose own work is next, and changes nothing.
use Rattle.std.proofs.Common.{◌≡◌, ℕ, zero, suc, List, [], ◌∷◌, refl, ap, ◌∙◌, arith}
use mathlib.Core.Option.{some, none-ne-some}
use Rattle.xi.specs.declared.stop.Stop.{Stop}
use Rattle.xi.specs.Program.{Program}
use Rattle.xi.specs.Tree.{node_at}
use Rattle.semantics.specs.State.{Value, Variable, Store, Task, begin, finish, leave, back, Core, Host, Limits, Move, go, finished, stop, stuck}
use Rattle.semantics.specs.Rules.{unwind, does, next, step}
use Rattle.semantics.specs.Runs.{Config, stopped, moved, advance, free, settle, paid, turn, run, after, start, limits, waits}
use Rattle.semantics.specs.Laws.{StopsUndone, StopChangesNothing, StopsAtItsNode}
use Rattle.semantics.proofs.Every.{finishes-all}
use Rattle.semantics.proofs.Fuel.{ended-all, unless-all}

abbrev AtNode : List Task → Move → Type 0
AtNode k (go c e) = Unit {0}
AtNode k finished = Unit {0}
AtNode k (stop s p) = (j : List Task) × (k ≡ finish p ∷ j)
AtNode k stuck = Unit {0}

unwind-at : (i k : List Task) (vs : List Value) (s : Store) → AtNode i (unwind k vs s)
unwind-at i [] vs s = tt
unwind-at i (begin n ∷ k) vs s = unwind-at i k vs s
unwind-at i (finish n ∷ k) vs s = unwind-at i k vs s
unwind-at i (leave m ∷ k) vs s = unwind-at i k vs s
unwind-at i (back E O ∷ k) vs s = tt

next_at : (P : Program) (L : Limits) (h : Host) (k : List Task) (E : List Variable) (O : List Value) (s : Store) → AtNode k (next P L h k E O s)
unfolding next does
next_at P L h [] E O s = tt
next_at P L h (begin n ∷ k) E O s = tt
next_at P L h (finish n ∷ k) E O s =
    finishes-all (AtNode (finish n ∷ k)) tt n (λ s. (k, refl)) P L h k (λ E O s. tt) (λ E O a j s. tt) (λ E O m s. tt) (λ vs s. unwind-at (finish n ∷ k) k vs s) (λ E O t s l. tt) (λ E O m s. tt) (node_at P n) E O s
next_at P L h (leave m ∷ k) E O s = tt
next_at P L h (back E' O' ∷ k) E O s = tt

moved_undone : (m : Move) (g : Config) (s : Stop) (p : ℕ) → AtNode g.core.tasks m → (moved m g).outcome ≡ some (stopped s p) → StopsUndone g p (moved m g)
moved_undone (go c e) g s p a q = absurd (none-ne-some _ q)
moved_undone finished g s p a q = absurd (let z : ◌≡◌ {A = ℕ} 0 1 = cc in let f : ⊥ = omega arith in f)
moved_undone (stop t r) g s p a q =
    let e : r ≡ p = cc in
    record { later = a.0; place = a.1 ∙ ap {B = List Task} (λ (n : ℕ). finish n ∷ a.0) e; core = refl; host = refl; spent = refl }
moved_undone stuck g s p a q = absurd (let z : ◌≡◌ {A = ℕ} 0 1 = cc in let f : ⊥ = omega arith in f)

pub stop_changes_nothing : StopChangesNothing
unfolding advance step
stop_changes_nothing P L g s p q = moved_undone (step P L g.host g.core) g s p (next_at P L g.host g.core.tasks g.core.variables g.core.operands g.core.store) q

abbrev Undone : Config → Type 0
Undone g = (s : Stop) (p : ℕ) → g.outcome ≡ some (stopped s p) → (later : List Task) × (g.core.tasks ≡ finish p ∷ later)

module _ (P : Program) (L : Limits) where
  advance-undone : (g : Config) → Undone (advance P L g)
  advance-undone g s p q = let u = stop_changes_nothing P L g s p q in (u.later, ap (λ (c : Core). c.tasks) u.core ∙ u.place)

  free-undone : (m : ℕ) (g : Config) → Undone g → Undone (free P L m g)
  unfolding free
  free-undone zero g u = u
  free-undone (suc m) g u = ended-all Undone g.outcome g _ u (unless-all Undone (waits g.core.tasks) g _ u (free-undone m (advance P L g) (advance-undone g)))

  turn-undone : (g : Config) → Undone g → Undone (turn P L g)
  unfolding turn settle
  turn-undone g u = ended-all Undone g.outcome g _ u (free-undone _ (paid P L (advance P L g)) (advance-undone g))

  run-undone : (n : ℕ) (g : Config) → Undone g → Undone (run P L n g)
  unfolding run
  run-undone zero g u = u
  run-undone (suc n) g u = run-undone n (turn P L g) (turn-undone g u)

pub stops_at_its_node : StopsAtItsNode
unfolding after settle
stops_at_its_node S n = run-undone S.program (limits S) n _ (free-undone S.program (limits S) _ (start S) (λ s p q. absurd (none-ne-some _ q)))
