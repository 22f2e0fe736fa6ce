-- No step writes more than there is room for.
use Rattle.std.proofs.Common.{◌≡◌, ℕ, zero, suc, ◌+◌, ◌-◌, ◌≤◌, List, [], ◌∷◌, length, refl, ap, ◌∙◌, arith, length-append}
use Rattle.xi.specs.Program.{Program}
use Rattle.xi.specs.Tree.{node_at}
use Rattle.semantics.specs.State.{Value, Variable, Store, Task, begin, finish, leave, back, Host, Limits, Effect, quiet, wrote, took, Move, go, finished, stop, stuck}
use Rattle.semantics.specs.Rules.{unwind, does, next, step}
use Rattle.semantics.specs.Runs.{Config, acted, moved, advance, free, settle, paid, turn, run, after, start, limits, waits}
use Rattle.semantics.specs.Laws.{RoomCounted}
use Rattle.semantics.proofs.Every.{finishes-all}
use Rattle.semantics.proofs.Fuel.{ended-all, unless-all}

abbrev WritesWithin : ℕ → Effect → Type 0
WritesWithin r quiet = Unit {0}
WritesWithin r (wrote t) = length t ≤ r
WritesWithin r (took n) = Unit {0}

abbrev Modest : ℕ → Move → Type 0
Modest r (go c e) = WritesWithin r e
Modest r finished = Unit {0}
Modest r (stop s n) = Unit {0}
Modest r stuck = Unit {0}

unwind_modest : (r : ℕ) (k : List Task) (vs : List Value) (s : Store) → Modest r (unwind k vs s)
unwind_modest r [] vs s = tt
unwind_modest r (begin n ∷ k) vs s = unwind_modest r k vs s
unwind_modest r (finish n ∷ k) vs s = unwind_modest r k vs s
unwind_modest r (leave m ∷ k) vs s = unwind_modest r k vs s
unwind_modest r (back E O ∷ k) vs s = tt

next_modest : (P : Program) (L : Limits) (h : Host) (k : List Task) (E : List Variable) (O : List Value) (s : Store) → Modest h.room (next P L h k E O s)
unfolding next does
next_modest P L h [] E O s = tt
next_modest P L h (begin n ∷ k) E O s = tt
next_modest P L h (finish n ∷ k) E O s =
    finishes-all (Modest h.room) tt n (λ s. tt) P L h k (λ E O s. tt) (λ E O n j s. tt) (λ E O m s. tt) (λ vs s. unwind_modest h.room k vs s) (λ E O t s l. l) (λ E O m s. tt) (node_at P n) E O s
next_modest P L h (leave m ∷ k) E O s = tt
next_modest P L h (back E' O' ∷ k) E O s = tt

abbrev total : Host → ℕ
total h = length h.written + h.room

acted-total : (e : Effect) (h : Host) → WritesWithin h.room e → total (acted e h) ≡ total h
acted-total quiet h w = refl
acted-total (wrote t) h w = ap (λ (n : ℕ). n + (h.room - length t)) (length-append h.written t) ∙ omega arith
acted-total (took n) h w = refl

moved-total : (m : Move) (g : Config) → Modest g.host.room m → total (moved m g).host ≡ total g.host
moved-total (go c e) g w = acted-total e g.host w
moved-total finished g w = refl
moved-total (stop s n) g w = refl
moved-total stuck g w = refl

module _ (P : Program) (L : Limits) where
  advance-total : (g : Config) → total (advance P L g).host ≡ total g.host
  unfolding advance step
  advance-total g = moved-total (step P L g.host g.core) g (next_modest P L g.host g.core.tasks g.core.variables g.core.operands g.core.store)

  free-total : (m : ℕ) (g : Config) → total (free P L m g).host ≡ total g.host
  unfolding free
  free-total zero g = refl
  free-total (suc m) g =
      ended-all (λ d. total d.host ≡ total g.host) g.outcome g _ refl
      (unless-all (λ d. total d.host ≡ total g.host) (waits g.core.tasks) g _ refl (free-total m (advance P L g) ∙ advance-total g))

  turn-total : (g : Config) → total (turn P L g).host ≡ total g.host
  unfolding turn settle
  turn-total g = ended-all (λ d. total d.host ≡ total g.host) g.outcome g _ refl (free-total _ (paid P L (advance P L g)) ∙ advance-total g)

  run-total : (n : ℕ) (g : Config) → total (run P L n g).host ≡ total g.host
  unfolding run
  run-total zero g = refl
  run-total (suc n) g = run-total n (turn P L g) ∙ turn-total g

pub room-counted : RoomCounted
unfolding after settle
room-counted S n = run-total S.program (limits S) n _ ∙ free-total S.program (limits S) _ (start S)
