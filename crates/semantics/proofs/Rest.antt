-- A grant ends where a node would begin unpaid, or where the run has ended.
use Rattle.std.proofs.Common.{◌≡◌, ℕ, zero, suc, ◌+◌, ◌<◌, ◌≤◌, Bool, true, false, List, [], ◌∷◌, sym, refl, subst, true≢false, arith}
use mathlib.Core.Option.{Option, none, some, none-ne-some}
use Rattle.xi.specs.Program.{Program}
use Rattle.xi.specs.Tree.{node_at}
use Rattle.semantics.specs.State.{Value, Variable, Store, Task, begin, finish, leave, back, Host, Limits, Move, go, finished, stop, stuck}
use Rattle.semantics.specs.Rules.{unwind, finishes, does, next, step}
use Rattle.semantics.specs.Runs.{Config, Outcome, moved, waits, weight, unless_ended, unless, advance, free, settle, paid, turn, run, after, start, limits}
use Rattle.semantics.specs.Laws.{RestsAt, Rests, ComesToRest}
use Rattle.semantics.proofs.Every.{finishes-all}

-- a move after which a node would begin, or less than w is left to do for free
abbrev Falls : ℕ → Move → Type 0
Falls w (go c e) = waits c.tasks ≡ false → weight c.tasks < w
Falls w finished = Unit {0}
Falls w (stop s n) = Unit {0}
Falls w stuck = Unit {0}

unwind-falls : (k : List Task) (vs : List Value) (s : Store) (w : ℕ) → weight k < w → Falls w (unwind k vs s)
unwind-falls [] vs s w h = tt
unwind-falls (begin n ∷ k) vs s w h = unwind-falls k vs s w h
unwind-falls (finish n ∷ k) vs s w h = unwind-falls k vs s w (omega arith)
unwind-falls (leave m ∷ k) vs s w h = unwind-falls k vs s w (omega arith)
unwind-falls (back E O ∷ k) vs s w h = λ _. omega arith

finishes_falls : (P : Program) (L : Limits) (h : Host) (k : List Task) (n : ℕ) (E : List Variable) (O : List Value) (s : Store) → Falls (weight k + 2) (finishes P L h (node_at P n) n E O k s)
finishes_falls P L h k n E O s =
    finishes-all (Falls (weight k + 2)) tt n (λ s. tt) P L h k
    (λ E O s _. omega arith) (λ E O n j s q. absurd (true≢false q)) (λ E O m s _. omega arith) (λ vs s. unwind-falls k vs s (weight k + 2) (omega arith))
    (λ E O t s _ _. omega arith) (λ E O m s _. omega arith) (node_at P n) E O s

next_falls : (P : Program) (L : Limits) (h : Host) (k : List Task) (E : List Variable) (O : List Value) (s : Store) → waits k ≡ false → Falls (weight k) (next P L h k E O s)
unfolding next does
next_falls P L h [] E O s w = tt
next_falls P L h (begin n ∷ k) E O s w = absurd (true≢false w)
next_falls P L h (finish n ∷ k) E O s w = finishes_falls P L h k n E O s
next_falls P L h (leave m ∷ k) E O s w = λ _. omega arith
next_falls P L h (back E' O' ∷ k) E O s w = λ _. omega arith

moved-falls : (w : ℕ) (m : Move) (g : Config) → Falls w m → (moved m g).outcome ≡ none → waits (moved m g).core.tasks ≡ false → weight (moved m g).core.tasks < w
moved-falls w (go c e) g f q = f
moved-falls w finished g f q = absurd (none-ne-some _ (sym q))
moved-falls w (stop s n) g f q = absurd (none-ne-some _ (sym q))
moved-falls w stuck g f q = absurd (none-ne-some _ (sym q))

pub pick-ended : (Q : Config → Type 0) (x : Option Outcome) (g : Config) (f : Config → Config) → ((o : Outcome) → x ≡ some o → Q g) → (x ≡ none → Q (f g)) → Q (unless_ended x g f)
pick-ended Q none g f a b = b refl
pick-ended Q (some o) g f a b = a o refl

pub pick : (Q : Config → Type 0) (x : Bool) (g : Config) (f : Config → Config) → (x ≡ true → Q g) → (x ≡ false → Q (f g)) → Q (unless x g f)
pick Q true g f a b = a refl
pick Q false g f a b = b refl

rests_end : (g : Config) (o : Outcome) → g.outcome ≡ some o → Rests g
rests_end g o e = subst (λ (x : Option Outcome). RestsAt x g.core.tasks) (sym e) tt

rests_wait : (g : Config) → g.outcome ≡ none → waits g.core.tasks ≡ true → Rests g
rests_wait g e w = subst (λ (x : Option Outcome). RestsAt x g.core.tasks) (sym e) w

weight-pos : (k : List Task) → 0 < weight k
weight-pos [] = omega arith
weight-pos (begin n ∷ k) = weight-pos k
weight-pos (finish n ∷ k) = omega (arith, weight-pos k)
weight-pos (leave m ∷ k) = omega (arith, weight-pos k)
weight-pos (back E O ∷ k) = omega (arith, weight-pos k)

module _ (P : Program) (L : Limits) where
  advance-falls : (g : Config) → waits g.core.tasks ≡ false → (advance P L g).outcome ≡ none → waits (advance P L g).core.tasks ≡ false → weight (advance P L g).core.tasks < weight g.core.tasks
  unfolding advance step
  advance-falls g w e = moved-falls (weight g.core.tasks) (step P L g.host g.core) g (next_falls P L g.host g.core.tasks g.core.variables g.core.operands g.core.store w) e

  free-rests : (m : ℕ) (g : Config) → (g.outcome ≡ none → waits g.core.tasks ≡ false → weight g.core.tasks ≤ m) → Rests (free P L m g)
  unfolding free
  free-rests zero g h = at_ended g.outcome refl
    where
      at-wait : g.outcome ≡ none → (b : Bool) → waits g.core.tasks ≡ b → Rests g
      at-wait e true w = rests_wait g e w
      at-wait e false w = absurd (let z : ⊥ = omega (arith, weight-pos g.core.tasks, h e w) in z)

      at_ended : (x : Option Outcome) → g.outcome ≡ x → Rests g
      at_ended none e = at-wait e (waits g.core.tasks) refl
      at_ended (some o) e = rests_end g o e
  free-rests (suc m) g h =
      pick-ended Rests g.outcome g _ (λ o e. rests_end g o e)
      (λ e. pick Rests (waits g.core.tasks) g _ (λ w. rests_wait g e w)
      (λ w. free-rests m (advance P L g) (λ e' w'. omega (arith, h e w, advance-falls g w e' w'))))

  pub settle-rests : (g : Config) → Rests (settle P L g)
  unfolding settle
  settle-rests g = free-rests _ g (λ e w. omega arith)

  pub turn-rests : (g : Config) → Rests (turn P L g)
  unfolding turn settle
  turn-rests g = pick-ended Rests g.outcome g _ (λ o e. rests_end g o e) (λ e. free-rests _ (paid P L (advance P L g)) (λ e' w. omega arith))

  pub run-rests : (n : ℕ) (g : Config) → Rests g → Rests (run P L n g)
  unfolding run
  run-rests zero g r = r
  run-rests (suc n) g r = run-rests n (turn P L g) (turn-rests g)

pub comes_to_rest : ComesToRest
unfolding after
comes_to_rest S n = run-rests S.program (limits S) n _ (settle-rests S.program (limits S) (start S))
