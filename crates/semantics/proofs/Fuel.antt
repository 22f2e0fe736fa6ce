-- Fuel may be cut anywhere, and the host's text only grows.
use Rattle.std.proofs.Common.{◌≡◌, ℕ, zero, suc, ◌+◌, Bool, true, false, List, [], ◌∷◌, ◌++◌, take, drop, sym, refl, ap, ◌∙◌, append_assoc, suc-add, zero-add, take-append-drop}
use mathlib.Core.Option.{Option, none, some}
use Rattle.xi.specs.Program.{Program}
use Rattle.semantics.specs.State.{Host, Limits, Effect, quiet, wrote, took, Move, go, finished, stop, stuck}
use Rattle.semantics.specs.Rules.{step}
use Rattle.semantics.specs.Runs.{Config, Outcome, acted, moved, advance, free, settle, paid, turn, run, after, start, Setup, limits, waits, unless, unless_ended}
use Rattle.semantics.specs.Laws.{GrantsAdd, EndedStays, WritesOn, HandsOn, CharactersKept}

pub cut : (P : Program) (L : Limits) (g : Config) (m n : ℕ) → run P L (m + n) g ≡ run P L n (run P L m g)
unfolding run
cut P L g zero n = rw zero-add
cut P L g (suc m) n = rw suc-add (cut P L (turn P L g) m n)

turn-stays : (P : Program) (L : Limits) (g : Config) (o : Outcome) → g.outcome ≡ some o → turn P L g ≡ g
unfolding turn
turn-stays P L g o e = ap (λ (x : Option Outcome). unless_ended x g (λ g. settle P L (paid P L (advance P L g)))) e

pub stays : (P : Program) (L : Limits) (g : Config) (o : Outcome) (n : ℕ) → g.outcome ≡ some o → run P L n g ≡ g
unfolding run
stays P L g o zero e = refl
stays P L g o (suc n) e = rw (turn-stays P L g o e) (stays P L g o n e)

pub grants_add : GrantsAdd
unfolding after
grants_add S m n = cut S.program (limits S) (settle S.program (limits S) (start S)) m n

pub ended-stays : EndedStays
ended-stays S m n o e = grants_add S m n ∙ stays S.program (limits S) (after S m) o n e

-- what holds both ways holds of the choice
pub ended-all : (Q : Config → Type 0) (x : Option Outcome) (g : Config) (f : Config → Config) → Q g → Q (f g) → Q (unless_ended x g f)
ended-all Q none g f a b = b
ended-all Q (some o) g f a b = a

pub unless-all : (Q : Config → Type 0) (x : Bool) (g : Config) (f : Config → Config) → Q g → Q (f g) → Q (unless x g f)
unless-all Q true g f a b = a
unless-all Q false g f a b = b

append-nil : (l : List ℕ) → l ++ [] ≡ l
append-nil [] = refl
append-nil (x ∷ l) = ap {B = List ℕ} (λ r. x ∷ r) (append-nil l)

-- the host h' is h, some writing and some reading later
record Later (h h' : Host) : Type 0 where
  more : List ℕ
  writes : h'.written ≡ h.written ++ more
  read : List ℕ
  reads : h'.handed ≡ h.handed ++ read
  kept : h'.handed ++ h'.left ≡ h.handed ++ h.left

later_refl : (h : Host) → Later h h
later_refl h = record { more = []; writes = sym (append-nil _); read = []; reads = sym (append-nil _); kept = refl }

later_trans : {a b c : Host} → Later a b → Later b c → Later a c
later_trans {a} p q =
    record { more = p.more ++ q.more; writes = q.writes ∙ rw (p.writes, append_assoc); read = p.read ++ q.read; reads = q.reads ∙ rw (p.reads, append_assoc); kept = q.kept ∙ p.kept }

acted-later : (e : Effect) (h : Host) → Later h (acted e h)
acted-later quiet h = later_refl h
acted-later (wrote t) h = record { more = t; writes = refl; read = []; reads = sym (append-nil _); kept = refl }
acted-later (took n) h =
    record { more = []; writes = sym (append-nil _); read = take n h.left; reads = refl; kept = append_assoc h.handed (take n h.left) (drop n h.left) ∙ ap (λ (t : List ℕ). h.handed ++ t) (take-append-drop n h.left) }

moved_later : (m : Move) (g : Config) → Later g.host (moved m g).host
moved_later (go c e) g = acted-later e g.host
moved_later finished g = later_refl _
moved_later (stop s n) g = later_refl _
moved_later stuck g = later_refl _

module _ (P : Program) (L : Limits) where
  free-later : (m : ℕ) (g : Config) → Later g.host (free P L m g).host
  unfolding free advance
  free-later zero g = later_refl _
  free-later (suc m) g =
      ended-all (λ d. Later g.host d.host) g.outcome g _ (later_refl _)
      (unless-all (λ d. Later g.host d.host) (waits g.core.tasks) g _ (later_refl _)
      (later_trans (moved_later (step P L g.host g.core) g) (free-later m (advance P L g))))

  turn-later : (g : Config) → Later g.host (turn P L g).host
  unfolding turn settle advance
  turn-later g =
      ended-all (λ d. Later g.host d.host) g.outcome g _ (later_refl _)
      (later_trans (moved_later (step P L g.host g.core) g) (free-later _ (paid P L (advance P L g))))

  run-later : (n : ℕ) (g : Config) → Later g.host (run P L n g).host
  unfolding run
  run-later zero g = later_refl _
  run-later (suc n) g = later_trans (turn-later g) (run-later n (turn P L g))

later-on : (S : Setup) (m n : ℕ) → Later (after S m).host (after S (m + n)).host
later-on S m n = rw (grants_add S m n) (run-later S.program (limits S) n (after S m))

pub writes-on : WritesOn
writes-on S m n = let l = later-on S m n in record { rest = l.more; is = l.writes }

pub hands_on : HandsOn
hands_on S m n = let l = later-on S m n in record { rest = l.read; is = l.reads }

pub characters-kept : CharactersKept
unfolding after settle
characters-kept S n =
    (later_trans (free-later S.program (limits S) _ (start S)) (run-later S.program (limits S) n (settle S.program (limits S) (start S)))).kept
