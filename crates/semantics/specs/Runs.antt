-- Runs: what fuel pays for, and where a run stands after so much of it.
use Rattle.std.specs.Prelude.{ℕ, zero, suc, ◌+◌, ◌-◌, Bool, true, false, not, List, [], ◌∷◌, ◌++◌, length, take, drop, ℤ, pos, Some, None, Option as RustOption}
use Rattle.std.proofs.Math.Option.{Option, none, some}
use Rattle.xi.specs.declared.program.Function.{Function}
use Rattle.xi.specs.declared.program.GlobalVariable.{GlobalVariable}
use Rattle.xi.specs.declared.stop.Stop.{Stop}
use Rattle.xi.specs.Program.{Program}
use Rattle.xi.specs.Typing.{Binding, parameters_of}
use Rattle.xi.specs.Obeys.{main_of}
use Rattle.semantics.specs.State.{bool, int, array, Slot, Variable, variable, Store, Task, begin, finish, leave, back, Core, core, Host, Limits}
use Rattle.semantics.specs.State.{Effect, quiet, wrote, took, Move, go, finished, stop, stuck}
use Rattle.semantics.specs.Rules.{is_zero, step}

-- how a run has ended; a run that is broken had no next step
pub data Outcome : Type 0 where
  done : Outcome
  stopped : Stop → ℕ → Outcome
  broken : Outcome

pub record Config : Type 0 where
  pub core : Core
  pub outcome : Option Outcome
  pub host : Host
  -- the nodes begun so far
  pub spent : ℕ

-- the host changes by effects alone
abbrev pub acted : Effect → Host → Host
acted quiet h = h
acted (wrote t) h = record { handed = h.handed; left = h.left; written = h.written ++ t; room = h.room - length t }
acted (took n) h = record { handed = h.handed ++ take n h.left; left = drop n h.left; written = h.written; room = h.room }

abbrev pub ended : Outcome → Config → Config
ended o g = record { core = g.core; outcome = some o; host = g.host; spent = g.spent }

-- a stop leaves its operation undone
abbrev pub moved : Move → Config → Config
moved (go c e) g = record { core = c; outcome = none; host = acted e g.host; spent = g.spent }
moved finished g = ended done g
moved (stop s n) g = ended (stopped s n) g
moved stuck g = ended broken g

-- a node would begin next
abbrev pub waits : List Task → Bool
waits [] = false
waits (begin n ∷ k) = true
waits (finish n ∷ k) = false
waits (leave m ∷ k) = false
waits (back E O ∷ k) = false

abbrev pub unless_ended : Option Outcome → Config → (Config → Config) → Config
unless_ended none g f = f g
unless_ended (some o) g f = g

abbrev pub unless : Bool → Config → (Config → Config) → Config
unless true g f = g
unless false g f = f g

-- a bound on the steps before the next node would begin
abbrev pub weight : List Task → ℕ
weight [] = 1
weight (begin n ∷ k) = weight k
weight (finish n ∷ k) = weight k + 2
weight (leave m ∷ k) = weight k + 1
weight (back E O ∷ k) = weight k + 1

module _ (P : Program) (L : Limits) where
  -- one step
  unfoldable pub advance : Config → Config
  unfolding step
  advance g = moved (step P L g.host g.core) g

  -- steps that begin no node, m at most
  unfoldable pub free : ℕ → Config → Config
  unfolding advance
  free zero g = g
  free (suc m) g = unless_ended g.outcome g (λ g. unless (waits g.core.tasks) g (λ g. free m (advance g)))

  -- all steps up to the next node that would begin, or to the end
  unfoldable pub settle : Config → Config
  unfolding free
  settle g = free (weight g.core.tasks) g

  abbrev pub paid : Config → Config
  paid g = record { core = g.core; outcome = g.outcome; host = g.host; spent = suc g.spent }

  -- a unit of fuel: the node that waits is begun, and all that is free is done
  unfoldable pub turn : Config → Config
  unfolding settle advance
  turn g = unless_ended g.outcome g (λ g. settle (paid (advance g)))

  unfoldable pub run : ℕ → Config → Config
  unfolding turn
  run zero g = g
  run (suc n) g = run n (turn g)

-- what a run is made from
pub record Setup : Type 0 where
  pub program : Program
  -- how many cells and open calls there may be
  pub cells : ℕ
  pub depth : ℕ
  -- the first values of the globals
  pub first : List Slot
  -- the host at making
  pub left : List ℕ
  pub written : List ℕ
  pub room : ℕ

-- how many characters the script was handed
abbrev pub taken : Config → ℕ
taken g = length g.host.handed

-- the first value that a sheet gives a global, by its type
abbrev pub given_first : ℕ → RustOption ℤ → Slot
given_first t None = none
given_first zero (Some z) = some (int z)
given_first (suc zero) (Some z) = some (bool (not (is_zero z)))
given_first (suc (suc t)) (Some z) = none

abbrev pub given_firsts : List GlobalVariable → List Slot
given_firsts [] = []
given_firsts (g ∷ gs) = given_first g.ty.number g.first ∷ given_firsts gs

abbrev pub limits : Setup → Limits
limits S = record { cells = S.cells; depth = S.depth }

-- cell 0 is `main`'s empty array, made for type 2
abbrev pub first_store : List Slot → Store
first_store first = record { cells = some (int (pos 0)) ∷ []; made = record { first = 0; element = 2 } ∷ []; globals = first; depth = 1 }

abbrev pub arguments : List Binding → List Variable
arguments [] = []
arguments (b ∷ bs) = variable b.name (some (array 0)) ∷ arguments bs

-- `main` is the first open call
abbrev pub opening : Program → List Slot → Option Function → Core
opening P first none = core [] [] [] (first_store first)
opening P first (some F) = core (arguments (parameters_of P F)) [] (begin F.body ∷ []) (first_store first)

abbrev pub start : Setup → Config
start S = record { core = opening S.program S.first (main_of S.program); outcome = none; host = record { handed = []; left = S.left; written = S.written; room = S.room }; spent = 0 }

-- where the run stands once so much fuel was granted in all
unfoldable pub after : Setup → ℕ → Config
unfolding run settle
after S n = run S.program (limits S) n (settle S.program (limits S) (start S))
