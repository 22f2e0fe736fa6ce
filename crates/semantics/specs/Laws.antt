-- The laws of fuel and of characters.
use Rattle.std.specs.Prelude.{◌≡◌, ℕ, ◌+◌, ◌≤◌, true, List, ◌∷◌, ◌++◌, length}
use Rattle.std.proofs.Math.Option.{Option, none, some}
use Rattle.xi.specs.declared.stop.Stop.{Stop}
use Rattle.xi.specs.Program.{Program}
use Rattle.semantics.specs.State.{Task, finish, Limits}
use Rattle.semantics.specs.Runs.{Config, Setup, Outcome, stopped, limits, advance, run, after, waits}

-- granting m and then n is granting m + n
abbrev pub GrantsAdd : Type 0
GrantsAdd = (S : Setup) (m n : ℕ) → after S (m + n) ≡ run S.program (limits S) n (after S m)

-- a run that has ended stays
abbrev pub EndedStays : Type 0
EndedStays = (S : Setup) (m n : ℕ) (o : Outcome) → (after S m).outcome ≡ some o → after S (m + n) ≡ after S m

-- a list begins with another
pub record Beginning (a b : List ℕ) : Type 0 where
  pub rest : List ℕ
  pub is : b ≡ a ++ rest

-- what was written and handed after less fuel are beginnings of the same after more
abbrev pub WritesOn : Type 0
WritesOn = (S : Setup) (m n : ℕ) → Beginning (after S m).host.written (after S (m + n)).host.written

abbrev pub HandsOn : Type 0
HandsOn = (S : Setup) (m n : ℕ) → Beginning (after S m).host.handed (after S (m + n)).host.handed

-- what was handed, then what is left, is what was left at making
abbrev pub CharactersKept : Type 0
CharactersKept = (S : Setup) (n : ℕ) → (after S n).host.handed ++ (after S n).host.left ≡ S.left

-- where a grant ends: a node would begin unpaid, or the run has ended
abbrev pub RestsAt : Option Outcome → List Task → Type 0
RestsAt none k = waits k ≡ true
RestsAt (some o) k = Unit {0}

abbrev pub Rests : Config → Type 0
Rests g = RestsAt g.outcome g.core.tasks

abbrev pub ComesToRest : Type 0
ComesToRest = (S : Setup) (n : ℕ) → Rests (after S n)

-- what is spent is at most what was granted, and all of it while the run waits
pub record SpentOf (granted : ℕ) (g : Config) : Type 0 where
  pub most : g.spent ≤ granted
  pub all : g.outcome ≡ none → g.spent ≡ granted

abbrev pub SpendsGranted : Type 0
SpendsGranted = (S : Setup) (n : ℕ) → SpentOf n (after S n)

-- what is written, and the room that is left, come to what they were at making
abbrev pub RoomCounted : Type 0
RoomCounted = (S : Setup) (n : ℕ) → length (after S n).host.written + (after S n).host.room ≡ length S.written + S.room

-- a stop is at a begun node whose own work is next; that node's number is its place, and nothing is changed
pub record StopsUndone (g : Config) (p : ℕ) (d : Config) : Type 0 where
  pub later : List Task
  pub place : g.core.tasks ≡ finish p ∷ later
  pub core : d.core ≡ g.core
  pub host : d.host ≡ g.host
  pub spent : d.spent ≡ g.spent

abbrev pub StopChangesNothing : Type 0
StopChangesNothing = (P : Program) (L : Limits) (g : Config) (s : Stop) (p : ℕ) → (advance P L g).outcome ≡ some (stopped s p) → StopsUndone g p (advance P L g)

-- and so a run that has stopped still shows that work undone
abbrev pub StopsAtItsNode : Type 0
StopsAtItsNode = (S : Setup) (n : ℕ) (s : Stop) (p : ℕ) → (after S n).outcome ≡ some (stopped s p) → (later : List Task) × ((after S n).core.tasks ≡ finish p ∷ later)
