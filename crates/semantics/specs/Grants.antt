-- What a grant of fuel is, as a relation: it goes on until a node would begin unpaid, or the run has ended.
use Rattle.std.specs.Prelude.{◌≡◌, ℕ, zero, suc, ◌+◌, true, false}
use Rattle.std.proofs.Math.Option.{none, some}
use Rattle.xi.specs.Program.{Program}
use Rattle.semantics.specs.State.{Limits}
use Rattle.semantics.specs.Runs.{Config, Outcome, advance, paid, waits, after, start, Setup, limits}

pub data Grant (P : Program) (L : Limits) : Config → ℕ → Config → Type 0 where
  -- a run that has ended stays
  has_ended : {g : Config} {n : ℕ} {o : Outcome} → g.outcome ≡ some o → Grant P L g n g
  -- a node would begin, and no fuel is left
  unpaid : {g : Config} → g.outcome ≡ none → waits g.core.tasks ≡ true → Grant P L g zero g
  -- what follows a beginning costs nothing
  costs_nothing : {g d : Config} {n : ℕ} → g.outcome ≡ none → waits g.core.tasks ≡ false → Grant P L (advance P L g) n d → Grant P L g n d
  -- a node that begins costs one unit
  costs_one : {g d : Config} {n : ℕ} → g.outcome ≡ none → waits g.core.tasks ≡ true → Grant P L (paid P L (advance P L g)) n d → Grant P L g (suc n) d

-- a grant leads from the start to `after`
abbrev pub AfterIsGranted : Type 0
AfterIsGranted = (S : Setup) (n : ℕ) → Grant S.program (limits S) (start S) n (after S n)

-- a further grant leads on to `after` of the sum
abbrev pub FurtherIsGranted : Type 0
FurtherIsGranted = (S : Setup) (m n : ℕ) → Grant S.program (limits S) (after S m) n (after S (m + n))

-- and a grant leads nowhere else
abbrev pub GrantLeadsToOne : Type 0
GrantLeadsToOne = (P : Program) (L : Limits) (g d e : Config) (n : ℕ) → Grant P L g n d → Grant P L g n e → d ≡ e
