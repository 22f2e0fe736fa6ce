-- What a search finds: the first of some things that has the name of an earlier one, and the outcome where a rule is broken at what is found.
use Rattle.std.specs.Prelude.{ℕ, ◌+◌, cond, List, [], ◌∷◌, ◌++◌, Some, None, Option}
use Rattle.sheet.specs.declared.functions.FunctionRecord.{FunctionRecord}
use Rattle.xi.specs.declared.rule.Rule.{Rule}
use Rattle.sheet.specs.Outcome.{Outcome, good, bad}
use Rattle.checker.specs.Checked.{has_name}

abbrev pub record_name : FunctionRecord → ℕ
record_name r = r.function.name

-- the number of that in `rest`, which follow the i things `seen`
abbrev pub repeated_in : {A : Type 0} → (A → ℕ) → List A → ℕ → List A → Option ℕ
repeated_in name seen i [] = None
repeated_in name seen i (a ∷ rest) = cond (has_name name seen (name a)) (Some i) (repeated_in name (seen ++ a ∷ []) (i + 1) rest)

abbrev pub repeated : {A : Type 0} → (A → ℕ) → List A → Option ℕ
repeated name xs = repeated_in name [] 0 xs

-- the rule K is broken at the offset p of the thing that was found, if one was
abbrev pub fails_at : Rule → (ℕ → ℕ) → Option ℕ → Outcome (Unit {0})
fails_at K p None = good tt
fails_at K p (Some i) = bad K (p i)
