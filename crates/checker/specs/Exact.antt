-- What the check promises in the words of the rules: it accepts exactly the sheets that obey them, and a refusal is the first broken test.
use Rattle.std.specs.Prelude.{◌≡◌, ℕ, ◌<◌, ◌⊎◌, ◌↔◌, List, slice_index}
use Rattle.xi.specs.declared.rule.Rule.{Rule}
use Rattle.xi.specs.Obeys.{InRange, Obeys}
use Rattle.sheet.specs.Outcome.{good, bad}
use Rattle.sheet.specs.Sheets.{Decoded, decoded_at}
use Rattle.checker.specs.Checked.{rules_held, checked_at}
use Rattle.checker.specs.Tests.{tests_of, AllHold, FirstBroken}

-- bytes are accepted as D exactly where they are read as D and D obeys the rules
abbrev pub AcceptsExactly : Type 0
AcceptsExactly = (bs : List ℕ) → ((i : ℕ) → slice_index bs i < 256) → (D : Decoded) → (checked_at bs ≡ good D) ↔ ((decoded_at bs ≡ good D) × Obeys D.program)

-- a sheet that was read keeps the rules exactly where all of its tests hold
abbrev pub AcceptsPassing : Type 0
AcceptsPassing = (D : Decoded) → (rules_held D ≡ good tt) ↔ AllHold (tests_of D)

-- it breaks the rule k at p exactly where that is its first test that does not hold
abbrev pub RefusesFirst : Type 0
RefusesFirst = (D : Decoded) (k : Rule) (p : ℕ) → (rules_held D ≡ bad k p) ↔ FirstBroken (tests_of D) k p

-- what is read from bytes lies in its ranges
abbrev pub ReadsInRange : Type 0
ReadsInRange = (bs : List ℕ) (D : Decoded) → ((i : ℕ) → slice_index bs i < 256) → decoded_at bs ≡ good D → InRange D.program

-- a sheet in its ranges that obeys the rules passes every test, and one that passes every test obeys them
abbrev pub AcceptsObeying : Type 0
AcceptsObeying = (D : Decoded) → InRange D.program → Obeys D.program → rules_held D ≡ good tt

abbrev pub ObeyingAccepted : Type 0
ObeyingAccepted = (D : Decoded) → InRange D.program → rules_held D ≡ good tt → Obeys D.program

-- bytes are refused by the rule k at p exactly where reading refuses them so, or they are read and that is the first test that does not hold
abbrev pub RefusesExactly : Type 0
RefusesExactly = (bs : List ℕ) (k : Rule) (p : ℕ) → (checked_at bs ≡ bad k p) ↔ ((decoded_at bs ≡ bad k p) ⊎ ((D : Decoded) × (decoded_at bs ≡ good D) × FirstBroken (tests_of D) k p))
