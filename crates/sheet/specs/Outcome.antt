-- What a test of a sheet gives: a value, or the rule that is broken and the offset where.
use Rattle.std.specs.Prelude.{◌≡◌, ℕ, zero, suc, ◌+◌, Bool, true, false, Ok, Err, Result}
use Rattle.xi.specs.declared.rule.Rule.{Rule}
use Rattle.sheet.specs.declared.refusal.Refusal.{Refusal}
use Rattle.sheet.specs.declared.refusal.Refusal.TheVariants.{Memory, Broken}

pub data Outcome (A : Type 0) : Type 0 where
  good : A → Outcome A
  bad : Rule → ℕ → Outcome A

-- one test after another: the first that fails is the answer
abbrev pub then : {A B : Type 0} → Outcome A → (A → Outcome B) → Outcome B
then (good x) f = f x
then (bad k p) f = bad k p

-- the rule k holds at p
abbrev pub held : Bool → Rule → ℕ → Outcome (Unit {0})
held true k p = good tt
held false k p = bad k p

-- n steps, numbered from i on, each from what the one before gave
abbrev pub runs : {S : Type 0} → (ℕ → S → Outcome S) → ℕ → ℕ → S → Outcome S
runs go zero i s = good s
runs go (suc n) i s = then (go i s) (λ t. runs go n (i + 1) t)

-- a function of the code answers as the outcome o says: with o's value, or with o's rule and place; want of memory says nothing
abbrev pub Said : {T A : Type 0} → Result T Refusal → (T → A) → Outcome A → Type 0
Said (Ok x) f o = o ≡ good (f x)
Said (Err Memory) f o = Unit {0}
Said (Err (Broken k p)) f o = o ≡ bad k p

-- a reader at p that read n bytes, where nothing was refused, is at q
abbrev pub Moved : {T : Type 0} → Result T Refusal → ℕ → ℕ → ℕ → Type 0
Moved (Ok x) p n q = q ≡ p + n
Moved (Err e) p n q = Unit {0}
