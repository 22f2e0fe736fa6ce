-- Laws of outcomes.
use Rattle.std.proofs.Common.{◌≡◌, ℕ, IsErrAnd, Ok, Err, Result, ap}
use Rattle.xi.specs.declared.rule.Rule.{Rule}
use Rattle.sheet.specs.declared.refusal.Refusal.{Refusal}
use Rattle.sheet.specs.declared.refusal.Refusal.TheVariants.{Memory, Broken}
use Rattle.sheet.specs.Outcome.{Said, Outcome, good, bad, then}

pub then_good : {A B : Type 0} {o : Outcome A} {x : A} (f : A → Outcome B) → o ≡ good x → then o f ≡ f x
then_good f e = ap (λ o. then o f) e

pub then_bad : {A B : Type 0} {o : Outcome A} {k : Rule} {p : ℕ} (f : A → Outcome B) → o ≡ bad k p → then o f ≡ bad k p
then_bad f e = ap (λ o. then o f) e

-- what leaves by a `?`: the refusal of a part, o, is that of the whole, o'
pub said_on : {T U A B : Type 0} (r : Result T Refusal) (e : Refusal) (g : T → A) (o' : Outcome A) (f : U → B) (o : Outcome B) → IsErrAnd r (λ y. y ≡ e) → Said {T = U} (Err e) f o → ((k : Rule) (p : ℕ) → o ≡ bad k p → o' ≡ bad k p) → Said r g o'
said_on (Ok x) e g o' f o b s h = absurd b
said_on (Err Memory) e g o' f o b s h = tt
said_on (Err (Broken k p)) e g o' f o b s h = h k p (rw (← b) at s)
