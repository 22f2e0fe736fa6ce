-- The steps of a return, and which entry of a block is the last.
use Rattle.std.proofs.Common.{◌≡◌, ℕ, ◌+◌, ◌<◌, ◌≤◌, Bool, eqb, List, length, drop, sym, ◌∙◌, ⊎_elim, arith}
use lib.ListN.{length-map}
use Rattle.std.proofs.lemmas.List.{at_drop_more, at_drop_all}
use Rattle.std.proofs.lemmas.Bool.{cases_lt, eq-eqb, ne_eqb}
use Rattle.xi.specs.declared.node.Ty.{Ty}
use Rattle.xi.specs.declared.rule.Rule.{Rule}
use Rattle.xi.specs.declared.rule.Rule.TheVariants.{Count, «Type» as TypeRule, Return}
use Rattle.sheet.specs.Outcome.{Outcome, good, bad, then, held}
use Rattle.sheet.proofs.Outcomes.{then_good, then_bad}
use Rattle.xi.specs.Typing.{numbers_of}
use Rattle.checker.specs.Walk.{is_empty, fitting, returned}

-- p is where the code says that the return is
module _ (go : ℕ → Outcome ℕ) (ns : List ℕ) (ts : List Ty) (last b : Bool) (p q : ℕ) (at : p ≡ q) (fit : fitting go ns (numbers_of ts) ≡ good b) where
  opened : returned go (numbers_of ts) last q ns ≡ then (held (eqb (length ns) (length ts)) Count p) (λ _. then (held b TypeRule p) (λ _. held last Return p))
  opened =
      then_good _ fit
      ∙ (λ j. then (held (eqb (length ns) (length-map ts (λ (t : Ty). t.number) j)) Count (sym at j)) (λ _. then (held b TypeRule (sym at j)) (λ _. held last Return (sym at j))))

  pub count-bad : (k : Rule) (o : ℕ) → held (eqb (length ns) (length ts)) Count p ≡ bad k o → returned go (numbers_of ts) last q ns ≡ bad k o
  count-bad k o e = opened ∙ then_bad _ e

  module _ (many : held (eqb (length ns) (length ts)) Count p ≡ good tt) where
    pub type-bad : (k : Rule) (o : ℕ) → held b TypeRule p ≡ bad k o → returned go (numbers_of ts) last q ns ≡ bad k o
    type-bad k o e = opened ∙ then_good _ many ∙ then_bad _ e

    pub to_last : held b TypeRule p ≡ good tt → held last Return p ≡ returned go (numbers_of ts) last q ns
    to_last e = sym (opened ∙ then_good _ many ∙ then_good _ e)

pub last_entry : (xs : List ℕ) (i : ℕ) → i < length xs → is_empty (drop (i + 1) xs) ≡ eqb (i + 1) (length xs)
last_entry xs i h =
    ⊎_elim
    (λ (more : i + 1 < length xs). at_drop_more is_empty xs (i + 1) 0 more ∙ sym (ne_eqb _ _ (λ e. omega arith)))
    (λ (none : length xs ≤ i + 1). at_drop_all is_empty xs (i + 1) none ∙ sym (eq-eqb _ _ (omega arith)))
    (cases_lt (i + 1) (length xs))
