-- The decimal text of an `int` is the one that Rust writes.
use Rattle.std.proofs.Common.{◌≡◌, ℕ, suc, ◌^◌, ◌<◌, ltb, List, [], ◌∷◌, pos, negsuc, decimal, ap, ◌∙◌, arith}
use Rattle.std.proofs.lemmas.Fmt.{PrependsLastDigit, decimal_from_prepends, length-decimal-le}
use Rattle.std.proofs.lemmas.Bool.{cond-true, cond-false, lt-ltb, le-ltb}
use Rattle.semantics.specs.Numbers.{digits_before}
use Rattle.semantics.specs.Readings.{NumeralIsWritten}
use Rattle.semantics.proofs.Lists.{append-nil}

spells : PrependsLastDigit digits_before
spells = record { one = λ k n t h. cond-true (ltb n 10) _ _ (lt-ltb n 10 h); more = λ k n t h. cond-false (ltb n 10) _ _ (le-ltb n 10 h) }

digits_are_decimal : (n : ℕ) → n < 2 ^ 64 → digits_before 20 n [] ≡ decimal n
digits_are_decimal n h = decimal_from_prepends digits_before spells 20 n [] h (length-decimal-le 20 n (omega arith) (omega arith) h) ∙ append-nil (decimal n)

pub numeral_is_written : NumeralIsWritten
numeral_is_written (pos n) f = digits_are_decimal n (omega (arith, f.sfits))
numeral_is_written (negsuc n) f = ap {B = List ℕ} (λ t. 45 ∷ t) (digits_are_decimal (suc n) (omega (arith, f.sfits)))
