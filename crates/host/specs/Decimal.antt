-- The decimal of a whole number: a minus sign if it is negative, and its digits, as `{}` writes it.
use Rattle.std.specs.Prelude.{ℕ, List, ℤ}
use Rattle.std.specs.Fmt.{signed_decimal}

abbrev pub decimal : ℤ → List ℕ
decimal z = signed_decimal z
