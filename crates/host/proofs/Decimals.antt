-- A decimal is not empty, and has no newline.
use Rattle.std.proofs.Common.{◌≡◌, ℕ, zero, suc, ◌/◌, ◌%◌, ◌<◌, Bool, false, eqb, List, [], ◌∷◌, length, ℤ, pos, negsuc, decimal, refl, arith}
use Rattle.std.proofs.lemmas.Bool.{cond_both}
use Rattle.std.proofs.lemmas.Bool.Decides.{nat_tests}
use Rattle.std.specs.Fmt.{digits, digit_glyph, digits_onto}
use Rattle.host.specs.Decimal as whole
use Rattle.host.specs.Text.{row_length}
use Rattle.host.proofs.Rows.{plain-cons}

Plain : List ℕ → Type 0
Plain cs = (0 < length cs) × (row_length cs ≡ length cs)

glyph_plain : (upper : Bool) (d : ℕ) → digit_glyph upper d ≡ 10 → ⊥
glyph_plain upper d e = grind (arith, nat_tests)

spelled_plain : (k base : ℕ) (upper : Bool) (n : ℕ) (acc : List ℕ) → row_length acc ≡ length acc → Plain (digits_onto (suc k) base upper n acc)
unfolding Plain
spelled_plain zero base upper n acc h =
    let more : Plain (digit_glyph upper (n % base) ∷ acc) = (omega arith, plain-cons (digit_glyph upper (n % base)) acc (glyph_plain upper (n % base)) h) in
    cond_both (eqb (n / base) 0) (digit_glyph upper (n % base) ∷ acc) (digit_glyph upper (n % base) ∷ acc) Plain (λ _. more) (λ _. more)
spelled_plain (suc k) base upper n acc h =
    let more : Plain (digit_glyph upper (n % base) ∷ acc) = (omega arith, plain-cons (digit_glyph upper (n % base)) acc (glyph_plain upper (n % base)) h) in
    cond_both (eqb (n / base) 0) (digit_glyph upper (n % base) ∷ acc) (digits_onto (suc k) base upper (n / base) (digit_glyph upper (n % base) ∷ acc)) Plain
    (λ _. more)
    (λ _. spelled_plain k base upper (n / base) (digit_glyph upper (n % base) ∷ acc) more.1)

digits_plain : (n : ℕ) → Plain (decimal n)
unfolding digits
digits_plain n = spelled_plain 63 10 false n [] refl

decimal_plain : (z : ℤ) → Plain (whole.decimal z)
unfolding Plain
decimal_plain (pos n) = digits_plain n
decimal_plain (negsuc n) = (omega arith, plain-cons 45 (decimal (suc n)) (λ e. omega arith) (digits_plain (suc n)).1)

pub decimal-some : (z : ℤ) → 0 < length (whole.decimal z)
unfolding Plain
decimal-some z = (decimal_plain z).0

pub decimal-row : (z : ℤ) → row_length (whole.decimal z) ≡ length (whole.decimal z)
unfolding Plain
decimal-row z = (decimal_plain z).1
