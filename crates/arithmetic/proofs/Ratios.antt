-- The nearest whole number to a quotient, from the sizes of the two numbers and whether their signs agree.
use Rattle.std.proofs.Common.{◌≡◌, ℕ, zero, suc, ◌+◌, ◌-◌, ◌*◌, ◌/◌, ◌%◌, ◌^◌, ◌<◌, ◌≤◌, true, false, cond, ℤ, pos, negsuc, neg_ℤ, nat_abs, Some, None, sym, refl, ap, ◌∙◌, zero-le, div-lt_iff_lt-mul, arith, w64, SFits, to_z, of_z}
use mathlib.Core.Bool.{beq}
use lib.Signed.{lt_z}
use Rattle.std.specs.Int.{int_wrap}
use Rattle.std.proofs.lemmas.Bool.{le-ltb, ne_eqb}
use Rattle.std.proofs.lemmas.Int.{to_z-of_z, of_z-to_z}
use Rattle.semantics.specs.Numbers.{nearest, same_sign}
use Rattle.semantics.specs.Rules.{is_zero}

not-zero : (y : ℤ) → (of_z w64 y ≡ 0 → ⊥) → is_zero y ≡ false
not-zero (pos n) h = ne_eqb n 0 h
not-zero (negsuc n) h = refl

abs_bound : (x : ℤ) → SFits w64 x → nat_abs x ≤ 2 ^ 63
abs_bound (pos n) f = omega (arith, f.sfits)
abs_bound (negsuc n) f = omega (arith, f.sfits)

abs_some : (y : ℤ) → (of_z w64 y ≡ 0 → ⊥) → 0 < nat_abs y
abs_some (pos zero) h = absurd (h refl)
abs_some (pos (suc n)) h = omega arith
abs_some (negsuc n) h = omega arith

signs : (x y : ℤ) → beq (lt_z x (pos 0)) (lt_z y (pos 0)) ≡ same_sign x y
signs (pos a) (pos b) = rw (le-ltb a 0 zero-le, le-ltb b 0 zero-le)
signs (pos a) (negsuc b) = rw (le-ltb a 0 zero-le)
signs (negsuc a) (pos b) = rw (le-ltb b 0 zero-le)
signs (negsuc a) (negsuc b) = refl

wrapped_plus : (q : ℕ) → q < 2 ^ 64 → int_wrap w64 (pos q) ≡ to_z w64 q
unfolding int_wrap
wrapped_plus q h = ap (to_z w64) (omega arith)

wrapped_minus : (q : ℕ) → q < 2 ^ 64 → int_wrap w64 (neg_ℤ (pos q)) ≡ to_z w64 ((2 ^ 64 - q) % 2 ^ 64)
unfolding int_wrap
wrapped_minus zero h = refl
wrapped_minus (suc n) h = ap (to_z w64) (omega arith)

-- the quotient of the sizes, rounded, is the ratio's size
module _ (x y : ℤ) (fx : SFits w64 x) (k : of_z w64 y ≡ 0 → ⊥) where
  abbrev pub rounded : ℕ
  rounded = (2 * nat_abs x + nat_abs y) / (2 * nat_abs y)

  pub rounded-fits : rounded < 2 ^ 64
  rounded-fits = (div-lt_iff_lt-mul {k = 2 * nat_abs y} (omega (arith, abs_some y k))).1 (omega (arith, abs_bound x fx, abs_some y k))

  pub same-ratio : beq (lt_z x (pos 0)) (lt_z y (pos 0)) ≡ true → Some (to_z w64 rounded) ≡ cond (is_zero y) None (Some (int_wrap w64 (nearest x y)))
  same-ratio e = rw (not-zero y k, sym (signs x y) ∙ e, wrapped_plus rounded rounded-fits)

  pub other-ratio : beq (lt_z x (pos 0)) (lt_z y (pos 0)) ≡ false → Some (to_z w64 ((2 ^ 64 - rounded) % 2 ^ 64)) ≡ cond (is_zero y) None (Some (int_wrap w64 (nearest x y)))
  other-ratio e = rw (not-zero y k, sym (signs x y) ∙ e, wrapped_minus rounded rounded-fits)

-- what proves that `ratio` rounds
pub ruleset rounds = (to_z-of_z, of_z-to_z, rounded-fits, same-ratio, other-ratio)
