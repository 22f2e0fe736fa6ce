-- The one quotient past the largest number, found by its bits.
use Rattle.std.proofs.Common.{◌≡◌, ◌-◌, ◌^◌, cond, ℤ, negsuc, Some, None, sym, ap, ◌∙◌, w64, SFits, to_z, of_z}
use lib.Signed.{quot_z}
use Rattle.std.specs.Int.{int_wrap}
use Rattle.std.proofs.lemmas.Int.{to_z-of_z}
use Rattle.semantics.specs.Readings.{smallest}
use Rattle.semantics.specs.Rules.{is_zero}
use Rattle.semantics.proofs.Arithmetic.{smallest-over_minus_one}

pub smallest_quotient : (x y : ℤ) → SFits w64 x → SFits w64 y → of_z w64 x ≡ 2 ^ 63 → of_z w64 y ≡ 2 ^ 64 - 1 → Some smallest ≡ cond (is_zero y) None (Some (int_wrap w64 (quot_z x y)))
smallest_quotient x y fx fy ex ey =
    let dividend : x ≡ smallest = sym (to_z-of_z w64 x fx) ∙ ap (to_z w64) ex in
    let divisor : y ≡ negsuc 0 = sym (to_z-of_z w64 y fy) ∙ ap (to_z w64) ey in
    rw (dividend, divisor) (ap Some (sym smallest-over_minus_one.0))
