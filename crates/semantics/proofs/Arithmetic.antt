-- Second readings of arithmetic: modulo, division, the nearest whole number.
use Rattle.std.proofs.Common.{◌≡◌, ℕ, zero, suc, ◌+◌, ◌-◌, ◌*◌, ◌/◌, ◌%◌, ◌^◌, ◌<◌, ◌≤◌, false, cond, eqb, ltb, ℤ, pos, negsuc, ◌+ℤ◌, ◌-ℤ◌, ◌*ℤ◌, neg_ℤ, nat_abs, sym, refl, ap, ◌∙◌, true≢false, mod-lt, div-lt_iff_lt-mul, div-add-mod', zero-mul, div-le_self, mul_left_comm, arith, w64, SFits, to_z}
use native.Mathlib.Decide.{dec_lt}
use lib.IntN.{sub_ℕ}
use lib.Signed.{quot_z, mag}
use Rattle.std.specs.Int.{int_wrap}
use Rattle.std.proofs.lemmas.Int.{ints, SFits-int_wrap, int_wrap_fits}
use Rattle.std.proofs.lemmas.Bool.{le-ltb, cond_both, ltb-true, ltb-false}
use Rattle.semantics.specs.Numbers.{nearest, same_sign}
use Rattle.semantics.specs.Rules.{is_zero}
use Rattle.semantics.specs.Readings.{WrappedIsModulo, DivisionIsDivision, smallest, QuotientInRange, SmallestOverMinusOne, NearestIsNearest}

-- modulo

to_z_minus : (n : ℕ) → 2 ^ 63 ≤ n → to_z w64 n ≡ negsuc (2 ^ 64 - suc n)
to_z_minus n h = rw (le-ltb n (2 ^ 63) h)

turns_of : (z : ℤ) → (k : ℤ) × (z ≡ int_wrap w64 z +ℤ (k *ℤ pos (2 ^ 64)))
unfolding int_wrap
turns_of (pos a) = elim (dec_lt (a % 2 ^ 64) (2 ^ 63)) [
  | yes l ↦ (pos (a / 2 ^ 64), omega (arith, ints))
  | no g ↦ (pos (a / 2 ^ 64 + 1), rw (to_z_minus (a % 2 ^ 64) (omega arith)) (omega (arith, ints)))
]
turns_of (negsuc a) = elim (dec_lt (2 ^ 64 - 1 - a % 2 ^ 64) (2 ^ 63)) [
  | yes l ↦ (negsuc (a / 2 ^ 64), omega (arith, ints))
  | no g ↦ (neg_ℤ (pos (a / 2 ^ 64)), rw (to_z_minus (2 ^ 64 - 1 - a % 2 ^ 64) (omega arith)) (omega (arith, ints)))
]

pub wrapped_is_modulo : WrappedIsModulo
wrapped_is_modulo z = let t = turns_of z in record { ranged = SFits-int_wrap w64 z; turns = t.0; differs = t.1 }

-- signs

abs_neg : (z : ℤ) → nat_abs (neg_ℤ z) ≡ nat_abs z
abs_neg (pos zero) = refl
abs_neg (pos (suc n)) = refl
abs_neg (negsuc n) = refl

abs_sub : (x y : ℕ) → nat_abs (sub_ℕ x y) ≡ (x - y) + (y - x)
abs_sub x y = cond_both (ltb x y) (negsuc (y - suc x)) (pos (x - y)) (λ z. nat_abs z ≡ (x - y) + (y - x)) (λ e. omega (arith, ltb-true x y e)) (λ e. omega (arith, ltb-false x y e))

abs_twice : (z : ℤ) → nat_abs (pos 2 *ℤ z) ≡ 2 * nat_abs z
abs_twice (pos n) = refl
abs_twice (negsuc n) = abs_neg (pos (2 * suc n))

abs_pos : (x y : ℕ) → nat_abs (pos x -ℤ pos y) ≡ (x - y) + (y - x)
abs_pos x zero = omega arith
abs_pos x (suc y) = abs_sub x (suc y)

abs_minus : (x y : ℕ) → nat_abs (negsuc x -ℤ neg_ℤ (pos y)) ≡ (suc x - y) + (y - suc x)
abs_minus x zero = abs_sub 0 (suc x) ∙ omega arith
abs_minus x (suc y) = abs_sub (suc y) (suc x) ∙ omega arith

neg_times_neg : (q b : ℕ) → neg_ℤ (pos q) *ℤ negsuc b ≡ pos (q * suc b)
neg_times_neg zero b = rw (zero-mul (suc b))
neg_times_neg (suc q) b = refl

neg_times-pos : (q b : ℕ) → neg_ℤ (pos q) *ℤ pos b ≡ neg_ℤ (pos (q * b))
neg_times-pos zero b = rw (zero-mul b)
neg_times-pos (suc q) b = refl

neg_plus_neg : (x y : ℕ) → neg_ℤ (pos x) +ℤ neg_ℤ (pos y) ≡ neg_ℤ (pos (x + y))
neg_plus_neg x y = omega (arith, ints)

positive : (n : ℕ) → eqb n 0 ≡ false → 0 < n
positive zero e = absurd (true≢false e)
positive (suc n) e = omega arith

-- division

pub division_is_division : DivisionIsDivision
division_is_division (pos a) (pos b) e =
    record { whole = ap pos (div-add-mod' a b); small = mod-lt a (positive b e); sign = (a % b, refl) }
division_is_division (pos a) (negsuc b) e =
    record { whole = ap (λ (z : ℤ). z +ℤ pos (a % suc b)) (neg_times_neg (a / suc b) b) ∙ ap pos (div-add-mod' a (suc b)); small = mod-lt a (omega arith); sign = (a % suc b, refl) }
division_is_division (negsuc a) (pos b) e =
    record {
      whole = ap (λ (z : ℤ). z +ℤ neg_ℤ (pos (suc a % b))) (neg_times-pos (suc a / b) b) ∙ neg_plus_neg (suc a / b * b) (suc a % b) ∙ ap (λ (n : ℕ). neg_ℤ (pos n)) (div-add-mod' (suc a) b);
      small = rw (abs_neg (pos (suc a % b))) (mod-lt (suc a) (positive b e));
      sign = (suc a % b, refl);
    }
division_is_division (negsuc a) (negsuc b) e =
    record {
      whole = neg_plus_neg (suc a / suc b * suc b) (suc a % suc b) ∙ ap (λ (n : ℕ). neg_ℤ (pos n)) (div-add-mod' (suc a) (suc b));
      small = rw (abs_neg (pos (suc a % suc b))) (mod-lt (suc a) (omega arith));
      sign = (suc a % suc b, refl);
    }

minus_mag : (n a : ℕ) → n ≤ suc a → mag (neg_ℤ (pos n)) ≤ a
minus_mag zero a h = omega arith
minus_mag (suc n) a h = omega arith

quotient_fits : (a b : ℤ) → SFits w64 a → ((a ≡ smallest) × (b ≡ negsuc 0) → ⊥) → SFits w64 (quot_z a b)
quotient_fits (pos a) (pos b) f h = record { sfits = omega (arith, f.sfits, div-le_self a b) }
quotient_fits (pos a) (negsuc b) f h = record { sfits = omega (arith, f.sfits, minus_mag (a / suc b) a (omega (arith, div-le_self a (suc b)))) }
quotient_fits (negsuc a) (pos b) f h = record { sfits = omega (arith, f.sfits, minus_mag (suc a / b) a (div-le_self (suc a) b)) }
quotient_fits (negsuc a) (negsuc zero) f h = record { sfits = by (dec_lt (suc a) (2 ^ 63)) }
  where
    by : Dec (suc a < 2 ^ 63) → suc a / 1 < 2 ^ 63
    by (yes l) = omega arith
    by (no g) = absurd (h (ap negsuc (omega (arith, f.sfits)), refl))
quotient_fits (negsuc a) (negsuc (suc b)) f h = record { sfits = (div-lt_iff_lt-mul {k = suc (suc b)} (omega arith)).1 (omega (arith, f.sfits)) }

pub quotient_in_range : QuotientInRange
quotient_in_range a b f h = int_wrap_fits w64 (quot_z a b) (quotient_fits a b f h)

pub smallest-over_minus_one : SmallestOverMinusOne
unfolding int_wrap
smallest-over_minus_one = (refl, refl)

-- the nearest whole number

-- with the signs put aside
gap : (A B M : ℕ) (q : ℕ) → 0 < B → q ≡ (2 * A + B) / (2 * B) → M ≡ q * B → (2 * ((A - M) + (M - A)) ≤ B) × (2 * ((A - M) + (M - A)) ≡ B → A ≤ M)
gap A B M q p e m =
    let d : q * (2 * B) + (2 * A + B) % (2 * B) ≡ 2 * A + B = ap (λ (x : ℕ). x * (2 * B) + (2 * A + B) % (2 * B)) e ∙ div-add-mod' (2 * A + B) (2 * B) in
    let l : (2 * A + B) % (2 * B) < 2 * B = mod-lt (2 * A + B) (omega arith) in
    let c : q * (2 * B) ≡ 2 * M = mul_left_comm q 2 B ∙ ap (λ (x : ℕ). 2 * x) (sym m) in
    (omega arith, omega arith)

-- a has the sign of r b
record Signed (a r b : ℤ) (A M : ℕ) : Type 0 where
  far : nat_abs (a -ℤ (r *ℤ b)) ≡ (A - M) + (M - A)
  size : nat_abs (r *ℤ b) ≡ M

signs : (a b : ℤ) (q : ℕ) → Signed a (cond (same_sign a b) (pos q) (neg_ℤ (pos q))) b (nat_abs a) (q * nat_abs b)
signs (pos a) (pos b) q = record { far = abs_pos a (q * b); size = refl }
signs (pos a) (negsuc b) q = record { far = rw (neg_times_neg q b) (abs_pos a (q * suc b)); size = rw (neg_times_neg q b) refl }
signs (negsuc a) (pos b) q = record { far = rw (neg_times-pos q b) (abs_minus a (q * b)); size = rw (neg_times-pos q b) (abs_neg (pos (q * b))) }
signs (negsuc a) (negsuc b) q = record { far = abs_minus a (q * suc b); size = abs_neg (pos (q * suc b)) }

abs_positive : (b : ℤ) → is_zero b ≡ false → 0 < nat_abs b
abs_positive (pos n) e = positive n e
abs_positive (negsuc n) e = omega arith

pub nearest_is_nearest : NearestIsNearest
nearest_is_nearest a b e =
    let q : ℕ = (2 * nat_abs a + nat_abs b) / (2 * nat_abs b) in
    let s = signs a b q in
    let g = gap (nat_abs a) (nat_abs b) (q * nat_abs b) q (abs_positive b e) refl refl in
    let w = abs_twice (a -ℤ (nearest a b *ℤ b)) ∙ ap (λ (x : ℕ). 2 * x) s.far in
    record { close = rw w g.0; away = λ h. rw s.size (g.1 (sym w ∙ h)) }
