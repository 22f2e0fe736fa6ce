-- How many digits a number between two powers of ten has.
use Rattle.std.proofs.Common.{◌≡◌, ℕ, zero, suc, ◌+◌, ◌*◌, ◌/◌, ◌%◌, ◌^◌, ◌<◌, ◌≤◌, List, [], ◌∷◌, ◌++◌, length, decimal, cond, leb, ap, arith}
use native.Mathlib.Nat.{pow-succ', pow-le-pow_right}
use Rattle.std.proofs.lemmas.Fmt.{decimal_digit, decimal_by_steps, length-decimal-le}
use Rattle.std.proofs.lemmas.List.{length_push}
use Rattle.std.proofs.lemmas.Bool.Decides.{nat_tests}

power_positive : (k : ℕ) → 0 < 10 ^ k
power_positive k = omega (arith, pow-le-pow_right {n = 10} (omega arith) {i = 0} {j = k} (omega arith))

-- no fewer than one more than the power that it reaches
Reaches : ℕ → List ℕ → Type 0
Reaches n digits = (k : ℕ) → 10 ^ k ≤ n → k + 1 ≤ length digits

reaches-one : (n : ℕ) → n < 10 → Reaches n ((48 + n) ∷ [])
unfolding Reaches
reaches-one n h zero l = omega arith
reaches-one n h (suc k) l = absurd (omega (arith, power_positive k))

reaches-more : (n : ℕ) (digits : List ℕ) → 10 ≤ n → Reaches (n / 10) digits → Reaches n (digits ++ ((48 + n % 10) ∷ []))
unfolding Reaches
reaches-more n digits h before zero l = omega (arith, length_push digits (48 + n % 10))
reaches-more n digits h before (suc k) l = omega (arith, length_push digits (48 + n % 10), before k (omega arith))

pub count_between : (n k : ℕ) → n < 2 ^ 64 → 10 ^ k ≤ n → n < 10 * 10 ^ k → length (decimal n) ≡ k + 1
unfolding Reaches
count_between n k small l h =
    let below : n < 10 ^ suc k = omega (arith, pow-succ' 10 k) in
    omega (arith, decimal_by_steps Reaches reaches-one reaches-more n small k l, length-decimal-le (suc k) n (omega arith) below small)

pub count_one : (n : ℕ) → n < 10 → length (decimal n) ≡ 1
count_one n h = ap length (decimal_digit n h)

-- the size of an `i64` has at most 19 digits
pub count_of_int : (n : ℕ) → n ≤ 2 ^ 63 → length (decimal n) ≤ 19
count_of_int n h = length-decimal-le 19 n (omega arith) (omega arith) (omega arith)

-- the length of at most five digits, by the powers of ten that a number reaches
pub few : (n : ℕ) → n < 100000 → 1 + cond (leb 10 n) 1 0 + cond (leb 100 n) 1 0 + cond (leb 1000 n) 1 0 + cond (leb 10000 n) 1 0 ≡ length (decimal n)
few n h = grind (arith, nat_tests, count_one n, count_between n 1, count_between n 2, count_between n 3, count_between n 4)
