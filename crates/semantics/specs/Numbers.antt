-- What the operations compute: arithmetic modulo 2^64, rounding, numerals, rows, cells of nested arrays.
use Rattle.std.specs.Prelude.{ℕ, zero, suc, ◌+◌, ◌-◌, ◌*◌, ◌/◌, ◌%◌, ◌^◌, Bool, true, false, cond, List, [], ◌∷◌, length, replicate, ℤ, pos, negsuc, neg_ℤ, ◌==◌, nat_le, nat_lt, unsigned_abs}
use Rattle.std.proofs.Math.Option.{Option, none, some}
use Rattle.semantics.specs.State.{Store, array, grown, with_cell}

-- two whole numbers have the same sign
abbrev pub same_sign : ℤ → ℤ → Bool
same_sign (pos a) (pos b) = true
same_sign (pos a) (negsuc b) = false
same_sign (negsuc a) (pos b) = false
same_sign (negsuc a) (negsuc b) = true

-- the nearest whole number to a / b, halves away from zero
abbrev pub nearest : ℤ → ℤ → ℤ
nearest a b = let q : ℕ = (2 * unsigned_abs a + unsigned_abs b) / (2 * unsigned_abs b) in cond (same_sign a b) (pos q) (neg_ℤ (pos q))

abbrev pub equalℤ : ℤ → ℤ → Bool
equalℤ (pos a) (pos b) = a == b
equalℤ (pos a) (negsuc b) = false
equalℤ (negsuc a) (pos b) = false
equalℤ (negsuc a) (negsuc b) = a == b

abbrev pub equal_bool : Bool → Bool → Bool
equal_bool true b = b
equal_bool false true = false
equal_bool false false = true

-- numerals

-- the digit that a code stands for
abbrev pub digit : ℤ → Option ℕ
digit (pos c) = cond (nat_le 48 c) (cond (nat_le c 57) (some (c - 48)) none) none
digit (negsuc c) = none

-- the number that digits say, behind a number read so far
abbrev pub if_some : Option ℕ → (ℕ → Option ℕ) → Option ℕ
if_some none f = none
if_some (some d) f = f d

abbrev pub digits_on : ℕ → List ℤ → Option ℕ
digits_on m [] = some m
digits_on m (z ∷ zs) = if_some (digit z) (λ d. digits_on (10 * m + d) zs)

-- digits from a first 1 to 9
abbrev pub first_digit : Option ℕ → List ℤ → Option ℕ
first_digit none zs = none
first_digit (some zero) zs = none
first_digit (some (suc d)) zs = digits_on (suc d) zs

abbrev pub natural : List ℤ → Option ℕ
natural [] = none
natural (z ∷ zs) = first_digit (digit z) zs

-- in the range of an `int`
abbrev pub ranged : Bool → Option ℕ → Option ℤ
ranged minus none = none
ranged true (some m) = cond (nat_le m (2 ^ 63)) (some (neg_ℤ (pos m))) none
ranged false (some m) = cond (nat_lt m (2 ^ 63)) (some (pos m)) none

-- an optional minus, and digits from a first 1 to 9, in range
abbrev pub literal : List ℤ → Option ℤ
literal [] = none
literal (z ∷ zs) = cond (equalℤ z (pos 45)) (ranged true (natural zs)) (ranged false (natural (z ∷ zs)))

-- the decimal digits of a number, before what is written so far; the first argument bounds how many there are
abbrev pub digits_before : ℕ → ℕ → List ℕ → List ℕ
digits_before zero n t = t
digits_before (suc k) n t = cond (nat_lt n 10) ((48 + n) ∷ t) (digits_before k (n / 10) ((48 + n % 10) ∷ t))

-- the decimal text of an `int`
abbrev pub numeral : ℤ → List ℕ
numeral (pos n) = digits_before 20 n []
numeral (negsuc n) = 45 ∷ digits_before 20 (suc n) []

-- rows

-- the characters before the next newline, or before the end
abbrev pub row : List ℕ → List ℕ
row [] = []
row (c ∷ cs) = cond (c == 10) [] (c ∷ row cs)

-- how many characters a row takes: its own, and the newline behind it
abbrev pub row_takes : List ℕ → ℕ
row_takes [] = 0
row_takes (c ∷ cs) = cond (c == 10) 1 (suc (row_takes cs))

abbrev pub is_character : ℕ → Bool
is_character c = nat_lt c 1114112

-- nested arrays

-- the cells that an array with these lengths takes, with everything in it
abbrev pub cells_for : List ℕ → ℕ
cells_for [] = 0
cells_for (n ∷ ns) = suc n + n * cells_for ns

abbrev pub element_of : ℕ → ℕ
element_of zero = zero
element_of (suc zero) = zero
element_of (suc (suc t)) = t

-- make an array for each of n elements from the cell c on, one after another
abbrev pub filled : ℕ → ℕ → (Store → Store) → Store → Store
filled zero c make s = s
filled (suc n) c make s = filled n (suc c) make (with_cell (make s) c (array (length s.cells)))

-- the outer array first, for elements t, then element 0 with everything in it, then element 1; elements past the given lengths are unset
abbrev pub nested : ℕ → List ℕ → Store → Store
nested t [] s = s
nested t (n ∷ []) s = grown s t (replicate n none)
nested t (n ∷ m ∷ ns) s = filled n (suc (length s.cells)) (nested (element_of t) (m ∷ ns)) (grown s t (replicate n none))
