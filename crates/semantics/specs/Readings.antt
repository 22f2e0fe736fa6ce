-- Second readings: what the computing definitions come to, in the words of the rules.
use Rattle.std.specs.Prelude.{◌≡◌, ℕ, suc, ◌+◌, ◌-◌, ◌*◌, ◌^◌, ◌<◌, ◌≤◌, false, List, [], ◌∷◌, ◌++◌, map, length, ℤ, pos, negsuc, ◌+ℤ◌, ◌-ℤ◌, ◌*ℤ◌, neg_ℤ, FitsSigned, int_div, int_rem, unsigned_abs}
use Rattle.std.proofs.Math.Option.{some}
use Rattle.std.proofs.Math.ListN.{get_elem?}
use Rattle.std.specs.Int.{int_wrap, w64}
use Rattle.std.specs.Fmt.{signed_decimal}
use Rattle.xi.specs.Tree.{Each}
use Rattle.semantics.specs.State.{Store, int, array}
use Rattle.semantics.specs.Numbers.{nearest, literal, numeral, row, row_takes, cells_for, nested}
use Rattle.semantics.specs.Rules.{is_zero}

-- arithmetic modulo 2^64: the answer is in range, and differs by a multiple of 2^64
pub record IsModulo (z r : ℤ) : Type 0 where
  pub ranged : FitsSigned w64 r
  pub turns : ℤ
  pub differs : z ≡ r +ℤ (turns *ℤ pos (2 ^ 64))

abbrev pub WrappedIsModulo : Type 0
WrappedIsModulo = (z : ℤ) → IsModulo z (int_wrap w64 z)

-- division drops the fraction, and the remainder has the dividend's sign
abbrev pub SignOf : ℤ → ℤ → Type 0
SignOf (pos a) r = (n : ℕ) × (r ≡ pos n)
SignOf (negsuc a) r = (n : ℕ) × (r ≡ neg_ℤ (pos n))

pub record IsDivision (a b q r : ℤ) : Type 0 where
  pub whole : (q *ℤ b) +ℤ r ≡ a
  pub small : unsigned_abs r < unsigned_abs b
  pub sign : SignOf a r

abbrev pub DivisionIsDivision : Type 0
DivisionIsDivision = (a b : ℤ) → is_zero b ≡ false → IsDivision a b (int_div a b) (int_rem a b)

-- the smallest over -1 is the one quotient out of range: it is the smallest again, with remainder 0
abbrev pub smallest : ℤ
smallest = negsuc (2 ^ 63 - 1)

abbrev pub QuotientInRange : Type 0
QuotientInRange = (a b : ℤ) → FitsSigned w64 a → ((a ≡ smallest) × (b ≡ negsuc 0) → ⊥) → int_wrap w64 (int_div a b) ≡ int_div a b

abbrev pub SmallestOverMinusOne : Type 0
SmallestOverMinusOne = (int_wrap w64 (int_div smallest (negsuc 0)) ≡ smallest) × (int_rem smallest (negsuc 0) ≡ pos 0)

-- `ratio`: r is nearest to a / b, which is |2 (a - r b)| ≤ |b|, and of two halves the one away from zero
pub record IsNearest (a b r : ℤ) : Type 0 where
  pub close : unsigned_abs (pos 2 *ℤ (a -ℤ (r *ℤ b))) ≤ unsigned_abs b
  pub away : unsigned_abs (pos 2 *ℤ (a -ℤ (r *ℤ b))) ≡ unsigned_abs b → unsigned_abs a ≤ unsigned_abs (r *ℤ b)

abbrev pub NearestIsNearest : Type 0
NearestIsNearest = (a b : ℤ) → is_zero b ≡ false → IsNearest a b (nearest a b)

-- a row has no newline, and ends at one, which is taken with it, or at the end
abbrev pub RowEnds : List ℕ → ℕ → ℕ → Type 0
RowEnds [] size taken = taken ≡ size
RowEnds (c ∷ cs) size taken = (c ≡ 10) × (taken ≡ size + 1)

pub record IsRow (left r : List ℕ) (taken : ℕ) : Type 0 where
  pub rest : List ℕ
  pub front : left ≡ r ++ rest
  pub unbroken : Each (λ (c : ℕ). (c ≡ 10) → ⊥) r
  pub ends : RowEnds rest (length r) taken

abbrev pub RowIsRow : Type 0
RowIsRow = (left : List ℕ) → IsRow left (row left) (row_takes left)

-- and there is no other
abbrev pub OneRow : Type 0
OneRow = (left r : List ℕ) (taken : ℕ) → IsRow left r taken → (r ≡ row left) × (taken ≡ row_takes left)

-- digits, and the number that they say, behind a number read so far
abbrev pub code : ℕ → ℤ
code d = pos (48 + d)

abbrev pub value_on : ℕ → List ℕ → ℕ
value_on m [] = m
value_on m (d ∷ ds) = value_on (10 * m + d) ds

-- digits from a first 1 to 9
pub data IsNatural : List ℤ → ℕ → Type 0 where
  is_natural : (d : ℕ) (ds : List ℕ) → 1 ≤ d → d ≤ 9 → Each (λ (e : ℕ). e ≤ 9) ds → IsNatural (map code (d ∷ ds)) (value_on d ds)

-- what `parseInt` takes: an optional minus, and digits from a first 1 to 9, in range
pub data IsLiteral : List ℤ → ℤ → Type 0 where
  plain : {zs : List ℤ} {m : ℕ} → IsNatural zs m → m < 2 ^ 63 → IsLiteral zs (pos m)
  minus : {zs : List ℤ} {m : ℕ} → IsNatural zs m → m ≤ 2 ^ 63 → IsLiteral (pos 45 ∷ zs) (neg_ℤ (pos m))

abbrev pub LiteralIsLiteral : Type 0
LiteralIsLiteral = (zs : List ℤ) (z : ℤ) → literal zs ≡ some z → IsLiteral zs z

abbrev pub LiteralsAreTaken : Type 0
LiteralsAreTaken = (zs : List ℤ) (z : ℤ) → IsLiteral zs z → literal zs ≡ some z

-- what `unparseInt` writes: the text that Rust writes of the number
abbrev pub NumeralIsWritten : Type 0
NumeralIsWritten = (z : ℤ) → FitsSigned w64 z → numeral z ≡ signed_decimal z

-- and `parseInt` takes it back, but for 0, which is no literal
abbrev pub NumeralIsTaken : Type 0
NumeralIsTaken = (z : ℤ) → FitsSigned w64 z → is_zero z ≡ false → literal (map pos (numeral z)) ≡ some z

-- nested arrays take as many cells as said, and leave the cells of before
abbrev pub NestedTakes : Type 0
NestedTakes = (t n : ℕ) (ns : List ℕ) (s : Store) → length (nested t (n ∷ ns) s).cells ≡ length s.cells + cells_for (n ∷ ns)

-- the outer array comes first; its element i follows after everything in the elements before it
pub record NestedLie (t n m : ℕ) (ns : List ℕ) (s : Store) : Type 0 where
  pub outer : get_elem? (nested t (n ∷ m ∷ ns) s).cells (length s.cells) ≡ some (some (int (pos n)))
  pub inner : (i : ℕ) → i < n → get_elem? (nested t (n ∷ m ∷ ns) s).cells (length s.cells + suc i) ≡ some (some (array (length s.cells + suc n + i * cells_for (m ∷ ns))))

abbrev pub NestedInOrder : Type 0
NestedInOrder = (t n m : ℕ) (ns : List ℕ) (s : Store) → NestedLie t n m ns s
