-- The fields of a sheet, by their place in its bytes.
use Rattle.std.specs.Prelude.{ℕ, zero, suc, ◌+◌, ◌*◌, cond, List, [], ◌∷◌, ◌++◌, length, take, drop, ℤ, nat_le, nat_lt, slice_index}
use Rattle.std.specs.Int.{w64}
use Rattle.std.proofs.Common.{to_z}
use Rattle.xi.specs.declared.node.Ty.{Ty}
use Rattle.xi.specs.declared.rule.Rule.TheVariants.{Bytes, Range}
use Rattle.sheet.specs.Outcome.{Outcome, good, bad, then, held, runs}

-- the two bytes, and the four, from i on, as a number
abbrev pub pair : List ℕ → ℕ → ℕ
pair w i = slice_index w i * 256 + slice_index w (i + 1)

abbrev pub quad : List ℕ → ℕ → ℕ
quad w i = pair w i * 65536 + pair w (i + 2)

-- the eight bytes from i on, as a number, and as a signed one
abbrev pub eight : List ℕ → ℕ → ℕ
eight w i = quad w i * 4294967296 + quad w (i + 4)

abbrev pub signed_at : List ℕ → ℕ → ℤ
signed_at w i = to_z w64 (eight w i)

-- the name in the two bytes from i on of an item at p, where there are n names
abbrev pub name_in : ℕ → ℕ → List ℕ → ℕ → Outcome ℕ
name_in n p w i = then (held (nat_lt (pair w i) n) Range p) (λ _. good (pair w i))

-- the type in the byte i of an item at p
abbrev pub type_in : ℕ → List ℕ → ℕ → Outcome Ty
type_in p w i = then (held (nat_le (slice_index w i) 9) Range p) (λ _. good (record { number = slice_index w i }))

-- the n bytes from p on
abbrev pub span_at : List ℕ → ℕ → ℕ → Outcome (List ℕ)
span_at bs p n = cond (nat_le (p + n) (length bs)) (good (take n (drop p bs))) (bad Bytes p)

-- the byte k places behind p, of an item that begins at p
abbrev pub byte_at : List ℕ → ℕ → ℕ → Outcome ℕ
byte_at bs p k = cond (nat_lt (p + k) (length bs)) (good (slice_index bs (p + k))) (bad Bytes p)

-- the n bytes behind p, where n is the byte at p
abbrev pub text_at : List ℕ → ℕ → Outcome (List ℕ)
text_at bs p = then (byte_at bs p 0) (λ n. cond (nat_le (p + (1 + n)) (length bs)) (good (take n (drop (p + 1) bs))) (bad Bytes p))

-- a count of at most m items
abbrev pub count_at : List ℕ → ℕ → ℕ → Outcome ℕ
count_at bs p m = then (span_at bs p 2) (λ w. then (held (nat_le (pair w 0) m) Range p) (λ _. good (pair w 0)))

-- a part of a sheet: its count, of at most m, and then so many items, each read from where the one before it ended
abbrev pub part_at : {S : Type 0} → (List ℕ → S → Outcome S) → (ℕ → S) → ℕ → List ℕ → ℕ → Outcome S
part_at item start m bs p = then (count_at bs p m) (λ n. runs (λ _ s. item bs s) n 0 (start (p + 2)))

-- reads an item of n bytes, which `reads` takes for a value or refuses, and adds it to those before it: s has these and where they end
abbrev pub item_of : {A : Type 0} → ℕ → (ℕ → List ℕ → Outcome A) → List ℕ → List A × ℕ → Outcome (List A × ℕ)
item_of n reads bs s = then (span_at bs s.1 n) (λ w. then (reads s.1 w) (λ x. good (s.0 ++ x ∷ [], s.1 + n)))

-- a part whose items all have n bytes
abbrev pub items_at : {A : Type 0} → ℕ → (ℕ → List ℕ → Outcome A) → ℕ → List ℕ → ℕ → Outcome (List A × ℕ)
items_at n reads m bs p = part_at (item_of n reads) (λ q. ([], q)) m bs p

-- m items of n bytes each, one after another at the front of the bytes w, behind those of xs; what `reads` refuses, it refuses at p
abbrev pub items_in : {A : Type 0} → ℕ → (ℕ → List ℕ → Outcome A) → ℕ → ℕ → List ℕ → List A → Outcome (List A)
items_in n reads p zero w xs = good xs
items_in n reads p (suc m) w xs = then (reads p (take n w)) (λ x. items_in n reads p m (drop n w) (xs ++ x ∷ []))
