-- Words on a text, a list of characters: what a host shows, reads and accepts, and the length of a row.
use Rattle.std.specs.Prelude.{ℕ, Bool, false, cond, List, [], ◌∷◌, length, Some, None, Option, ◌==◌, nat_le, nat_lt, slice_index}
use Rattle.std.specs.List.{position_or_len}

-- item i of a list, where there is one
abbrev pub item : List ℕ → ℕ → Option ℕ
item xs i = cond (nat_lt i (length xs)) (Some (slice_index xs i)) None

abbrev pub first : List ℕ → Option ℕ
first [] = None
first (x ∷ xs) = Some x

abbrev pub rest : List ℕ → List ℕ
rest [] = []
rest (x ∷ xs) = xs

-- whether a host with this much room takes c
abbrev pub takes : ℕ → ℕ → Bool
takes room c = cond (nat_lt 0 room) (nat_le c 1114111) false

-- how many characters come before the next newline, or the end
abbrev pub row_length : List ℕ → ℕ
row_length cs = position_or_len (λ c. c == 10) cs

-- that length, where it is at most `most`
abbrev pub row_within : List ℕ → ℕ → Option ℕ
row_within cs most = cond (nat_le (row_length cs) most) (Some (row_length cs)) None
