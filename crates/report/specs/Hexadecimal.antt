-- Bytes written as hexadecimal digits.
use Rattle.std.specs.Prelude.{ℕ, ◌+◌, ◌-◌, ◌*◌, cond, ◌&&◌, List, [], ◌∷◌, ◌++◌, Some, None, Option, codes, nat_le}
use Rattle.std.specs.Str.{bytes_eq}

abbrev pub digit_of : ℕ → Option ℕ
digit_of c =
    cond (nat_le 48 c && nat_le c 57) (Some (c - 48))
    (cond (nat_le 97 c && nat_le c 102) (Some (c - 97 + 10))
    (cond (nat_le 65 c && nat_le c 70) (Some (c - 65 + 10)) None))

abbrev pub joined : Option ℕ → Option ℕ → Option ℕ
joined None l = None
joined (Some h) None = None
joined (Some h) (Some l) = Some (h * 16 + l)

abbrev pub with : Option ℕ → (ℕ → Option (List ℕ)) → Option (List ℕ)
with None f = None
with (Some b) f = f b

-- the bytes that pairs of digits say, after those of bs; one digit alone says none
abbrev pub pairs_after : List ℕ → List ℕ → Option (List ℕ)
pairs_after bs [] = Some bs
pairs_after bs (h ∷ []) = None
pairs_after bs (h ∷ l ∷ t) = with (joined (digit_of h) (digit_of l)) (λ b. pairs_after (bs ++ b ∷ []) t)

-- the bytes that pairs of digits say; `-` says no bytes
abbrev pub bytes_of : List ℕ → Option (List ℕ)
bytes_of t = cond (bytes_eq t (codes "-")) (Some []) (pairs_after [] t)
