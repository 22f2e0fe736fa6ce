-- Names: identifiers, none a reserved word, none twice.
use Rattle.std.specs.Prelude.{ℕ, ◌+◌, Bool, true, false, cond, not, ◌&&◌, ◌||◌, List, [], ◌∷◌, ◌++◌, length, codes, ◌==◌, nat_le, nat_lt}
use Rattle.std.specs.Char.{is_ascii_digit, is_ascii_alphabetic}
use Rattle.std.specs.Str.{bytes_eq}
use Rattle.xi.specs.declared.rule.Rule.TheVariants.{Name, Range}
use Rattle.sheet.specs.Outcome.{Outcome, good, then, held}
use Rattle.sheet.specs.Fields.{text_at, part_at}

-- the byte b may stand at place i of an identifier: a letter first, then letters, digits, `_` and `'`
abbrev pub stands : ℕ → ℕ → Bool
stands i b = cond (i == 0) (is_ascii_alphabetic b) (is_ascii_alphabetic b || (is_ascii_digit b || (b == 95 || b == 39)))

-- the bytes may stand in an identifier from place i on
abbrev pub identifier_from : ℕ → List ℕ → Bool
identifier_from i [] = true
identifier_from i (b ∷ bs) = stands i b && identifier_from (i + 1) bs

abbrev pub among : List ℕ → List (List ℕ) → Bool
among w [] = false
among w (v ∷ vs) = bytes_eq v w || among w vs

abbrev pub reserved : List (List ℕ)
reserved = codes "use" ∷ codes "if" ∷ codes "while" ∷ codes "else" ∷ codes "return" ∷ codes "length" ∷ codes "int" ∷ codes "bool" ∷ codes "true" ∷ codes "false" ∷ []

-- w may be a name after those of ws
abbrev pub nameable : List ℕ → List (List ℕ) → Bool
nameable w ws = identifier_from 0 w && (not (among w reserved) && not (among w ws))

-- reads a name at the second of s, and adds it to those before it, the first of s
abbrev pub name_item : List ℕ → List (List ℕ) × ℕ → Outcome (List (List ℕ) × ℕ)
name_item bs s =
    then (text_at bs s.1) (λ w.
    then (held (nat_lt 0 (length w) && nat_le (length w) 32) Range s.1) (λ _.
    then (held (nameable w s.0) Name s.1) (λ _.
    good (s.0 ++ w ∷ [], s.1 + (1 + length w)))))

abbrev pub names_at : List ℕ → ℕ → Outcome (List (List ℕ) × ℕ)
names_at bs p = part_at name_item (λ q. ([], q)) 256 bs p
