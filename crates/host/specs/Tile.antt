-- The text of a tile: its heights in rows, as decimals, a comma between two heights of a row, and a newline between two rows.
use Rattle.std.specs.Prelude.{ℕ, zero, suc, cond, List, [], ◌∷◌, ◌++◌, map, length, take, drop, ℤ, ◌==◌}
use Rattle.host.specs.Decimal.{decimal}

-- the first n rows of a list, w items to a row; the last row may be short
unfoldable pub chunks : ℕ → ℕ → List ℤ → List (List ℤ)
chunks zero w hs = []
chunks (suc n) w [] = []
chunks (suc n) w (h ∷ hs) = take w (h ∷ hs) ∷ chunks n w (drop w (h ∷ hs))

-- the rows of a tile; width 0 makes one row
unfoldable pub rows : ℕ → List ℤ → List (List ℤ)
rows w hs = chunks (length hs) (cond (w == 0) (length hs) w) hs

-- texts one after another, with the character c between each two
unfoldable pub separated : ℕ → List (List ℕ) → List ℕ
separated c [] = []
separated c (t ∷ []) = t
separated c (t ∷ (u ∷ us)) = t ++ (c ∷ separated c (u ∷ us))

unfoldable pub row_text : List ℤ → List ℕ
row_text hs = separated 44 (map decimal hs)

unfoldable pub tile_text : ℕ → List ℤ → List ℕ
tile_text w hs = separated 10 (map row_text (rows w hs))
