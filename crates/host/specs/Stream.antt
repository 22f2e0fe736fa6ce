-- The text of a tile as it is read, one height after another: w is the tile's width, k the index of a height.
use Rattle.std.specs.Prelude.{ℕ, ◌+◌, ◌%◌, Bool, false, cond, List, [], ◌∷◌, ◌++◌, drop, ℤ, ◌==◌, Option, Some, None}
use Rattle.host.specs.Decimal.{decimal}

-- whether a row ends with height k
unfoldable pub ends_row : ℕ → ℕ → Bool
ends_row w k = cond (w == 0) false ((k + 1) % w == 0)

-- what stands between height k and those that follow
unfoldable pub separator_behind : ℕ → ℕ → List ℤ → List ℕ
separator_behind w k [] = []
separator_behind w k (h ∷ hs) = cond (ends_row w k) 10 44 ∷ []

-- height k with what stands behind it
abbrev pub piece : ℕ → ℕ → ℤ → List ℤ → List ℕ
piece w k h hs = decimal h ++ separator_behind w k hs

-- the same, from what stands behind
abbrev pub piece_text : ℤ → Option ℕ → List ℕ
piece_text h None = decimal h
piece_text h (Some c) = decimal h ++ (c ∷ [])

-- what stands behind height k: nothing behind the last
abbrev pub separator_at : ℕ → ℕ → Bool → Option ℕ
separator_at w k last = cond last None (Some (cond (ends_row w k) 10 44))

-- the text from height k on
unfoldable pub text_from : ℕ → ℕ → List ℤ → List ℕ
text_from w k [] = []
text_from w k (h ∷ hs) = piece w k h hs ++ text_from w (k + 1) hs

-- that text without the first n characters of height k's piece
unfoldable pub unread : ℕ → ℕ → ℕ → List ℤ → List ℕ
unread w k n [] = []
unread w k n (h ∷ hs) = drop n (piece w k h hs) ++ text_from w (k + 1) hs

-- what that begins with: the rest of height k's piece
abbrev pub front : ℕ → ℕ → ℕ → List ℤ → List ℕ
front w k n [] = []
front w k n (h ∷ hs) = drop n (piece w k h hs)
