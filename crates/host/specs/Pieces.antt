-- What is unread of a piece and of the pieces of a tile, and what is given when one is taken from them.
use Rattle.std.specs.Prelude.{◌≡◌, ℕ, List, [], ◌++◌, drop, Option, Some, None}
use Rattle.host.specs.Stream.{front, piece_text, separator_at}
use Rattle.host.specs.Stream as stream
use Rattle.host.specs.declared.tiles.Piece.{Piece}
use Rattle.host.specs.declared.tiles.Pieces.{Pieces}

abbrev pub separator_of : Piece → Option ℕ
separator_of p = separator_at p.width p.index p.last

abbrev pub unread_of : Piece → List ℕ
unread_of p = drop p.taken (piece_text p.height (separator_of p))

abbrev pub unread : Pieces → List ℕ
unread s = stream.unread s.width s.index s.taken s.heights.now

-- the first piece, before those that are left
abbrev pub gives : Pieces → Option Piece → Pieces → Type 0
gives s None t = unread s ≡ []
gives s (Some p) t = (unread s ≡ unread_of p ++ unread t) × (unread_of p ≡ front s.width s.index s.taken s.heights.now) × (p.taken ≡ s.taken)
