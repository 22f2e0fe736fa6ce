use Rattle.std.proofs.Common.{◌≡◌, ◌+◌, ◌≤◌}
use Rattle.host.specs.Pieces.{unread}
use Rattle.host.specs.Text.{row_length}
use Rattle.host.proofs.tiles.TileSourceSource.row_within.Given as goal

abbrev pub invariant-loop-piece : goal.invariant-loop-piece
invariant-loop-piece l =
    (goal.iterator-loop-piece).can_next l.piece-iterator
    × (goal.iterator-loop-piece).is_finite l.piece-iterator
    × (l.length ≤ l.most)
    × (row_length (unread l.self.pieces) ≡ l.length + row_length (unread l.piece-iterator))
