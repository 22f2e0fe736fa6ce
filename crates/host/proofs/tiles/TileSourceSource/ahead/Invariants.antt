use Rattle.std.proofs.Common.{◌≡◌}
use Rattle.host.specs.Pieces.{unread}
use Rattle.host.specs.Text.{item}
use Rattle.host.proofs.tiles.TileSourceSource.ahead.Given as goal

abbrev pub invariant-loop-piece : goal.invariant-loop-piece
invariant-loop-piece l =
    (goal.iterator-loop-piece).can_next l.piece-iterator
    × (goal.iterator-loop-piece).is_finite l.piece-iterator
    × (item (unread l.piece-iterator) l.rest ≡ item (unread l.self.pieces) l.i)
