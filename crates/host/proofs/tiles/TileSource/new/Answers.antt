use Rattle.std.proofs.Common.{◌^◌, arith}
use Rattle.host.proofs.Pieces.{front-some, start_whole, start_none}
use Rattle.host.proofs.tiles.TileSource.new.Goals as goal
use Rattle.host.proofs.tiles.TileSource.new.Goals.{then-heights-le-MOST_HEIGHTS, else-heights-le-MOST_HEIGHTS}

pub invariant_of-result-clause-unread : goal.invariant_of-result-clause-unread
invariant_of-result-clause-unread c = front-some c.args.width 0 c.if-heights-le-MOST_HEIGHTS.heights.now

pub returns : goal.returns
returns c =
    elim c.if-heights-le-MOST_HEIGHTS.branch [
      | then-heights-le-MOST_HEIGHTS w ↦ rw w.heights-is (start_whole c.args.width (2 ^ 32) c.args.heights.now (omega arith))
      | else-heights-le-MOST_HEIGHTS w ↦ rw w.heights-is (start_none c.args.width (2 ^ 32) c.args.heights.now (omega arith))
    ]
