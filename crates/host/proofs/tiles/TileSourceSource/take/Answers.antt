use Rattle.std.proofs.Common.{arith, w16, SFits, rules}
use Rattle.host.specs.Pieces.{separator_of}
use Rattle.host.proofs.Pieces.{piece_short, rest-front}
use Rattle.host.proofs.tiles.TileSourceSource.take.Goals as goal

pub overflow_add-self : goal.overflow_add-self
overflow_add-self c =
    let fits : SFits w16 c.in_ok-piece.piece.height = search rules in
    let short = piece_short c.in_ok-piece.piece.height (separator_of c.in_ok-piece.piece) fits in
    omega (arith, c.in_ok-piece.ensures.steps, c.in_ok-piece.piece.unread)

pub returns-then-length-gt1-clause-unread : goal.returns-then-length-gt1-clause-unread
returns-then-length-gt1-clause-unread c = grind (arith, rest-front)
