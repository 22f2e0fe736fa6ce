use Rattle.std.proofs.Common.{◌≡◌, Some, arith, rules}
use Rattle.std.proofs.lemmas.Bool.Decides.{nat_tests}
use Rattle.host.specs.Pieces.{separator_of}
use Rattle.host.proofs.Pieces.{row-ends, row-past}
use Rattle.host.proofs.tiles.TileSourceSource.row_within.Goals as goal

pub returns-then-ends_row : goal.returns-then-ends_row
returns-then-ends_row c = grind (arith, nat_tests, row-ends)

pub returns-in_err-length : goal.returns-in_err-length
returns-in_err-length c =
    let other : (separator_of c.in-Some.piece) ≡ Some 10 → ⊥ = search rules in
    let row = row-past c.in-Some.piece.height (separator_of c.in-Some.piece) c.in-Some.piece.taken _ _ other c.in-Some.ensures.steps.0 in
    grind (arith, nat_tests)

pub loop-piece-preserved : goal.loop-piece-preserved
loop-piece-preserved c = grind (arith, nat_tests, row-past)
