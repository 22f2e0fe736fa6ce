use Rattle.std.proofs.Common.{arith, length-take}
use Rattle.std.proofs.lemmas.Bool.Decides.{nat_tests}
use Rattle.host.proofs.Rows.{row-take, row_length-le}
use Rattle.host.proofs.bytes.ByteSourceSource.row_within.Goals as goal

pub returns : goal.returns
returns c =
    let near = row-take c.min-near.result c.args.self.now.unread.now in
    let all = row_length-le c.args.self.now.unread.now in
    grind (arith, nat_tests, length-take)
