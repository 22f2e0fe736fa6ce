use Rattle.std.proofs.Common.{arith}
use Rattle.std.proofs.lemmas.Bool.Decides.{nat_tests}
use Rattle.numeral.proofs.Lengths.{few}
use Rattle.numeral.proofs.few_digits.Goals as goal

pub returns-clause-value : goal.returns-clause-value
returns-clause-value c =
    let counted = few c.args.n c.requires in
    grind (arith, nat_tests)
