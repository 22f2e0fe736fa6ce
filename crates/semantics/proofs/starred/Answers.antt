use Rattle.semantics.proofs.starred.Goals as goal
use Rattle.semantics.proofs.Examples.{starred_examples, further_examples}
use Rattle.semantics.proofs.Obeyed.{smallest-obeys}

pub returns : goal.returns
returns c = record { runs = starred_examples; further = further_examples; obeys = smallest-obeys }
