use Rattle.semantics.proofs.cuts.Goals as goal
use Rattle.semantics.proofs.Fuel.{grants_add, ended-stays}
use Rattle.semantics.proofs.Rest.{comes_to_rest}
use Rattle.semantics.proofs.Spent.{spends_granted}

pub returns : goal.returns
returns c = record { adds = grants_add; stays = ended-stays; rests = comes_to_rest; spent = spends_granted }
