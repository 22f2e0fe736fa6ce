use Rattle.semantics.proofs.host.Goals as goal
use Rattle.semantics.proofs.Fuel.{writes-on, hands_on, characters-kept}
use Rattle.semantics.proofs.Room.{room-counted}

pub returns : goal.returns
returns c = record { writes = writes-on; hands = hands_on; kept = characters-kept; room = room-counted }
