use Rattle.semantics.proofs.stops.Goals as goal
use Rattle.semantics.proofs.Undone.{stop_changes_nothing, stops_at_its_node}

pub returns : goal.returns
returns c = record { nothing = stop_changes_nothing; place = stops_at_its_node }
