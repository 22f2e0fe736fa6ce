use Rattle.semantics.proofs.grants.Goals as goal
use Rattle.semantics.proofs.Granted.{after_is_granted, further_is_granted, grant_leads_to_one}

pub returns : goal.returns
returns c = record { granted = after_is_granted; further = further_is_granted; one = grant_leads_to_one }
