use Rattle.semantics.proofs.soundness.Goals as goal
use Rattle.semantics.proofs.Kept.{step_keeps_sound}
use Rattle.semantics.proofs.Never.{never_stuck, after_sound, given_firsts_fit}
use Rattle.semantics.proofs.Small.{sound_is_small}

pub returns : goal.returns
returns c = record { never = never_stuck; keeps = step_keeps_sound; sound = after_sound; small = sound_is_small; firsts = given_firsts_fit }
