use Rattle.recovery_laws.proofs.Inside.{no_others-live}
use Rattle.recovery_laws.proofs.states.no_other_ranks_are_live.Goals as goal

pub returns : goal.returns
returns c = no_others-live
