use Rattle.recovery_words.proofs.Beginnings.{loss-roomy}
use Rattle.recovery_words.proofs.states.losses_stay_roomy.Goals as goal

pub returns : goal.returns
returns c = loss-roomy
