use Rattle.recovery_words.proofs.Beginnings.{begins-roomy}
use Rattle.recovery_words.proofs.states.recoveries_begin_roomy.Goals as goal

pub returns : goal.returns
returns c = begins-roomy
