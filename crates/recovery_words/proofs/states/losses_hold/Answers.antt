use Rattle.run_laws.proofs.Words.{hold-lose}
use Rattle.recovery_words.proofs.states.losses_hold.Goals as goal

pub returns : goal.returns
returns c = hold-lose
