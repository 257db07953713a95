use Rattle.run_laws.proofs.Words.{hold-restore}
use Rattle.recovery_words.proofs.states.restores_hold.Goals as goal

pub returns : goal.returns
returns c = hold-restore
