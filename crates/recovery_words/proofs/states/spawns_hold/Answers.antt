use Rattle.run_laws.proofs.Words.{hold-spawn}
use Rattle.recovery_words.proofs.states.spawns_hold.Goals as goal

pub returns : goal.returns
returns c = hold-spawn
