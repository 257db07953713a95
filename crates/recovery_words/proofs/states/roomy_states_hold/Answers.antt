use Rattle.recovery_words.proofs.Rooms.{roomy-holds}
use Rattle.recovery_words.proofs.states.roomy_states_hold.Goals as goal

pub returns : goal.returns
returns c = roomy-holds
