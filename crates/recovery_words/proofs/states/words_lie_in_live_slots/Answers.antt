use Rattle.recovery_words.proofs.Beginnings.{no_words-elsewhere}
use Rattle.recovery_words.proofs.states.words_lie_in_live_slots.Goals as goal

pub returns : goal.returns
returns c = no_words-elsewhere
