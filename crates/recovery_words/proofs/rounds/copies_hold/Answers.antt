use Rattle.recovery_words.proofs.RowSizes.{copies-hold}
use Rattle.recovery_words.proofs.rounds.copies_hold.Goals as goal

pub returns : goal.returns
returns c = copies-hold
