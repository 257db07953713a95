use Rattle.recovery_words.proofs.RowSizes.{copies-end_roomy}
use Rattle.recovery_words.proofs.rounds.copies_end_roomy.Goals as goal

pub returns : goal.returns
returns c = copies-end_roomy
