use Rattle.recovery_words.proofs.RowSizes.{copies-stay_roomy}
use Rattle.recovery_words.proofs.rounds.copies_stay_roomy.Goals as goal

pub returns : goal.returns
returns c = copies-stay_roomy
