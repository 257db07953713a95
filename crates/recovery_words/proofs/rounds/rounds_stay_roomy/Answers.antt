use Rattle.recovery_words.proofs.RowSizes.{row-stays_roomy}
use Rattle.recovery_words.proofs.rounds.rounds_stay_roomy.Goals as goal

pub returns : goal.returns
returns c = row-stays_roomy
