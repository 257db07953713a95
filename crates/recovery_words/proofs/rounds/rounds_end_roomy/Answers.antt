use Rattle.recovery_words.proofs.RowSizes.{row-ends_roomy}
use Rattle.recovery_words.proofs.rounds.rounds_end_roomy.Goals as goal

pub returns : goal.returns
returns c = row-ends_roomy
