use Rattle.recovery_words.proofs.RowSizes.{row-holds}
use Rattle.recovery_words.proofs.rounds.rounds_hold.Goals as goal

pub returns : goal.returns
returns c = row-holds
