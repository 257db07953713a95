use Rattle.recovery_counts.proofs.Judged.{few-later}
use Rattle.recovery_counts.proofs.losses.few_are_lost_later.Goals as goal

pub returns : goal.returns
returns c = few-later
