use Rattle.recovery_counts.proofs.Judged.{lost-few}
use Rattle.recovery_counts.proofs.losses.few_are_lost_now.Goals as goal

pub returns : goal.returns
returns c = lost-few
