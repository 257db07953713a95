use Rattle.recovery_counts.proofs.Judged.{list-few}
use Rattle.recovery_counts.proofs.losses.few_are_lost_of_a_list.Goals as goal

pub returns : goal.returns
returns c = list-few
