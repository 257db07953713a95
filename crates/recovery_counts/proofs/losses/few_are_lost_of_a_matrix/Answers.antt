use Rattle.recovery_counts.proofs.Judged.{matrix-few}
use Rattle.recovery_counts.proofs.losses.few_are_lost_of_a_matrix.Goals as goal

pub returns : goal.returns
returns c = matrix-few
