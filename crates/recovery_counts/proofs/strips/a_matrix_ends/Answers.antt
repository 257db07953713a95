use Rattle.recovery_counts.proofs.StripCounts.{matrix-ends}
use Rattle.recovery_counts.proofs.strips.a_matrix_ends.Goals as goal

pub returns : goal.returns
returns c = matrix-ends
