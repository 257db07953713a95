use Rattle.recovery_counts.proofs.StripCounts.{matrix-begins}
use Rattle.recovery_counts.proofs.strips.a_matrix_begins.Goals as goal

pub returns : goal.returns
returns c = matrix-begins
