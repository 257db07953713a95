use Rattle.recovery_counts.proofs.LineCounts.{matrix-passed}
use Rattle.recovery_counts.proofs.lines.a_matrix_is_passed.Goals as goal

pub returns : goal.returns
returns c = matrix-passed
