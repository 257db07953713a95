use Rattle.recovery_counts.proofs.LineCounts.{more-matrix}
use Rattle.recovery_counts.proofs.lines.one_more_matrix.Goals as goal

pub returns : goal.returns
returns c = more-matrix
