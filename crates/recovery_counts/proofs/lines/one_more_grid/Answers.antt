use Rattle.recovery_counts.proofs.LineCounts.{more-grid}
use Rattle.recovery_counts.proofs.lines.one_more_grid.Goals as goal

pub returns : goal.returns
returns c = more-grid
