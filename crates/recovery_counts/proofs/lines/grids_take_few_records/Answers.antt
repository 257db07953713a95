use Rattle.recovery_counts.proofs.LineCounts.{few-grids}
use Rattle.recovery_counts.proofs.lines.grids_take_few_records.Goals as goal

pub returns : goal.returns
returns c = few-grids
