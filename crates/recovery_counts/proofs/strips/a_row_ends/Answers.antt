use Rattle.recovery_counts.proofs.StripCounts.{row-ends}
use Rattle.recovery_counts.proofs.strips.a_row_ends.Goals as goal

pub returns : goal.returns
returns c = row-ends
