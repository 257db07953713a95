use Rattle.recovery_counts.proofs.StripCounts.{row-passed}
use Rattle.recovery_counts.proofs.strips.a_row_is_passed.Goals as goal

pub returns : goal.returns
returns c = row-passed
