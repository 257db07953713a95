use Rattle.recovery_counts.proofs.StripCounts.{more-copies}
use Rattle.recovery_counts.proofs.strips.one_more_row_of_copies.Goals as goal

pub returns : goal.returns
returns c = more-copies
