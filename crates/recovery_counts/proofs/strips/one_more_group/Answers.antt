use Rattle.recovery_counts.proofs.StripCounts.{more-group}
use Rattle.recovery_counts.proofs.strips.one_more_group.Goals as goal

pub returns : goal.returns
returns c = more-group
