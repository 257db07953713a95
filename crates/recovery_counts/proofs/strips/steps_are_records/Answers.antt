use Rattle.recovery_counts.proofs.StripCounts.{all-steps}
use Rattle.recovery_counts.proofs.strips.steps_are_records.Goals as goal

pub returns : goal.returns
returns c = all-steps
