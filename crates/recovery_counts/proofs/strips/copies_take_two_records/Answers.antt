use Rattle.recovery_counts.proofs.StripCounts.{two-each}
use Rattle.recovery_counts.proofs.strips.copies_take_two_records.Goals as goal

pub returns : goal.returns
returns c = two-each
