use Rattle.recovery_counts.proofs.StripCounts.{few-copies}
use Rattle.recovery_counts.proofs.strips.a_list_takes_few_records.Goals as goal

pub returns : goal.returns
returns c = few-copies
