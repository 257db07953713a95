use Rattle.recovery_counts.proofs.LineCounts.{few-records}
use Rattle.recovery_counts.proofs.lines.a_recovery_takes_few_records.Goals as goal

pub returns : goal.returns
returns c = few-records
