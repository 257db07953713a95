use Rattle.recovery_counts.proofs.StripCounts.{few-round}
use Rattle.recovery_counts.proofs.strips.a_round_takes_few_records.Goals as goal

pub returns : goal.returns
returns c = few-round
