use Rattle.recovery_counts.proofs.InTime.{attempt-costs}
use Rattle.recovery_counts.proofs.times.an_attempt_costs_its_records.Goals as goal

pub returns : goal.returns
returns c = attempt-costs
