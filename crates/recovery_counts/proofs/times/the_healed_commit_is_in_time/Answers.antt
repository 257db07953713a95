use Rattle.recovery_counts.proofs.InTime.{in-time}
use Rattle.recovery_counts.proofs.times.the_healed_commit_is_in_time.Goals as goal

pub returns : goal.returns
returns c = in-time
