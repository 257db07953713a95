use Rattle.recovery_counts.proofs.InTime.{again}
use Rattle.recovery_counts.proofs.times.losses_begin_it_again.Goals as goal

pub returns : goal.returns
returns c = again
