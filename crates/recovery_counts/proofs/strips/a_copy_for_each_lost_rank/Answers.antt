use Rattle.recovery_counts.proofs.StripCounts.{copy-each}
use Rattle.recovery_counts.proofs.strips.a_copy_for_each_lost_rank.Goals as goal

pub returns : goal.returns
returns c = copy-each
