use Rattle.recovery_counts.proofs.LineCounts.{more-list}
use Rattle.recovery_counts.proofs.lines.one_more_list.Goals as goal

pub returns : goal.returns
returns c = more-list
