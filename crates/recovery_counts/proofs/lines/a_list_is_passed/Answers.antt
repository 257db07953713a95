use Rattle.recovery_counts.proofs.LineCounts.{list-passed}
use Rattle.recovery_counts.proofs.lines.a_list_is_passed.Goals as goal

pub returns : goal.returns
returns c = list-passed
