use Rattle.script_recovery.proofs.MarksMost.{recovery-most}
use Rattle.script_recovery.proofs.recoveries.recoveries_keep_to_the_bound.Goals as goal

pub returns : goal.returns
returns c = recovery-most
