use Rattle.std.proofs.Common.{◌-◌, length}
use Rattle.loss_recovery.proofs.Saving.{IsSaving}
use Rattle.loss_recovery.proofs.driving.save_all.Given as goal

abbrev pub invariant-loop-rank : goal.invariant-loop-rank
invariant-loop-rank g l = IsSaving (g.H.Phase.plan (g.H.Phase.task l.fn.phase)).listed l.i l.initial.world l.world

abbrev pub decreases-loop-rank : goal.decreases-loop-rank
decreases-loop-rank g l = length (g.H.Phase.plan (g.H.Phase.task l.fn.phase)).listed - l.i
