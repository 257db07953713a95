use Rattle.std.proofs.Common.{◌≡◌, ◌-◌}
use Rattle.world_heal.specs.Costs.{HoldsWords}
use Rattle.loss_recovery.proofs.Running.{IsRunning}
use Rattle.loss_recovery.proofs.driving.run_all.Given as goal

abbrev pub invariant-loop-next : goal.invariant-loop-next
invariant-loop-next g l =
    (g.H.Phase.task l.phase ≡ g.H.Phase.task l.initial.phase)
    × IsRunning (g.H.Phase.plan (g.H.Phase.task l.initial.phase)) (g.H.Phase.stands l.phase) (g.H.Phase.progress l.phase) l.taken l.initial.world l.world
    × HoldsWords l.initial.world l.world

abbrev pub decreases-loop-next : goal.decreases-loop-next
decreases-loop-next g l = (g.H.Phase.plan (g.H.Phase.task l.initial.phase)).most_nexts - (g.H.Phase.progress l.phase).nexts
