use Rattle.std.proofs.Common.{◌≡◌}
use Rattle.run_laws.specs.Due.{ahead}
use Rattle.block_world.specs.World.{setting_in}
use Rattle.loss_recovery.proofs.Beginning.{IsBegun}
use Rattle.loss_recovery.proofs.driving.drive.Given as goal

abbrev pub invariant-loop-site : goal.invariant-loop-site
invariant-loop-site g l = (g.H.Phase.task l.phase ≡ g.H.Phase.task l.initial.phase) × IsBegun (g.H.Phase.plan (g.H.Phase.task l.initial.phase)) l.initial.world l.world × (l.site ≡ l.initial.site)

abbrev pub decreases-loop-site : goal.decreases-loop-site
decreases-loop-site g l = ahead (setting_in l.initial.world) l.world.journal
