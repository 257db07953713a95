use Rattle.std.proofs.Common.{arith, sym, ◌∙◌}
use Rattle.run_laws.proofs.Spawned.{spawned-is}
use Rattle.block_world.specs.World.{setting_in, state_of}
use Rattle.world_losses.specs.Judged.{lacks_of}
use Rattle.world_losses.proofs.First.{none_now, none_before}
use Rattle.world_losses.proofs.spares.first_without.Goals as goal

pub loop-rank-init : goal.loop-rank-init
loop-rank-init g c = (
  c.spawns-used.ensures ∙ (sym (spawned-is (setting_in c.args.world.now) c.args.world.now.journal) ∙ none_now (state_of c.args.world.now)),
  omega arith,
  none_before (lacks_of (state_of c.args.world.now) c.args.spares),
)
