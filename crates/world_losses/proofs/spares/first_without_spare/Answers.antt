use Rattle.std.proofs.Common.{sym, ◌∙◌}
use Rattle.block_world.specs.World.{setting_in, state_of}
use Rattle.world_losses.proofs.First.{judged}
use Rattle.world_losses.proofs.spares.first_without_spare.Goals as goal

pub returns-in-Some : goal.returns-in-Some
returns-in-Some g c =
    judged (setting_in c.args.world.now) (state_of c.args.world.now) c.in-Some.spares c.args.ranks c.first_without.result (sym c.spares.ensures ∙ c.in-Some.is) c.requires.ranks c.first_without.ensures
