use Rattle.std.proofs.Common.{◌∙◌}
use Rattle.block_world.specs.World.{setting_in, state_of}
use Rattle.world_losses.proofs.Tables.{held_live}
use Rattle.world_losses.proofs.beyond.holds_live.Goals as goal

pub returns : goal.returns
returns g c =
    c.some_lies_on.ensures ∙ held_live (setting_in c.args.world.now) (state_of c.args.world.now) c.args.table.now c.mark.result c.args.number c.requires.lines c.mark.ensures
