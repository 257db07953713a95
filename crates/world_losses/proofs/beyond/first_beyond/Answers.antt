use Rattle.std.proofs.Common.{arith}
use Rattle.block_world.specs.World.{setting_in, state_of}
use Rattle.world_losses.proofs.First.{grid_within, grid_passed}
use Rattle.world_losses.proofs.beyond.first_beyond.Goals as goal

pub first_row-requires : goal.first_row-requires
first_row-requires g c = record {
  grid = grid_within c.args.grids.now (record { p = 0; q = 0; f = 0; first = 0 }) c.loop-number.number c.requires.within (omega (arith, c.loop-number-test.true, c.requires.few));
}

pub loop-number-preserved : goal.loop-number-preserved
loop-number-preserved g c =
    grid_passed (setting_in c.args.world.now) (state_of c.args.world.now) c.args.grids.now (record { p = 0; q = 0; f = 0; first = 0 }) c.loop-number.number c.holds_live-live.result c.first_row.result c.requires.grids
    (omega (arith, c.loop-number-test.true, c.requires.few)) c.holds_live-live.ensures c.first_row.ensures c.in_default.is c.loop-number.invariant
