use Rattle.std.proofs.Common.{◌≡◌, subst, arith}
use Rattle.recovery_counts.specs.Counted.{grid_most, grids_so_far}
use Rattle.block_world.specs.World.{setting_in}
use Rattle.world_heal.specs.Ways.{rest_of}
use Rattle.world_heal.specs.Mended.{HasMended, IsGridHealed, AreGridsHealed}
use Rattle.world_heal.proofs.OneByOne.{at_done, at_hit}
use Rattle.world_heal.proofs.OnGrids.{table-way, grids-none, grids-more, grids-hit, all-mended}
use Rattle.world_heal.proofs.grids.mend_all.Goals as goal

pub loop-number-init : goal.loop-number-init
loop-number-init g c = grids-none c.args.world.now c.requires.mending

pub mend_grid-requires : goal.mend_grid-requires
mend_grid-requires g c = record {
  mending = c.loop-number.invariant.mending;
  table = table-way c.args.world.now c.loop-number.world c.args.table.now c.loop-number.invariant.under_way c.requires.table;
}

pub loop-number-preserved : goal.loop-number-preserved
loop-number-preserved g c =
    let b = c.loop-number.world in
    let number = c.loop-number.number in
    let done = at_done (grid_most (setting_in b) (rest_of b).mark number) (IsGridHealed number) b c.mend_grid.new.world _ c.in-Done.is c.in_ok-mend_grid.ensures in
    grids-more c.args.world.now b c.mend_grid.new.world number c.loop-number.invariant done

pub returns-in-Hit : goal.returns-in-Hit
returns-in-Hit g c =
    let b = c.loop-number.world in
    let number = c.loop-number.number in
    let hit = at_hit (grid_most (setting_in b) (rest_of b).mark number) (IsGridHealed number) b c.mend_grid.new.world _ c.in-Hit.is c.in_ok-mend_grid.ensures in
    grids-hit c.args.world.now b c.mend_grid.new.world number c.args.grids (omega arith) c.loop-number.invariant hit

pub returns : goal.returns
returns g c =
    let a = c.args.world.now in
    let end : c.loop-number.number ≡ c.args.grids = omega arith in
    all-mended a c.loop-number.world c.args.grids c.requires.grids c.requires.mending
    (subst (λ n. HasMended (grids_so_far (setting_in a) (rest_of a).mark n) (AreGridsHealed n) a c.loop-number.world) end c.loop-number.invariant)
