use Rattle.std.proofs.Common.{length}
use Rattle.recovery_counts.specs.Counted.{matrices_so_far}
use Rattle.block_world.specs.World.{setting_in}
use Rattle.world_heal.specs.Ways.{rest_of}
use Rattle.world_heal.specs.Mended.{AreMatricesHealed}
use Rattle.world_heal.proofs.OneByOne.{at_done, at_hit}
use Rattle.world_heal.proofs.OnGrids.{table-way, grid-outcome, grid-hit_first}
use Rattle.world_heal.proofs.grids.mend_grid.Goals as goal

pub mend_lists-requires : goal.mend_lists-requires
mend_lists-requires g c =
    let a = c.args.world.now in
    let b = c.mend_matrices.new.world in
    let s = setting_in a in
    let h = at_done (matrices_so_far s (rest_of a).mark c.args.number (length s.jobs)) (AreMatricesHealed c.args.number (length s.jobs)) a b _ c.in-Done.is c.in_ok-mend_matrices.ensures in
    record { mending = h.mending; table = table-way a b c.args.table.now h.under_way c.requires.table }

pub returns-in-Done : goal.returns-in-Done
returns-in-Done g c =
    let a = c.args.world.now in
    let b = c.mend_matrices.new.world in
    let s = setting_in a in
    let h = at_done (matrices_so_far s (rest_of a).mark c.args.number (length s.jobs)) (AreMatricesHealed c.args.number (length s.jobs)) a b _ c.in-Done.is c.in_ok-mend_matrices.ensures in
    grid-outcome c.args.number a b c.mend_lists.new.world h _ c.mend_lists.ensures

pub returns-in-Hit : goal.returns-in-Hit
returns-in-Hit g c =
    let a = c.args.world.now in
    let b = c.mend_matrices.new.world in
    let s = setting_in a in
    grid-hit_first c.args.number a b c.mend_matrices.new.world
    (at_hit (matrices_so_far s (rest_of a).mark c.args.number (length s.jobs)) (AreMatricesHealed c.args.number (length s.jobs)) a b _ c.in-Hit.is c.in_ok-mend_matrices.ensures)
