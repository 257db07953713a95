use Rattle.std.proofs.Common.{arith}
use Rattle.rank_machine.specs.Setting.{layout, group_count}
use Rattle.block_world.specs.World.{setting_in}
use Rattle.world_heal.specs.Mended.{AreGroupsHealed}
use Rattle.world_heal.proofs.RowSteps.{row_most, when_done, when_hit, rows-on, rows-none, rows-table, rows-live, rows-in, rows-more, rows-hit, rows-all}
use Rattle.world_heal.proofs.rows.mend_matrix.Goals as goal

pub loop-row-init : goal.loop-row-init
loop-row-init g c = rows-none c.args.world.now c.args.line (row_most (layout (setting_in c.args.world.now) c.args.line)) c.requires.mending

pub mend_process_row-requires : goal.mend_process_row-requires
mend_process_row-requires g c =
    let a = c.args.world.now in
    let b = c.loop-row.world in
    let h = c.loop-row.invariant in
    let line = c.args.line in
    let rows = rows-on a c.args.table.now line c.layout_at-row-end.result c.requires.table c.layout_at-row-end.ensures.value in
    record {
      mending = h.mending;
      table = rows-table a b line c.loop-row.row h c.args.table.now c.requires.table;
      live = rows-live a b line c.loop-row.row h c.requires.live;
      row_in = rows-in a b line c.loop-row.row h c.loop-row.row (omega (arith, c.loop-row-test.true, rows));
    }

pub loop-row-preserved : goal.loop-row-preserved
loop-row-preserved g c =
    let a = c.args.world.now in
    let b = c.loop-row.world in
    let h = c.loop-row.invariant in
    let line = c.args.line in
    let d = layout (setting_in b) line in
    let rows = rows-on a c.args.table.now line c.layout_at-row-end.result c.requires.table c.layout_at-row-end.ensures.value in
    let done = when_done (row_most d) (AreGroupsHealed line c.loop-row.row (group_count d)) b c.mend_process_row.new.world _ c.in-Done.is c.in_ok-mend_process_row.ensures in
    rows-more a b line c.loop-row.row h c.mend_process_row.new.world c.requires.live (omega (arith, c.loop-row-test.true, rows)) done

pub returns-in-Hit : goal.returns-in-Hit
returns-in-Hit g c =
    let a = c.args.world.now in
    let b = c.loop-row.world in
    let h = c.loop-row.invariant in
    let line = c.args.line in
    let d = layout (setting_in b) line in
    let rows = rows-on a c.args.table.now line c.layout_at-row-end.result c.requires.table c.layout_at-row-end.ensures.value in
    let hit = when_hit (row_most d) (AreGroupsHealed line c.loop-row.row (group_count d)) b c.mend_process_row.new.world _ c.in-Hit.is c.in_ok-mend_process_row.ensures in
    rows-hit a b line c.loop-row.row h c.mend_process_row.new.world (omega (arith, c.loop-row-test.true, rows)) hit

pub returns : goal.returns
returns g c =
    let a = c.args.world.now in
    let line = c.args.line in
    let rows = rows-on a c.args.table.now line c.layout_at-row-end.result c.requires.table c.layout_at-row-end.ensures.value in
    rows-all a c.loop-row.world line c.loop-row.row c.loop-row.invariant (omega (arith, rows))
