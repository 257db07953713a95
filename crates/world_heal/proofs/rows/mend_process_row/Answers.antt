use Rattle.std.specs.Prelude.{IfOk}
use Rattle.std.proofs.Common.{◌∙◌, ◌<◌, ◌*◌, sym, ap, subst}
use Rattle.rank_machine.specs.declared.layout.Layout.{Layout}
use Rattle.rank_machine.specs.Setting.{group_count}
use Rattle.recovery_counts.specs.Counted.{round_most}
use Rattle.world_heal.specs.Ways.{IfDone}
use Rattle.world_heal.specs.Mended.{some_in, HasMended, IsHitMending, AreGroupsHealed}
use Rattle.world_heal.proofs.RowSteps.{laid-on, row-passed}
use Rattle.world_heal.proofs.rows.mend_process_row.Goals as goal

pub lost_columns-requires : goal.lost_columns-requires
lost_columns-requires g c =
    let laid = laid-on c.args.world.now c.args.table.now c.args.line c.layout_at-layout.result c.requires.table c.layout_at-layout.ensures.value in
    record { grid = c.layout_at-layout.ensures.sound.grid; row_in = subst (λ (d : Layout). c.args.row < d.grid.p) (sym laid) c.requires.row_in }

pub mend_groups-requires : goal.mend_groups-requires
mend_groups-requires g c =
    let laid = laid-on c.args.world.now c.args.table.now c.args.line c.layout_at-layout.result c.requires.table c.layout_at-layout.ensures.value in
    record {
      mending = c.requires.mending;
      table = c.requires.table;
      live = c.requires.live;
      layout = laid;
      laid_out = c.layout_at-layout.ensures.sound;
      row_in = subst (λ (d : Layout). c.args.row < d.grid.p) (sym laid) c.requires.row_in;
      lost = c.deref-then-some_lost.ensures.value ∙ c.in_ok-lost.ensures;
    }

pub returns-then-some_lost : goal.returns-then-some_lost
returns-then-some_lost g c =
    let laid = laid-on c.args.world.now c.args.table.now c.args.line c.layout_at-layout.result c.requires.table c.layout_at-layout.ensures.value in
    subst
    (λ (d : Layout).
    IfOk c.mend_groups.result (IfDone (HasMended (group_count d * round_most d) (AreGroupsHealed c.args.line c.args.row (group_count d)) c.args.world.now c.mend_groups.new.world) (IsHitMending (group_count d * round_most d) c.args.world.now c.mend_groups.new.world)))
    laid c.mend_groups.ensures

pub returns : goal.returns
returns g c =
    let laid = laid-on c.args.world.now c.args.table.now c.args.line c.layout_at-layout.result c.requires.table c.layout_at-layout.ensures.value in
    row-passed c.args.world.now c.args.line c.args.row c.in_ok-lost.lost.items c.layout_at-layout.result c.requires.mending c.requires.live c.requires.row_in laid c.in_ok-lost.ensures
    (sym (ap some_in c.deref.ensures.value) ∙ (sym c.some_lost.ensures ∙ c.if-some_lost.false))
