use Rattle.std.proofs.Common.{◌<◌, ◌∙◌, sym, subst, arith}
use Rattle.rank_machine.specs.declared.layout.Layout.{Layout}
use Rattle.rank_machine.specs.Setting.{Setting, group_count}
use Rattle.rank_machine.specs.State.{State}
use Rattle.script_lines.proofs.TableLaws.{layout_on}
use Rattle.block_world.specs.World.{setting_in}
use Rattle.recovery_code.specs.Spots.{spot_seen}
use Rattle.recovery_counts.specs.Counted.{round_most}
use Rattle.recovery_rounds.specs.Rows.{IsRowHealed}
use Rattle.world_heal.specs.Mended.{AreGroupsHealed}
use Rattle.world_heal.proofs.RowSteps.{when_done, when_hit, one-hit, spot-of, spot-most, spot-mended, groups-none, groups-more, groups-all}
use Rattle.world_heal.proofs.rows.mend_groups.Goals as goal

pub place_of-place-requires-clause-layout : goal.place_of-place-requires-clause-layout
place_of-place-requires-clause-layout g c = c.requires.layout ∙ sym (layout_on (setting_in c.args.world.now) c.args.table.now 0 c.requires.table.lines c.args.line)

pub mend_group-requires : goal.mend_group-requires
mend_group-requires g c =
    let inv = c.loop-group.invariant in
    let p = spot-of c.args.world.now c.loop-group.world c.args.table.now c.args.layout c.args.line c.args.row c.loop-group.group c.mark.result (spot_seen c.place_of-place.result) inv.under_way c.requires.table c.requires.layout c.mark.ensures c.place_of-place.ensures
    c.args.lost.now c.requires.live c.requires.laid_out c.requires.row_in (omega (arith, c.loop-group-test.true, c.groups-group-end.ensures.value)) c.requires.lost in
    record { mending = inv.mending; live = p.live; place = p.place; laid_out = p.laid_out; row_in = p.row_in; group_in = p.group_in; lost = p.columns }

pub loop-group-init : goal.loop-group-init
loop-group-init g c = groups-none c.args.world.now c.args.line c.args.row (round_most c.args.layout) c.requires.mending

pub loop-group-preserved : goal.loop-group-preserved
loop-group-preserved g c =
    let a = c.args.world.now in
    let b = c.loop-group.world in
    let x = spot_seen c.place_of-place.result in
    let h = c.loop-group.invariant in
    let done = when_done (round_most x.d) (λ (s : Setting) (last now : State). IsRowHealed s last now x.line x.row x.group) b c.mend_group.new.world _ c.in-Done.is c.in_ok-mend_group.ensures in
    let here = spot-mended a b c.args.table.now c.args.layout c.args.line c.args.row c.loop-group.group c.mark.result x h.under_way c.requires.table c.requires.layout c.mark.ensures c.place_of-place.ensures c.mend_group.new.world done in
    groups-more a b c.mend_group.new.world c.args.line c.args.row c.loop-group.group (round_most c.args.layout) c.requires.live (subst (λ (d : Layout). c.args.row < d.grid.p) c.requires.layout c.requires.row_in) (subst (λ (d : Layout). c.loop-group.group < group_count d) c.requires.layout (omega (arith, c.loop-group-test.true, c.groups-group-end.ensures.value))) h here

pub returns-in-Hit : goal.returns-in-Hit
returns-in-Hit g c =
    let a = c.args.world.now in
    let b = c.loop-group.world in
    let x = spot_seen c.place_of-place.result in
    let h = c.loop-group.invariant in
    let hit = when_hit (round_most x.d) (λ (s : Setting) (last now : State). IsRowHealed s last now x.line x.row x.group) b c.mend_group.new.world _ c.in-Hit.is c.in_ok-mend_group.ensures in
    let most = spot-most a b c.args.table.now c.args.layout c.args.line c.args.row c.loop-group.group c.mark.result x h.under_way c.requires.table c.requires.layout c.mark.ensures c.place_of-place.ensures in
    one-hit a b c.mend_group.new.world c.loop-group.group (group_count c.args.layout) (round_most c.args.layout) (round_most x.d) (AreGroupsHealed c.args.line c.args.row c.loop-group.group) most (omega (arith, c.loop-group-test.true, c.groups-group-end.ensures.value)) h hit

pub returns : goal.returns
returns g c =
    groups-all c.args.world.now c.loop-group.world c.args.line c.args.row c.loop-group.group (group_count c.args.layout) (round_most c.args.layout) (omega (arith, c.groups-group-end.ensures.value)) c.loop-group.invariant
