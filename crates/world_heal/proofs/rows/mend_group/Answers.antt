use Rattle.block_world.specs.World.{setting_in, state_of}
use Rattle.recovery_code.specs.Spots.{spot_seen}
use Rattle.recovery_counts.specs.Counted.{round_most}
use Rattle.world_heal.specs.Ways.{rest_of}
use Rattle.world_heal.proofs.RowRounds.{group-few, as-many, few-lost, code-mends, row-mended, row-hit}
use Rattle.world_heal.proofs.rows.mend_group.Goals as goal

pub mend_row-requires-clause-few : goal.mend_row-requires-clause-few
mend_row-requires-clause-few g c = group-few c.args.place.layout c.args.place.group c.requires.laid_out c.requires.group_in

pub mend_row-requires-clause-columns : goal.mend_row-requires-clause-columns
mend_row-requires-clause-columns g c =
    let w = c.args.world.now in
    let x = c.args.place in
    as-many (setting_in w) (rest_of w) (state_of w) x.line x.row x.group (spot_seen x) c.args.lost.now c.requires.place c.requires.lost

pub mend_row-requires-clause-few_lost : goal.mend_row-requires-clause-few_lost
mend_row-requires-clause-few_lost g c =
    let w = c.args.world.now in
    let x = c.args.place in
    let m = c.requires.mending in
    few-lost (setting_in w) (rest_of w) (state_of w) x.line x.row x.group (spot_seen x) c.args.lost.now c.requires.place c.requires.lost m.mendable m.healing m.within c.requires.live c.requires.row_in

pub run-requires : goal.run-requires
run-requires g c =
    let w = c.args.world.now in
    let x = c.args.place in
    let r = c.requires in
    let h = code-mends w g.K.Field.MODULUS (spot_seen x) c.args.lost.now x.line x.row x.group c.new-round.result c.mend_row.new.round r.mending r.live r.place r.row_in r.group_in r.lost c.journal-running.ensures.sound c.new-round.ensures c.in_ok-mend_row.ensures in
    record { links = h.links; ranks = h.within; legal = h.legal }

pub returns-in-Whole : goal.returns-in-Whole
returns-in-Whole g c =
    let w = c.args.world.now in
    let x = c.args.place in
    let r = c.requires in
    let h = code-mends w g.K.Field.MODULUS (spot_seen x) c.args.lost.now x.line x.row x.group c.new-round.result c.mend_row.new.round r.mending r.live r.place r.row_in r.group_in r.lost c.journal-running.ensures.sound c.new-round.ensures c.in_ok-mend_row.ensures in
    row-mended w c.run.new.self c.mend_row.new.round c.args.order.now c.run.new.order c.in_ok-run.field-0 (round_most x.layout) x.line x.row x.group r.mending h c.in-Whole.is c.in_ok-run.ensures

pub returns : goal.returns
returns g c =
    let w = c.args.world.now in
    let x = c.args.place in
    let r = c.requires in
    let h = code-mends w g.K.Field.MODULUS (spot_seen x) c.args.lost.now x.line x.row x.group c.new-round.result c.mend_row.new.round r.mending r.live r.place r.row_in r.group_in r.lost c.journal-running.ensures.sound c.new-round.ensures c.in_ok-mend_row.ensures in
    row-hit w c.run.new.self c.mend_row.new.round c.args.order.now c.run.new.order c.in_ok-run.field-0 (round_most x.layout) x.line x.row x.group h c.in-Hit.is c.in_ok-run.ensures
