use Rattle.std.proofs.Common.{◌+◌, ◌==◌, add-one, Ok, arith}
use Rattle.product_laws.specs.Multiplying.{product_progress}
use Rattle.pblas.proofs.Driving.{told-is, ended-is, on-grid, view-may, view-ran, line-few, world-mendable}
use Rattle.pblas.proofs.products.multiply_next.Goals as goal

pub overflow_add-mark : goal.overflow_add-mark
overflow_add-mark g c = omega (arith, line-few c.args.script.now c.args.world.now.files c.args.done c.args.group c.args.world.now c.args._out.now c.requires.rules c.requires.sound c.requires.before c.requires.inside)

pub groups-requires-clause-block_size : goal.groups-requires-clause-block_size
groups-requires-clause-block_size g c =
    let is = c.requires.product c.requires.before.words in
    let grid = on-grid c.args.script.now c.args.world.now.files c.args.done c.args.group c.args.world.now c.args._out.now c.requires.rules c.requires.sound c.requires.before c.requires.inside c.args.product.now is in
    omega (arith, grid.c.some_block_columns)

pub groups-requires-clause-process_columns : goal.groups-requires-clause-process_columns
groups-requires-clause-process_columns g c =
    let is = c.requires.product c.requires.before.words in
    let grid = on-grid c.args.script.now c.args.world.now.files c.args.done c.args.group c.args.world.now c.args._out.now c.requires.rules c.requires.sound c.requires.before c.requires.inside c.args.product.now is in
    omega (arith, grid.grid.some_columns)

pub new-phase-requires : goal.new-phase-requires
new-phase-requires g c =
    record { on_grid = on-grid c.args.script.now c.args.world.now.files c.args.done c.args.group c.args.world.now c.args._out.now c.requires.rules c.requires.sound c.requires.before c.requires.inside c.args.product.now (c.requires.product c.requires.before.words) }

pub drive-requires-clause-mendable : goal.drive-requires-clause-mendable
drive-requires-clause-mendable g c = world-mendable c.args.script.now c.args.world.now.files c.args.done c.args.group c.args.world.now c.args._out.now c.requires.rules c.requires.sound c.requires.before c.requires.inside

pub drive-requires-clause-may : goal.drive-requires-clause-may
drive-requires-clause-may g c =
    let script = c.args.script.now in
    let files = c.args.world.now.files in
    let w = c.args.world.now in
    view-may script files c.args.done c.args.group w c.args._out.now c.requires.rules c.requires.sound c.requires.before c.requires.inside c.new-phase.result (c.args.group + 1 == c.groups.result)
    (told-is script files c.args.done c.args.group w c.args._out.now c.requires.rules c.requires.sound c.requires.before c.requires.inside c.args.product.now c.new-phase.result (c.args.done + 1) (c.args.group + 1 == c.groups.result)
    (c.requires.product c.requires.before.words) c.new-phase.ensures (add-one c.args.done))

pub returns-clause-ran : goal.returns-clause-ran
returns-clause-ran g c =
    let script = c.args.script.now in
    let files = c.args.world.now.files in
    let w = c.args.world.now in
    let is = c.requires.product c.requires.before.words in
    let did = c.in_ok-drove.ensures in
    view-ran script files c.args.done c.args.group w c.args._out.now c.requires.rules c.requires.sound c.requires.before c.requires.inside {E = Unit {0}} c.new-phase.result (c.args.group + 1 == c.groups.result)
    (product_progress c.drive.new.phase.x c.drive.new.phase.calls) c.drive.new.world (Ok c.in_ok-drove.drove)
    (told-is script files c.args.done c.args.group w c.args._out.now c.requires.rules c.requires.sound c.requires.before c.requires.inside c.args.product.now c.new-phase.result (c.args.done + 1) (c.args.group + 1 == c.groups.result) is c.new-phase.ensures (add-one c.args.done))
    (ended-is script files c.args.done c.args.group w c.args._out.now c.requires.rules c.requires.sound c.requires.before c.requires.inside c.args.product.now (c.args.group + 1) c.groups.result is c.groups.ensures.value (add-one c.args.group))
    (record { legal = c.journal-running.ensures.legal; in_place = c.journal-running.ensures.in_place })
    (record { legal = c.journal-still_running.ensures.legal; in_place = c.journal-still_running.ensures.in_place })
    did.driven did.costs did.in_time did.goes did.short did.holds
