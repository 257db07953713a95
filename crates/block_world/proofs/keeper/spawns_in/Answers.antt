use Rattle.std.proofs.Common.{suc, ◌≡◌, ◌<◌, ◌≤◌, ◌+◌, drop, arith}
use Rattle.run_laws.specs.Spares.{spawns}
use Rattle.run_laws.proofs.Spawned.{spawns-numbered, spawns-at}
use Rattle.block_world.proofs.keeper.spawns_in.Goals as goal

pub overflow_add-count : goal.overflow_add-count
overflow_add-count c =
    let js = c.args.journal.now in
    let i = c.loop-i.i in
    let one : spawns (drop i js) ≡ suc (spawns (drop (suc i) js)) = spawns-at js i _ c.in-Spawn.field-0 c.loop-i-test.true c.in-Spawn.is in
    omega (arith, one, c.loop-i.invariant, spawns-numbered js, c.requires.few)
