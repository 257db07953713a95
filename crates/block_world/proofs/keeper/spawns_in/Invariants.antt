use Rattle.std.proofs.Common.{◌≡◌, ◌+◌, drop}
use Rattle.run_laws.specs.Spares.{spawns}
use Rattle.block_world.proofs.keeper.spawns_in.Given as goal

abbrev pub invariant-loop-i : goal.invariant-loop-i
invariant-loop-i l = l.count + spawns (drop l.i l.journal) ≡ spawns l.journal
