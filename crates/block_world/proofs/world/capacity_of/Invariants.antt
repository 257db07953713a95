use Rattle.std.proofs.Common.{◌≡◌, suc, drop}
use Rattle.run_data.specs.Script.{commands_from, commands_of}
use Rattle.rank_machine.specs.Scripts.{capacity_from}
use Rattle.block_world.proofs.world.capacity_of.Given as goal

abbrev pub invariant-loop-i : goal.invariant-loop-i
invariant-loop-i l = capacity_from l.capacity (commands_from (suc l.i) (drop l.i l.lines)) ≡ capacity_from 1 (commands_of l.lines)
