use Rattle.std.proofs.Common.{◌≡◌, ◌++◌, suc, drop}
use Rattle.run_data.specs.Script.{commands_from, commands_of}
use Rattle.rank_machine.specs.Scripts.{losses_in}
use Rattle.script_run.proofs.opening.losses_of.Given as goal

abbrev pub invariant-loop-i : goal.invariant-loop-i
invariant-loop-i l = l.losses.items ++ losses_in (commands_from (suc l.i) (drop l.i l.lines)) ≡ losses_in (commands_of l.lines)
