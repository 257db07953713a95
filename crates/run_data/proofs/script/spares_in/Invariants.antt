use Rattle.std.proofs.Common.{◌≡◌, suc, drop}
use Rattle.run_data.specs.Script.{commands_from, commands_of, spares_from, spares_of}
use Rattle.run_data.proofs.script.spares_in.Given as goal

abbrev pub invariant-loop-i : goal.invariant-loop-i
invariant-loop-i l = spares_from l.spares (commands_from (suc l.i) (drop l.i l.lines)) ≡ spares_of (commands_of l.lines)
