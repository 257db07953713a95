use Rattle.std.proofs.Common.{◌≡◌, suc, drop}
use Rattle.run_data.specs.Script.{commands_from, commands_of}
use Rattle.script_rules.specs.Runs.{first_unrunnable}
use Rattle.script_rules.proofs.runs.first_unrunnable.Given as goal

abbrev pub invariant-loop-i : goal.invariant-loop-i
invariant-loop-i l = first_unrunnable (commands_from (suc l.i) (drop l.i l.lines)) ≡ first_unrunnable (commands_of l.lines)
