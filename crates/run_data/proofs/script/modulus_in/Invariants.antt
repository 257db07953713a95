use Rattle.std.proofs.Common.{◌≡◌, suc, drop}
use Rattle.run_data.specs.Script.{commands_from, commands_of, modulus_from, modulus_of}
use Rattle.run_data.proofs.script.modulus_in.Given as goal

abbrev pub invariant-loop-i : goal.invariant-loop-i
invariant-loop-i l = modulus_from l.modulus (commands_from (suc l.i) (drop l.i l.lines)) ≡ modulus_of (commands_of l.lines)
