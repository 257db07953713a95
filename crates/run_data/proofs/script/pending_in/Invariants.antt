use Rattle.std.proofs.Common.{◌≡◌, suc, drop}
use Rattle.run_data.specs.Script.{commands_from, commands_of}
use Rattle.run_data.specs.Flips.{pending_from, pending}
use Rattle.run_data.proofs.script.pending_in.Given as goal

abbrev pub invariant-loop-i : goal.invariant-loop-i
invariant-loop-i l = pending_from (commands_from (suc l.i) (drop l.i l.lines)) l.line l.name l.flips.items ≡ pending (commands_of l.lines) l.line l.name
