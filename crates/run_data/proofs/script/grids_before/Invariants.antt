use Rattle.std.proofs.Common.{◌≡◌, suc, ◌+◌, ◌≤◌, drop}
use Rattle.run_data.specs.Script.{commands_from, commands_of, grids_before}
use Rattle.run_data.proofs.script.grids_before.Given as goal

abbrev pub invariant-loop-i : goal.invariant-loop-i
invariant-loop-i l = (l.count + grids_before (commands_from (suc l.i) (drop l.i l.lines)) l.line ≡ grids_before (commands_of l.lines) l.line) × (l.count ≤ l.i)
