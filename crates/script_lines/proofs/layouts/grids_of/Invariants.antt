use Rattle.std.proofs.Common.{◌≡◌, suc, ◌++◌, ◌≤◌, drop}
use Rattle.run_data.specs.Script.{commands_from, commands_of}
use Rattle.rank_machine.specs.Scripts.{grids_from}
use Rattle.script_lines.specs.Layouts.{AreGrids}
use Rattle.script_lines.proofs.layouts.grids_of.Given as goal

abbrev pub invariant-loop-i : goal.invariant-loop-i
invariant-loop-i l = record {
  made : l.grids.items ++ grids_from l.first (commands_from (suc l.i) (drop l.i l.lines)) ≡ grids_from 0 (commands_of l.lines);
  sound : AreGrids (grids_from l.first (commands_from (suc l.i) (drop l.i l.lines)));
  few : l.first ≤ 64;
}
