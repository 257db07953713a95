use Rattle.std.proofs.Common.{◌≡◌, suc, ◌+◌, ◌≤◌, drop}
use Rattle.run_data.specs.Script.{commands_from, commands_of}
use Rattle.rank_machine.specs.Setting.{sizes}
use Rattle.rank_machine.specs.Scripts.{grids_from}
use Rattle.script_lines.specs.Layouts.{AreGrids}
use Rattle.block_world.proofs.ranks.ranks_of.Given as goal

abbrev pub invariant-loop-i : goal.invariant-loop-i
invariant-loop-i l = record {
  total : l.ranks + sizes (grids_from l.ranks (commands_from (suc l.i) (drop l.i l.lines))) ≡ sizes (grids_from 0 (commands_of l.lines));
  sound : AreGrids (grids_from l.ranks (commands_from (suc l.i) (drop l.i l.lines)));
  few : l.ranks ≤ 64;
}
