use Rattle.std.proofs.Common.{◌≡◌, ◌≤◌, suc, ◌++◌, map, drop, All}
use Rattle.run_data.specs.Script.{commands_from, commands_of}
use Rattle.rank_machine.specs.Scripts.{grids_from, jobs_from}
use Rattle.script_lines.specs.declared.lines.Line.{Line}
use Rattle.script_lines.specs.Layouts.{jobs_of}
use Rattle.script_lines.specs.Lines.{job_seen, of_slots, AreLaidOut, AreRising}
use Rattle.script_lines.proofs.lines.asked_of.Given as goal

abbrev pub invariant-loop-i : goal.invariant-loop-i
invariant-loop-i l = record {
  table : map job_seen l.table.items ++ map of_slots (jobs_from (commands_of l.lines) (grids_from 0 (commands_of l.lines)) (commands_from (suc l.i) (drop l.i l.lines))) ≡ map of_slots (jobs_of l.lines);
  laid_out : AreLaidOut l.table.items;
  rising : AreRising l.table.items;
  before : All (λ (x : Line). x.line ≤ l.i) l.table.items;
}
