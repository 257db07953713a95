use Rattle.std.proofs.Common.{◌≡◌, ◌≤◌, length}
use Rattle.script_run.proofs.LineByLine.{IsUpTo}
use Rattle.script_run.proofs.running.run_lines.Given as goal

abbrev pub invariant-loop-i : goal.invariant-loop-i
invariant-loop-i g l = IsUpTo l.script l.files l.i l.world l.site l.out.items
