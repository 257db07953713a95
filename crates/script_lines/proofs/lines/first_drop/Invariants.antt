use Rattle.std.proofs.Common.{◌≡◌, drop}
use Rattle.script_lines.specs.Lines.{first_drop}
use Rattle.script_lines.proofs.lines.first_drop.Given as goal

abbrev pub invariant-loop-asked : goal.invariant-loop-asked
invariant-loop-asked l = first_drop l.table l.what ≡ first_drop (drop l.asked-index l.table) l.what
