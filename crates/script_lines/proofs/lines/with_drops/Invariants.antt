use Rattle.std.proofs.Common.{◌≡◌, ◌++◌, map, drop}
use Rattle.script_lines.specs.Lines.{with_drop}
use Rattle.script_lines.proofs.lines.with_drops.Given as goal

abbrev pub invariant-loop-asked : goal.invariant-loop-asked
invariant-loop-asked l = l.lines.items ++ map (with_drop l.table) (drop l.asked-index l.table) ≡ map (with_drop l.table) l.table
