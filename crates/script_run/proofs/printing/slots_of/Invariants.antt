use Rattle.std.proofs.Common.{◌≡◌, ◌++◌, ◌-◌}
use Rattle.std.specs.List.{flat_map, range_with_len}
use Rattle.line_phases.specs.Printing.{group_slots, strip_slots}
use Rattle.script_run.proofs.printing.slots_of.Given as goal

abbrev pub invariant-loop-group : goal.invariant-loop-group
invariant-loop-group l = l.slots.items ++ flat_map (group_slots l.line l.layout) (range_with_len l.group (l.group-end - l.group)) ≡ strip_slots l.line l.layout
