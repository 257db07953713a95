use Rattle.std.proofs.Common.{◌≡◌, ◌++◌, ◌-◌, map}
use Rattle.std.specs.List.{range_with_len}
use Rattle.blacs_grid.specs.declared.Scope.TheVariants.{All}
use Rattle.blacs_grid.specs.Places.{member}
use Rattle.rank_machine.specs.declared.slot.SlotKind.TheVariants.{Data}
use Rattle.rank_machine.specs.CodeLaw.{slot_at}
use Rattle.line_phases.specs.Printing.{group_slots}
use Rattle.script_run.proofs.printing.add_group.Given as goal

abbrev pub invariant-loop-i : goal.invariant-loop-i
invariant-loop-i l = l.slots.items ++ map (λ i. (member l.layout.grid All i, slot_at Data l.line l.group)) (range_with_len l.i (l.i-end - l.i)) ≡ l.fn.slots.items ++ group_slots l.line l.layout l.group
