-- The strips that a print line takes.
use Rattle.std.specs.Prelude.{ℕ, List, map}
use Rattle.std.specs.List.{flat_map, range_with_len}
use Rattle.blacs_grid.specs.declared.Scope.TheVariants.{All}
use Rattle.blacs_grid.specs.Places.{members, member}
use Rattle.rank_machine.specs.declared.slot.SlotKind.TheVariants.{Data}
use Rattle.rank_machine.specs.declared.slot.Slot.{Slot}
use Rattle.rank_machine.specs.declared.layout.Layout.{Layout}
use Rattle.rank_machine.specs.Setting.{Setting, layout, group_count}
use Rattle.rank_machine.specs.CodeLaw.{slot_at}

-- the strips of one group of the matrix that a line made, on the data ranks row by row
abbrev pub group_slots : ℕ → Layout → ℕ → List (ℕ × Slot)
group_slots line d group = map (λ i. (member d.grid All i, slot_at Data line group)) (range_with_len 0 (members d.grid All))

-- the strips of the matrix, group after group
abbrev pub strip_slots : ℕ → Layout → List (ℕ × Slot)
strip_slots line d = flat_map (group_slots line d) (range_with_len 0 (group_count d))

-- the ranks and slots of the strips of the matrix that a line made, in the order in which a print line takes them
abbrev pub print_slots : Setting → ℕ → List (ℕ × Slot)
print_slots s line = strip_slots line (layout s line)
