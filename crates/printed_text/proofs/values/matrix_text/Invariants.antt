use Rattle.std.proofs.Common.{◌≡◌, ◌++◌, take}
use Rattle.std.specs.List.{flat_map, range_with_len}
use Rattle.serial_model.specs.Text.{row_text}
use Rattle.printed_text.proofs.values.matrix_text.Given as goal

abbrev pub invariant-loop-i : goal.invariant-loop-i
invariant-loop-i l = l.out.items ≡ l.initial.out.items ++ flat_map (row_text l.m) (take l.i (range_with_len 0 l.m.rows))
