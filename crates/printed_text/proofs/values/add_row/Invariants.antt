use Rattle.std.proofs.Common.{◌≡◌, ◌++◌, map}
use Rattle.std.specs.Prelude.{decimal}
use Rattle.std.specs.List.{join_with_byte, range_with_len}
use Rattle.run_data.specs.Matrix.{entry}
use Rattle.printed_text.proofs.values.add_row.Given as goal

abbrev pub invariant-loop-j : goal.invariant-loop-j
invariant-loop-j l = l.out.items ≡ l.initial.out.items ++ join_with_byte 32 (map (λ j. decimal (entry l.m l.i j)) (range_with_len 0 l.j))
