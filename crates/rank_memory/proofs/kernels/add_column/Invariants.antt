use Rattle.std.proofs.Common.{◌≡◌, ◌+◌, ◌-◌, ◌*◌, ◌%◌, nat_lt, nat_le}
use Rattle.std.specs.Prelude.{if◌then◌else◌}
use Rattle.run_data.specs.Matrix.{entry}
use Rattle.run_data.specs.Parts.{part_entry}
use Rattle.run_data.proofs.Fills.{with_filled}
use Rattle.rank_memory.specs.Places.{column_in}
use Rattle.rank_memory.proofs.kernels.add_column.Given as goal

abbrev pub invariant-loop-i : goal.invariant-loop-i
invariant-loop-i g l =
    l.dst ≡ with_filled l.fn.dst (column_in l.at l.j) (λ i k. if (if l.upper then nat_lt i l.end else nat_le l.end i) then (entry l.fn.dst i k + l.a * part_entry l.src l.sp (i - l.at.r0) (k - l.at.c0)) % g.K.Field.MODULUS else entry l.fn.dst i k) l.i l.j
