use Rattle.std.proofs.Common.{◌≡◌, ◌-◌}
use Rattle.run_data.specs.Parts.{part_entry}
use Rattle.run_data.proofs.Columns.{with_columns}
use Rattle.run_data.proofs.matrix.put_part.Given as goal

abbrev pub invariant-loop-j : goal.invariant-loop-j
invariant-loop-j l = l.dst ≡ with_columns l.fn.dst l.at (λ i j. part_entry l.src l.sp (i - l.at.r0) (j - l.at.c0)) l.j
