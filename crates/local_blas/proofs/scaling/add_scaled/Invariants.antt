use Rattle.std.proofs.Common.{◌≡◌, ◌+◌, ◌-◌, ◌*◌, ◌%◌}
use Rattle.run_data.specs.Matrix.{entry}
use Rattle.run_data.specs.Parts.{part_entry}
use Rattle.run_data.proofs.Columns.{with_columns}
use Rattle.local_blas.proofs.scaling.add_scaled.Given as goal

abbrev pub invariant-loop-j : goal.invariant-loop-j
invariant-loop-j g l =
    l.dst ≡ with_columns l.fn.dst l.at (λ r c. (entry l.fn.dst r c + l.a * part_entry l.src l.sp (r - l.at.r0) (c - l.at.c0)) % g.K.Field.MODULUS) l.j
