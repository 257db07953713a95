use Rattle.std.proofs.Common.{◌≡◌, ◌+◌, ◌-◌, ◌*◌, ◌%◌}
use Rattle.run_data.specs.Matrix.{entry}
use Rattle.local_blas.specs.Kernels.{product_word}
use Rattle.run_data.proofs.Columns.{with_columns}
use Rattle.local_blas.proofs.solve.subtract_above.Given as goal

abbrev pub invariant-loop-j : goal.invariant-loop-j
invariant-loop-j g l =
    l.dst ≡ with_columns l.fn.dst l.at (λ i j. (entry l.fn.dst i j + (g.K.Field.MODULUS - 1) * product_word l.block l.lp l.fn.dst l.above (i - l.at.r0) (j - l.at.c0)) % g.K.Field.MODULUS) l.j
