use Rattle.std.proofs.Common.{◌≡◌, ◌+◌, ◌-◌, ◌*◌, ◌%◌}
use Rattle.run_data.specs.Matrix.{entry}
use Rattle.local_blas.specs.Kernels.{product_word}
use Rattle.run_data.proofs.Columns.{with_columns}
use Rattle.local_blas.proofs.product.mul_add.Given as goal

abbrev pub invariant-loop-j : goal.invariant-loop-j
invariant-loop-j g l =
    l.dst ≡ with_columns l.fn.dst l.at (λ i j. (entry l.fn.dst i j + l.a * product_word l.left l.lp l.right l.rp (i - l.at.r0) (j - l.at.c0)) % g.K.Field.MODULUS) l.j
