use Rattle.std.proofs.Common.{◌≡◌, ◌*◌, ◌%◌}
use Rattle.run_data.specs.Matrix.{entry}
use Rattle.run_data.proofs.Columns.{with_columns}
use Rattle.local_blas.proofs.scaling.scale.Given as goal

abbrev pub invariant-loop-j : goal.invariant-loop-j
invariant-loop-j g l = l.dst ≡ with_columns l.fn.dst l.at (λ i j. (entry l.fn.dst i j * l.a) % g.K.Field.MODULUS) l.j
