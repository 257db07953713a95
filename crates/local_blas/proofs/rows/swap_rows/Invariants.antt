use Rattle.std.proofs.Common.{◌≡◌}
use Rattle.local_blas.proofs.Swaps.{with_swapped_columns}
use Rattle.local_blas.proofs.rows.swap_rows.Given as goal

abbrev pub invariant-loop-k : goal.invariant-loop-k
invariant-loop-k l = l.dst ≡ with_swapped_columns l.fn.dst l.i l.j l.k
