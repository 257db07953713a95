use Rattle.std.proofs.Common.{◌≡◌}
use Rattle.field_core.specs.Residue.{inverse}
use Rattle.run_data.specs.Parts.{part_entry, whole_part}
use Rattle.local_blas.specs.Kernels.{eliminated_word}
use Rattle.run_data.proofs.Columns.{with_columns}
use Rattle.local_blas.proofs.Eliminations.{part_below}
use Rattle.local_blas.proofs.rows.eliminate.Given as goal

abbrev pub invariant-loop-k : goal.invariant-loop-k
invariant-loop-k g l =
    l.dst ≡ with_columns l.fn.dst (part_below l.fn.dst l.from l.j) (eliminated_word g.K.Field.MODULUS (inverse g.K.Field.MODULUS) l.fn.dst l.j (part_entry l.row (whole_part l.row) 0)) l.k
