use Rattle.std.proofs.Common.{◌<◌, ◌-◌, ◌∙◌, ap, sym, subst, arith}
use Rattle.field_core.specs.Residue.{inverse}
use Rattle.run_data.specs.Matrix.{Matrix, cols, entry, AreWords}
use Rattle.run_data.specs.Parts.{part_entry, whole_part}
use Rattle.run_data.proofs.Matrices.{rows-tabulate, cols-tabulate, entry-tabulate}
use Rattle.run_data.proofs.PartLaws.{AreWords-tabulate}
use Rattle.local_blas.proofs.Eliminations.{first_row}
use Rattle.rank_machine.specs.Effect.{area}
use Rattle.rank_machine.specs.Setting.{global_row}
use Rattle.rank_memory.proofs.RowLaws.{from_end, with_eliminated-same}
use Rattle.rank_memory.proofs.kernels.eliminate_below.Goals as goal

pub eliminate-requires-clause-row_rows : goal.eliminate-requires-clause-row_rows
eliminate-requires-clause-row_rows g c = ap (λ (m : Matrix). m.rows) c.in_ok-pivot_row.ensures ∙ rows-tabulate _ _ _ ∙ c.requires.row_rows

pub eliminate-requires-clause-row_columns : goal.eliminate-requires-clause-row_columns
eliminate-requires-clause-row_columns g c = ap cols c.in_ok-pivot_row.ensures ∙ cols-tabulate _ _ _ ∙ c.requires.row_columns

pub eliminate-requires-clause-row_words : goal.eliminate-requires-clause-row_words
eliminate-requires-clause-row_words g c =
    subst (AreWords g.K.Field.MODULUS) (sym c.in_ok-pivot_row.ensures)
    (AreWords-tabulate _ _ _ _ (omega (arith, c.requires.row_words.below 0 0)) (λ r k _ _. c.requires.row_words.below _ _))

pub eliminate-requires-clause-pivot : goal.eliminate-requires-clause-pivot
eliminate-requires-clause-pivot g c = λ h.
    let x = area c.args.x c.args.row.now in
    let e = entry-tabulate (x.r1 - x.r0) (x.c1 - x.c0) (part_entry c.args.row.now x) 0 c.args.j (omega (arith, c.requires.row_rows)) (omega (arith, c.requires.row_columns, c.requires.column)) in
    c.requires.pivot (sym e ∙ sym (ap (λ m. entry m 0 c.args.j) c.in_ok-pivot_row.ensures) ∙ h)

pub returns : goal.returns
returns g c =
    let row = c.args.row.now in
    let x = area c.args.x row in
    let d = c.args.placed.now in
    c.eliminate.ensures
    ∙ with_eliminated-same g.K.Field.MODULUS (inverse g.K.Field.MODULUS) c.args.dst.now _ _ c.args.j c.in_ok-pivot_row.pivot_row (whole_part c.in_ok-pivot_row.pivot_row) row x c.requires.column
    (λ i lt. from_end i c.rows_below-from.result (global_row d c.args.rank i) c.args.above (λ h. omega (arith, c.rows_below-from.ensures.below i h, c.from.ensures))
    (λ h. let k : i < c.rows.result = omega (arith, c.rows.ensures.value, lt) in omega (arith, c.rows_below-from.ensures.above i h k, c.from.ensures)))
    (λ k lt. first_row c.in_ok-pivot_row.pivot_row k ∙ ap (λ m. entry m 0 k) c.in_ok-pivot_row.ensures
    ∙ entry-tabulate (x.r1 - x.r0) (x.c1 - x.c0) (part_entry row x) 0 k (omega (arith, c.requires.row_rows)) (omega (arith, c.requires.row_columns)))
