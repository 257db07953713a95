use Rattle.std.proofs.Common.{◌∙◌, sym, arith}
use Rattle.field_core.specs.Residue.{inverse}
use Rattle.run_data.specs.Parts.{part_entry, whole_part}
use Rattle.run_data.proofs.Columns.{columns_end, filled_within, placed_within, AreWords-columns}
use Rattle.local_blas.proofs.Eliminations.{first_row, eliminated_word-below, eliminate_starts, eliminate_goes_on, with_eliminated_is}
use Rattle.local_blas.proofs.rows.eliminate.Goals as goal

pub scale_column-requires-clause-dst_part : goal.scale_column-requires-clause-dst_part
scale_column-requires-clause-dst_part g c = placed_within _ _ _ _ _ _ c.column_of.ensures (omega arith) (omega arith) (omega arith) (omega arith)

pub loop-k-init : goal.loop-k-init
loop-k-init g c =
    eliminate_starts g.K.Field.MODULUS (inverse g.K.Field.MODULUS) _ _ _ _ (part_entry c.args.row.now (whole_part c.args.row.now) 0) _ _ c.rows.ensures.shaped c.requires.from c.requires.column
    (c.get.ensures ∙ sym (first_row _ _)) c.inv-inverse.ensures.value (rw (c.column_of.ensures, c.rows.ensures.value) at c.scale_column.ensures)

pub eliminate_column-requires-clause-part : goal.eliminate_column-requires-clause-part
eliminate_column-requires-clause-part g c = filled_within _ _ _ _ _ _ c.loop-k.invariant (placed_within _ _ _ _ _ _ c.column_of-in-loop-k.ensures (omega arith) (omega arith) (omega arith) (omega arith))

pub eliminate_column-requires-clause-words : goal.eliminate_column-requires-clause-words
eliminate_column-requires-clause-words g c =
    AreWords-columns _ _ _ _ _ _ c.loop-k.invariant (omega (arith, g.met.K.Field.at_least)) c.requires.dst_words
    (λ i k. eliminated_word-below g.K.Field.MODULUS (inverse g.K.Field.MODULUS) c.args.dst.now c.args.j (part_entry c.args.row.now (whole_part c.args.row.now) 0) i k (omega (arith, g.met.K.Field.at_least)))

pub loop-k-preserved : goal.loop-k-preserved
loop-k-preserved g c =
    eliminate_goes_on g.K.Field.MODULUS (inverse g.K.Field.MODULUS) _ _ _ _ _ _ (part_entry c.args.row.now (whole_part c.args.row.now) 0) _ _ c.requires.from (omega arith) (omega arith)
    (rw c.get-in-loop-k.ensures (c.requires.row_words.below 0 c.loop-k.k)) (c.get-in-loop-k.ensures ∙ sym (first_row _ _)) c.neg-negative.ensures c.loop-k.invariant
    (rw (c.column_of-in-loop-k.ensures, c.rows.ensures.value) at c.eliminate_column.ensures)

pub returns : goal.returns
returns g c =
    columns_end _ _ _ _ _ c.loop-k.invariant (omega arith)
    ∙ with_eliminated_is g.K.Field.MODULUS (inverse g.K.Field.MODULUS) c.args.dst.now c.args.from c.args.j c.args.row.now (whole_part c.args.row.now)
