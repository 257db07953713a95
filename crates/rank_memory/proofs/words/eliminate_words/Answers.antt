use Rattle.std.proofs.Common.{◌≡◌, ◌==◌, ◌&&◌, nat_lt, OnOk, sym, subst}
use Rattle.std.proofs.lemmas.Bool.{and_parts, eqb-true, ltb-true}
use Rattle.field_core.specs.Residue.{inverse}
use Rattle.run_data.specs.Matrix.{cols}
use Rattle.local_blas.specs.Kernels.{with_eliminated}
use Rattle.rank_machine.specs.declared.layout.Layout.{Layout}
use Rattle.rank_machine.specs.Setting.{global_row}
use Rattle.rank_machine.specs.Effect.{area}
use Rattle.rank_machine.specs.Legal.{height, breadth}
use Rattle.script_lines.specs.Lines.{setting_on}
use Rattle.rank_slots.proofs.TestLaws.{in_matrix-member, within}
use Rattle.rank_memory.proofs.words.eliminate_words.Goals as goal

pub eliminate_below-requires-clause-member : goal.eliminate_below-requires-clause-member
eliminate_below-requires-clause-member g c =
    in_matrix-member (setting_on 0 c.args.table.now) c.args.rank c.args.slot c.layout_at-placed.result (sym c.layout_at-placed.ensures.value) c.requires.placed

pub eliminate_below-requires-clause-column : goal.eliminate_below-requires-clause-column
eliminate_below-requires-clause-column g c = ltb-true c.args.j (cols c.args.dst.now) (and_parts ((height (area c.args.x c.args.row.now) == 1) && (breadth (area c.args.x c.args.row.now) == cols c.args.dst.now)) (nat_lt c.args.j (cols c.args.dst.now)) c.requires.shape).1

pub eliminate_below-requires-clause-row_rows : goal.eliminate_below-requires-clause-row_rows
eliminate_below-requires-clause-row_rows g c =
    let h = and_parts ((height (area c.args.x c.args.row.now) == 1) && (breadth (area c.args.x c.args.row.now) == cols c.args.dst.now)) (nat_lt c.args.j (cols c.args.dst.now)) c.requires.shape in
    eqb-true (height (area c.args.x c.args.row.now)) 1 (and_parts (height (area c.args.x c.args.row.now) == 1) (breadth (area c.args.x c.args.row.now) == cols c.args.dst.now) h.0).0

pub eliminate_below-requires-clause-row_columns : goal.eliminate_below-requires-clause-row_columns
eliminate_below-requires-clause-row_columns g c =
    let h = and_parts ((height (area c.args.x c.args.row.now) == 1) && (breadth (area c.args.x c.args.row.now) == cols c.args.dst.now)) (nat_lt c.args.j (cols c.args.dst.now)) c.requires.shape in
    eqb-true (breadth (area c.args.x c.args.row.now)) (cols c.args.dst.now) (and_parts (height (area c.args.x c.args.row.now) == 1) (breadth (area c.args.x c.args.row.now) == cols c.args.dst.now) h.0).1

pub returns : goal.returns
returns g c =
    subst (λ (d : Layout). OnOk c.eliminate_below.result (c.eliminate_below.new.dst ≡ with_eliminated g.K.Field.MODULUS (inverse g.K.Field.MODULUS) c.args.dst.now (λ i. nat_lt c.args.above (global_row d c.args.rank i)) c.args.j c.args.row.now (area c.args.x c.args.row.now)))
    c.layout_at-placed.ensures.value c.eliminate_below.ensures

pub eliminate_below-requires-clause-sound : goal.eliminate_below-requires-clause-sound
eliminate_below-requires-clause-sound g c = c.layout_at-placed.ensures.sound

pub eliminate_below-requires-clause-row_part : goal.eliminate_below-requires-clause-row_part
eliminate_below-requires-clause-row_part g c = within (area c.args.x c.args.row.now) c.args.row.now c.requires.row_in

pub eliminate_below-requires-clause-dst_words : goal.eliminate_below-requires-clause-dst_words
eliminate_below-requires-clause-dst_words g c = c.requires.dst_words

pub eliminate_below-requires-clause-row_words : goal.eliminate_below-requires-clause-row_words
eliminate_below-requires-clause-row_words g c = c.requires.row_words
