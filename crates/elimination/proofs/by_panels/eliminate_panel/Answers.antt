use Rattle.std.proofs.Common.{◌≡◌, ◌+◌, ◌-◌, ◌≤◌, length, refl, sym, ◌∙◌, ap, arith}
use Rattle.field_core.specs.Residue.{inverse}
use Rattle.run_data.specs.Matrix.{cols, tabulate}
use Rattle.serial_model.specs.Elimination.{eliminate_columns}
use Rattle.elimination.specs.Whole.{panel_count, with_rows_exchanged, with_carried, whole_state}
use Rattle.elimination.proofs.ByPanels.{columns_part, cut_is, cut-rows, cut-cols, cut-words, panel_done, panel-words, panel-rows, panel-count, rows_same, within_is, shapes_agree, copy-rows, copy-cols, carried-rows, carried-cols, left-word, right-word, count_is, joined}
use Rattle.elimination.proofs.WholeFits.{panel_ordered, panel_ends, panel_inside, panel_narrow}
use Rattle.elimination.proofs.WholeCarried.{rows_after_exchange, cols_after_exchange}
use Rattle.elimination.proofs.by_panels.eliminate_panel.Goals as goal

pub eliminate_strip-requires-clause-inside : goal.eliminate_strip-requires-clause-inside
eliminate_strip-requires-clause-inside g c =
    let rows : c.in_ok-panel.panel.rows ≡ c.args.a.now.rows = cut-rows c.args.a.now c.in_ok-panel.panel c.args.first (c.args.first + c.min.result) (cut_is c.args.a.now c.in_ok-panel.panel c.columns-own.result c.args.first (c.args.first + c.min.result) c.columns-own.ensures c.in_ok-panel.ensures) in
    omega (arith, c.rows-rows.ensures.value)

pub eliminate_strip-requires-clause-columns : goal.eliminate_strip-requires-clause-columns
eliminate_strip-requires-clause-columns g c =
    let columns : cols c.in_ok-panel.panel ≡ (c.args.first + c.min.result) - c.args.first = cut-cols c.args.a.now c.in_ok-panel.panel c.args.first (c.args.first + c.min.result) (cut_is c.args.a.now c.in_ok-panel.panel c.columns-own.result c.args.first (c.args.first + c.min.result) c.columns-own.ensures c.in_ok-panel.ensures) in
    omega arith

pub eliminate_strip-requires-clause-words : goal.eliminate_strip-requires-clause-words
eliminate_strip-requires-clause-words g c =
    cut-words g.K.Field.MODULUS c.args.a.now c.in_ok-panel.panel c.args.first (c.args.first + c.min.result) c.requires.words (cut_is c.args.a.now c.in_ok-panel.panel c.columns-own.result c.args.first (c.args.first + c.min.result) c.columns-own.ensures c.in_ok-panel.ensures)

pub exchange_rows-requires-clause-inside : goal.exchange_rows-requires-clause-inside
exchange_rows-requires-clause-inside g c =
    let inside : c.args.first + (c.min-2.result - c.args.first) ≤ c.args.a.now.rows = panel_inside c.args.first c.min.result c.min-2.result c.rows-rows.result c.args.a.now.rows c.min-2.ensures c.rows-rows.ensures.value c.requires.rows in
    let left_rows : c.in_ok-left.left.rows ≡ c.args.a.now.rows = cut-rows c.args.a.now c.in_ok-left.left 0 c.args.first (cut_is c.args.a.now c.in_ok-left.left c.columns-before.result 0 c.args.first c.columns-before.ensures c.in_ok-left.ensures) in
    omega arith

pub exchange_rows-requires-clause-list : goal.exchange_rows-requires-clause-list
exchange_rows-requires-clause-list g c =
    let inside : c.args.first + (c.min-2.result - c.args.first) ≤ c.args.a.now.rows = panel_inside c.args.first c.min.result c.min-2.result c.rows-rows.result c.args.a.now.rows c.min-2.ensures c.rows-rows.ensures.value c.requires.rows in
    let narrow : (c.min-2.result - c.args.first) ≤ (c.args.first + c.min.result) - c.args.first = panel_narrow c.args.first c.min.result c.min-2.result c.rows-rows.result c.min-2.ensures in
    let done = panel_done g.K.Field.MODULUS (inverse g.K.Field.MODULUS) c.args.a.now c.in_ok-panel.panel c.eliminate_strip.new.a c.args.pivots.now.items c.eliminate_strip.new.pivots.items c.args.first (c.args.first + c.min.result) (c.min-2.result - c.args.first) c.rows-rows.ensures.shaped c.requires.words c.requires.count (panel_ordered c.args.first c.min.result) narrow inside (cut_is c.args.a.now c.in_ok-panel.panel c.columns-own.result c.args.first (c.args.first + c.min.result) c.columns-own.ensures c.in_ok-panel.ensures) c.in_ok-eliminate_strip.ensures.matrix c.in_ok-eliminate_strip.ensures.list in
    let count : length c.eliminate_strip.new.pivots.items ≡ c.args.first + (c.min-2.result - c.args.first) = panel-count g.K.Field.MODULUS (inverse g.K.Field.MODULUS) c.args.a.now c.eliminate_strip.new.a c.args.pivots.now.items c.eliminate_strip.new.pivots.items c.args.first (c.args.first + c.min.result) (c.min-2.result - c.args.first) c.requires.count inside done in
    let same : length c.deref.result.now ≡ length c.eliminate_strip.new.pivots.items = ap length c.deref.ensures.value in
    omega arith

pub exchange_rows-requires-clause-rows : goal.exchange_rows-requires-clause-rows
exchange_rows-requires-clause-rows g c =
    let inside : c.args.first + (c.min-2.result - c.args.first) ≤ c.args.a.now.rows = panel_inside c.args.first c.min.result c.min-2.result c.rows-rows.result c.args.a.now.rows c.min-2.ensures c.rows-rows.ensures.value c.requires.rows in
    let narrow : (c.min-2.result - c.args.first) ≤ (c.args.first + c.min.result) - c.args.first = panel_narrow c.args.first c.min.result c.min-2.result c.rows-rows.result c.min-2.ensures in
    let done = panel_done g.K.Field.MODULUS (inverse g.K.Field.MODULUS) c.args.a.now c.in_ok-panel.panel c.eliminate_strip.new.a c.args.pivots.now.items c.eliminate_strip.new.pivots.items c.args.first (c.args.first + c.min.result) (c.min-2.result - c.args.first) c.rows-rows.ensures.shaped c.requires.words c.requires.count (panel_ordered c.args.first c.min.result) narrow inside (cut_is c.args.a.now c.in_ok-panel.panel c.columns-own.result c.args.first (c.args.first + c.min.result) c.columns-own.ensures c.in_ok-panel.ensures) c.in_ok-eliminate_strip.ensures.matrix c.in_ok-eliminate_strip.ensures.list in
    let left_rows : c.in_ok-left.left.rows ≡ c.args.a.now.rows = cut-rows c.args.a.now c.in_ok-left.left 0 c.args.first (cut_is c.args.a.now c.in_ok-left.left c.columns-before.result 0 c.args.first c.columns-before.ensures c.in_ok-left.ensures) in
    rows_same c.deref.result.now c.eliminate_strip.new.pivots.items c.args.first (c.min-2.result - c.args.first) c.args.a.now.rows c.in_ok-left.left.rows c.deref.ensures.value left_rows (panel-rows g.K.Field.MODULUS (inverse g.K.Field.MODULUS) c.args.a.now c.eliminate_strip.new.a c.args.pivots.now.items c.eliminate_strip.new.pivots.items c.args.first (c.args.first + c.min.result) (c.min-2.result - c.args.first) c.requires.count inside done)

pub carry-requires-clause-inside : goal.carry-requires-clause-inside
carry-requires-clause-inside g c =
    let inside : c.args.first + (c.min-2.result - c.args.first) ≤ c.args.a.now.rows = panel_inside c.args.first c.min.result c.min-2.result c.rows-rows.result c.args.a.now.rows c.min-2.ensures c.rows-rows.ensures.value c.requires.rows in
    let right_part : c.columns-after.result ≡ columns_part c.args.a.now.rows (c.args.first + c.min.result) (cols c.args.a.now) = c.columns-after.ensures ∙ ap (columns_part c.args.a.now.rows (c.args.first + c.min.result)) c.cols-cols.ensures in
    let right_rows : c.in_ok-right.right.rows ≡ c.args.a.now.rows = cut-rows c.args.a.now c.in_ok-right.right (c.args.first + c.min.result) (cols c.args.a.now) (cut_is c.args.a.now c.in_ok-right.right c.columns-after.result (c.args.first + c.min.result) (cols c.args.a.now) right_part c.in_ok-right.ensures) in
    omega arith

pub carry-requires-clause-panel_rows : goal.carry-requires-clause-panel_rows
carry-requires-clause-panel_rows g c =
    let inside : c.args.first + (c.min-2.result - c.args.first) ≤ c.args.a.now.rows = panel_inside c.args.first c.min.result c.min-2.result c.rows-rows.result c.args.a.now.rows c.min-2.ensures c.rows-rows.ensures.value c.requires.rows in
    let narrow : (c.min-2.result - c.args.first) ≤ (c.args.first + c.min.result) - c.args.first = panel_narrow c.args.first c.min.result c.min-2.result c.rows-rows.result c.min-2.ensures in
    let done = panel_done g.K.Field.MODULUS (inverse g.K.Field.MODULUS) c.args.a.now c.in_ok-panel.panel c.eliminate_strip.new.a c.args.pivots.now.items c.eliminate_strip.new.pivots.items c.args.first (c.args.first + c.min.result) (c.min-2.result - c.args.first) c.rows-rows.ensures.shaped c.requires.words c.requires.count (panel_ordered c.args.first c.min.result) narrow inside (cut_is c.args.a.now c.in_ok-panel.panel c.columns-own.result c.args.first (c.args.first + c.min.result) c.columns-own.ensures c.in_ok-panel.ensures) c.in_ok-eliminate_strip.ensures.matrix c.in_ok-eliminate_strip.ensures.list in
    let right_part : c.columns-after.result ≡ columns_part c.args.a.now.rows (c.args.first + c.min.result) (cols c.args.a.now) = c.columns-after.ensures ∙ ap (columns_part c.args.a.now.rows (c.args.first + c.min.result)) c.cols-cols.ensures in
    let right_rows : c.in_ok-right.right.rows ≡ c.args.a.now.rows = cut-rows c.args.a.now c.in_ok-right.right (c.args.first + c.min.result) (cols c.args.a.now) (cut_is c.args.a.now c.in_ok-right.right c.columns-after.result (c.args.first + c.min.result) (cols c.args.a.now) right_part c.in_ok-right.ensures) in
    done.rows ∙ sym right_rows

pub carry-requires-clause-panel_columns : goal.carry-requires-clause-panel_columns
carry-requires-clause-panel_columns g c =
    let inside : c.args.first + (c.min-2.result - c.args.first) ≤ c.args.a.now.rows = panel_inside c.args.first c.min.result c.min-2.result c.rows-rows.result c.args.a.now.rows c.min-2.ensures c.rows-rows.ensures.value c.requires.rows in
    let narrow : (c.min-2.result - c.args.first) ≤ (c.args.first + c.min.result) - c.args.first = panel_narrow c.args.first c.min.result c.min-2.result c.rows-rows.result c.min-2.ensures in
    let done = panel_done g.K.Field.MODULUS (inverse g.K.Field.MODULUS) c.args.a.now c.in_ok-panel.panel c.eliminate_strip.new.a c.args.pivots.now.items c.eliminate_strip.new.pivots.items c.args.first (c.args.first + c.min.result) (c.min-2.result - c.args.first) c.rows-rows.ensures.shaped c.requires.words c.requires.count (panel_ordered c.args.first c.min.result) narrow inside (cut_is c.args.a.now c.in_ok-panel.panel c.columns-own.result c.args.first (c.args.first + c.min.result) c.columns-own.ensures c.in_ok-panel.ensures) c.in_ok-eliminate_strip.ensures.matrix c.in_ok-eliminate_strip.ensures.list in
    let columns : cols c.eliminate_strip.new.a ≡ (c.args.first + c.min.result) - c.args.first = done.columns in
    omega arith

pub carry-requires-clause-list : goal.carry-requires-clause-list
carry-requires-clause-list g c =
    let inside : c.args.first + (c.min-2.result - c.args.first) ≤ c.args.a.now.rows = panel_inside c.args.first c.min.result c.min-2.result c.rows-rows.result c.args.a.now.rows c.min-2.ensures c.rows-rows.ensures.value c.requires.rows in
    let narrow : (c.min-2.result - c.args.first) ≤ (c.args.first + c.min.result) - c.args.first = panel_narrow c.args.first c.min.result c.min-2.result c.rows-rows.result c.min-2.ensures in
    let done = panel_done g.K.Field.MODULUS (inverse g.K.Field.MODULUS) c.args.a.now c.in_ok-panel.panel c.eliminate_strip.new.a c.args.pivots.now.items c.eliminate_strip.new.pivots.items c.args.first (c.args.first + c.min.result) (c.min-2.result - c.args.first) c.rows-rows.ensures.shaped c.requires.words c.requires.count (panel_ordered c.args.first c.min.result) narrow inside (cut_is c.args.a.now c.in_ok-panel.panel c.columns-own.result c.args.first (c.args.first + c.min.result) c.columns-own.ensures c.in_ok-panel.ensures) c.in_ok-eliminate_strip.ensures.matrix c.in_ok-eliminate_strip.ensures.list in
    let count : length c.eliminate_strip.new.pivots.items ≡ c.args.first + (c.min-2.result - c.args.first) = panel-count g.K.Field.MODULUS (inverse g.K.Field.MODULUS) c.args.a.now c.eliminate_strip.new.a c.args.pivots.now.items c.eliminate_strip.new.pivots.items c.args.first (c.args.first + c.min.result) (c.min-2.result - c.args.first) c.requires.count inside done in
    let same : length c.deref-2.result.now ≡ length c.eliminate_strip.new.pivots.items = ap length c.deref-2.ensures.value in
    omega arith

pub carry-requires-clause-rows : goal.carry-requires-clause-rows
carry-requires-clause-rows g c =
    let inside : c.args.first + (c.min-2.result - c.args.first) ≤ c.args.a.now.rows = panel_inside c.args.first c.min.result c.min-2.result c.rows-rows.result c.args.a.now.rows c.min-2.ensures c.rows-rows.ensures.value c.requires.rows in
    let narrow : (c.min-2.result - c.args.first) ≤ (c.args.first + c.min.result) - c.args.first = panel_narrow c.args.first c.min.result c.min-2.result c.rows-rows.result c.min-2.ensures in
    let done = panel_done g.K.Field.MODULUS (inverse g.K.Field.MODULUS) c.args.a.now c.in_ok-panel.panel c.eliminate_strip.new.a c.args.pivots.now.items c.eliminate_strip.new.pivots.items c.args.first (c.args.first + c.min.result) (c.min-2.result - c.args.first) c.rows-rows.ensures.shaped c.requires.words c.requires.count (panel_ordered c.args.first c.min.result) narrow inside (cut_is c.args.a.now c.in_ok-panel.panel c.columns-own.result c.args.first (c.args.first + c.min.result) c.columns-own.ensures c.in_ok-panel.ensures) c.in_ok-eliminate_strip.ensures.matrix c.in_ok-eliminate_strip.ensures.list in
    let right_part : c.columns-after.result ≡ columns_part c.args.a.now.rows (c.args.first + c.min.result) (cols c.args.a.now) = c.columns-after.ensures ∙ ap (columns_part c.args.a.now.rows (c.args.first + c.min.result)) c.cols-cols.ensures in
    let right_rows : c.in_ok-right.right.rows ≡ c.args.a.now.rows = cut-rows c.args.a.now c.in_ok-right.right (c.args.first + c.min.result) (cols c.args.a.now) (cut_is c.args.a.now c.in_ok-right.right c.columns-after.result (c.args.first + c.min.result) (cols c.args.a.now) right_part c.in_ok-right.ensures) in
    rows_same c.deref-2.result.now c.eliminate_strip.new.pivots.items c.args.first (c.min-2.result - c.args.first) c.args.a.now.rows c.in_ok-right.right.rows c.deref-2.ensures.value right_rows (panel-rows g.K.Field.MODULUS (inverse g.K.Field.MODULUS) c.args.a.now c.eliminate_strip.new.a c.args.pivots.now.items c.eliminate_strip.new.pivots.items c.args.first (c.args.first + c.min.result) (c.min-2.result - c.args.first) c.requires.count inside done)

pub carry-requires-clause-words : goal.carry-requires-clause-words
carry-requires-clause-words g c =
    let right_part : c.columns-after.result ≡ columns_part c.args.a.now.rows (c.args.first + c.min.result) (cols c.args.a.now) = c.columns-after.ensures ∙ ap (columns_part c.args.a.now.rows (c.args.first + c.min.result)) c.cols-cols.ensures in
    cut-words g.K.Field.MODULUS c.args.a.now c.in_ok-right.right (c.args.first + c.min.result) (cols c.args.a.now) c.requires.words (cut_is c.args.a.now c.in_ok-right.right c.columns-after.result (c.args.first + c.min.result) (cols c.args.a.now) right_part c.in_ok-right.ensures)

pub carry-requires-clause-panel_words : goal.carry-requires-clause-panel_words
carry-requires-clause-panel_words g c =
    let inside : c.args.first + (c.min-2.result - c.args.first) ≤ c.args.a.now.rows = panel_inside c.args.first c.min.result c.min-2.result c.rows-rows.result c.args.a.now.rows c.min-2.ensures c.rows-rows.ensures.value c.requires.rows in
    let narrow : (c.min-2.result - c.args.first) ≤ (c.args.first + c.min.result) - c.args.first = panel_narrow c.args.first c.min.result c.min-2.result c.rows-rows.result c.min-2.ensures in
    let done = panel_done g.K.Field.MODULUS (inverse g.K.Field.MODULUS) c.args.a.now c.in_ok-panel.panel c.eliminate_strip.new.a c.args.pivots.now.items c.eliminate_strip.new.pivots.items c.args.first (c.args.first + c.min.result) (c.min-2.result - c.args.first) c.rows-rows.ensures.shaped c.requires.words c.requires.count (panel_ordered c.args.first c.min.result) narrow inside (cut_is c.args.a.now c.in_ok-panel.panel c.columns-own.result c.args.first (c.args.first + c.min.result) c.columns-own.ensures c.in_ok-panel.ensures) c.in_ok-eliminate_strip.ensures.matrix c.in_ok-eliminate_strip.ensures.list in
    panel-words g.K.Field.MODULUS (inverse g.K.Field.MODULUS) c.args.a.now c.eliminate_strip.new.a c.args.pivots.now.items c.eliminate_strip.new.pivots.items c.args.first (c.args.first + c.min.result) (c.min-2.result - c.args.first) c.rows-rows.ensures.shaped c.requires.words c.requires.count inside (omega arith) done

pub put_part-requires-clause-src_part : goal.put_part-requires-clause-src_part
put_part-requires-clause-src_part g c =
    let inside : c.args.first + (c.min-2.result - c.args.first) ≤ c.args.a.now.rows = panel_inside c.args.first c.min.result c.min-2.result c.rows-rows.result c.args.a.now.rows c.min-2.ensures c.rows-rows.ensures.value c.requires.rows in
    let narrow : (c.min-2.result - c.args.first) ≤ (c.args.first + c.min.result) - c.args.first = panel_narrow c.args.first c.min.result c.min-2.result c.rows-rows.result c.min-2.ensures in
    let done = panel_done g.K.Field.MODULUS (inverse g.K.Field.MODULUS) c.args.a.now c.in_ok-panel.panel c.eliminate_strip.new.a c.args.pivots.now.items c.eliminate_strip.new.pivots.items c.args.first (c.args.first + c.min.result) (c.min-2.result - c.args.first) c.rows-rows.ensures.shaped c.requires.words c.requires.count (panel_ordered c.args.first c.min.result) narrow inside (cut_is c.args.a.now c.in_ok-panel.panel c.columns-own.result c.args.first (c.args.first + c.min.result) c.columns-own.ensures c.in_ok-panel.ensures) c.in_ok-eliminate_strip.ensures.matrix c.in_ok-eliminate_strip.ensures.list in
    let columns : cols c.eliminate_strip.new.a ≡ (c.args.first + c.min.result) - c.args.first = done.columns in
    within_is c.columns-all_of_panel.result c.eliminate_strip.new.a.rows 0 ((c.args.first + c.min.result) - c.args.first) c.eliminate_strip.new.a c.columns-all_of_panel.ensures (omega arith) (omega arith) (omega arith)

pub put_part-requires-clause-shape : goal.put_part-requires-clause-shape
put_part-requires-clause-shape g c =
    let inside : c.args.first + (c.min-2.result - c.args.first) ≤ c.args.a.now.rows = panel_inside c.args.first c.min.result c.min-2.result c.rows-rows.result c.args.a.now.rows c.min-2.ensures c.rows-rows.ensures.value c.requires.rows in
    let narrow : (c.min-2.result - c.args.first) ≤ (c.args.first + c.min.result) - c.args.first = panel_narrow c.args.first c.min.result c.min-2.result c.rows-rows.result c.min-2.ensures in
    let done = panel_done g.K.Field.MODULUS (inverse g.K.Field.MODULUS) c.args.a.now c.in_ok-panel.panel c.eliminate_strip.new.a c.args.pivots.now.items c.eliminate_strip.new.pivots.items c.args.first (c.args.first + c.min.result) (c.min-2.result - c.args.first) c.rows-rows.ensures.shaped c.requires.words c.requires.count (panel_ordered c.args.first c.min.result) narrow inside (cut_is c.args.a.now c.in_ok-panel.panel c.columns-own.result c.args.first (c.args.first + c.min.result) c.columns-own.ensures c.in_ok-panel.ensures) c.in_ok-eliminate_strip.ensures.matrix c.in_ok-eliminate_strip.ensures.list in
    shapes_agree c.columns-own.result c.columns-all_of_panel.result c.args.a.now.rows c.eliminate_strip.new.a.rows c.args.first (c.args.first + c.min.result) ((c.args.first + c.min.result) - c.args.first) c.columns-own.ensures c.columns-all_of_panel.ensures (sym done.rows) refl

pub put_part-requires-2-clause-dst_part : goal.put_part-requires-2-clause-dst_part
put_part-requires-2-clause-dst_part g c =
    let rows1 : c.put_part.new.dst.rows ≡ c.args.a.now.rows = copy-rows _ _ _ c.columns-own.result c.columns-all_of_panel.result c.put_part.ensures in
    let cols1 : cols c.put_part.new.dst ≡ cols c.args.a.now = copy-cols _ _ _ c.columns-own.result c.columns-all_of_panel.result c.put_part.ensures in
    within_is c.columns-before.result c.args.a.now.rows 0 c.args.first c.put_part.new.dst c.columns-before.ensures (omega arith) (omega arith) (omega arith)

pub put_part-requires-2-clause-src_part : goal.put_part-requires-2-clause-src_part
put_part-requires-2-clause-src_part g c =
    let left_rows : c.in_ok-left.left.rows ≡ c.args.a.now.rows = cut-rows c.args.a.now c.in_ok-left.left 0 c.args.first (cut_is c.args.a.now c.in_ok-left.left c.columns-before.result 0 c.args.first c.columns-before.ensures c.in_ok-left.ensures) in
    let left_cols : cols c.in_ok-left.left ≡ c.args.first - 0 = cut-cols c.args.a.now c.in_ok-left.left 0 c.args.first (cut_is c.args.a.now c.in_ok-left.left c.columns-before.result 0 c.args.first c.columns-before.ensures c.in_ok-left.ensures) in
    let left_new_rows : c.exchange_rows.new.x.rows ≡ c.in_ok-left.left.rows = rows_after_exchange _ _ _ _ _ c.exchange_rows.ensures in
    let left_new_cols : cols c.exchange_rows.new.x ≡ cols c.in_ok-left.left = cols_after_exchange _ _ _ _ _ c.exchange_rows.ensures in
    within_is c.columns-all_of_left.result c.exchange_rows.new.x.rows 0 c.args.first c.exchange_rows.new.x c.columns-all_of_left.ensures (omega arith) (omega arith) (omega arith)

pub put_part-requires-2-clause-shape : goal.put_part-requires-2-clause-shape
put_part-requires-2-clause-shape g c =
    let left_rows : c.in_ok-left.left.rows ≡ c.args.a.now.rows = cut-rows c.args.a.now c.in_ok-left.left 0 c.args.first (cut_is c.args.a.now c.in_ok-left.left c.columns-before.result 0 c.args.first c.columns-before.ensures c.in_ok-left.ensures) in
    let left_new_rows : c.exchange_rows.new.x.rows ≡ c.in_ok-left.left.rows = rows_after_exchange _ _ _ _ _ c.exchange_rows.ensures in
    let left_new_cols : cols c.exchange_rows.new.x ≡ cols c.in_ok-left.left = cols_after_exchange _ _ _ _ _ c.exchange_rows.ensures in
    shapes_agree c.columns-before.result c.columns-all_of_left.result c.args.a.now.rows c.exchange_rows.new.x.rows 0 c.args.first c.args.first c.columns-before.ensures c.columns-all_of_left.ensures (omega arith) (omega arith)

pub put_part-requires-3-clause-dst_part : goal.put_part-requires-3-clause-dst_part
put_part-requires-3-clause-dst_part g c =
    let rows1 : c.put_part.new.dst.rows ≡ c.args.a.now.rows = copy-rows _ _ _ c.columns-own.result c.columns-all_of_panel.result c.put_part.ensures in
    let cols1 : cols c.put_part.new.dst ≡ cols c.args.a.now = copy-cols _ _ _ c.columns-own.result c.columns-all_of_panel.result c.put_part.ensures in
    let rows2 : c.put_part-2.new.dst.rows ≡ c.put_part.new.dst.rows = copy-rows _ _ _ c.columns-before.result c.columns-all_of_left.result c.put_part-2.ensures in
    let cols2 : cols c.put_part-2.new.dst ≡ cols c.put_part.new.dst = copy-cols _ _ _ c.columns-before.result c.columns-all_of_left.result c.put_part-2.ensures in
    within_is c.columns-after.result c.args.a.now.rows (c.args.first + c.min.result) c.cols-cols.result c.put_part-2.new.dst c.columns-after.ensures (omega arith) (omega arith) (omega (arith, c.cols-cols.ensures))

pub put_part-requires-3-clause-src_part : goal.put_part-requires-3-clause-src_part
put_part-requires-3-clause-src_part g c =
    let right_part : c.columns-after.result ≡ columns_part c.args.a.now.rows (c.args.first + c.min.result) (cols c.args.a.now) = c.columns-after.ensures ∙ ap (columns_part c.args.a.now.rows (c.args.first + c.min.result)) c.cols-cols.ensures in
    let right_rows : c.in_ok-right.right.rows ≡ c.args.a.now.rows = cut-rows c.args.a.now c.in_ok-right.right (c.args.first + c.min.result) (cols c.args.a.now) (cut_is c.args.a.now c.in_ok-right.right c.columns-after.result (c.args.first + c.min.result) (cols c.args.a.now) right_part c.in_ok-right.ensures) in
    let right_cols : cols c.in_ok-right.right ≡ cols c.args.a.now - (c.args.first + c.min.result) = cut-cols c.args.a.now c.in_ok-right.right (c.args.first + c.min.result) (cols c.args.a.now) (cut_is c.args.a.now c.in_ok-right.right c.columns-after.result (c.args.first + c.min.result) (cols c.args.a.now) right_part c.in_ok-right.ensures) in
    let right_new_rows : c.carry.new.x.rows ≡ c.in_ok-right.right.rows = carried-rows _ _ _ _ _ _ _ _ c.in_ok-carry.ensures in
    let right_new_cols : cols c.carry.new.x ≡ cols c.in_ok-right.right = carried-cols _ _ _ _ _ _ _ _ c.in_ok-carry.ensures in
    within_is c.columns-all_of_right.result c.carry.new.x.rows 0 (c.cols-cols.result - (c.args.first + c.min.result)) c.carry.new.x c.columns-all_of_right.ensures (omega arith) (omega arith) (omega (arith, c.cols-cols.ensures))

pub put_part-requires-3-clause-shape : goal.put_part-requires-3-clause-shape
put_part-requires-3-clause-shape g c =
    let right_part : c.columns-after.result ≡ columns_part c.args.a.now.rows (c.args.first + c.min.result) (cols c.args.a.now) = c.columns-after.ensures ∙ ap (columns_part c.args.a.now.rows (c.args.first + c.min.result)) c.cols-cols.ensures in
    let right_rows : c.in_ok-right.right.rows ≡ c.args.a.now.rows = cut-rows c.args.a.now c.in_ok-right.right (c.args.first + c.min.result) (cols c.args.a.now) (cut_is c.args.a.now c.in_ok-right.right c.columns-after.result (c.args.first + c.min.result) (cols c.args.a.now) right_part c.in_ok-right.ensures) in
    let right_new_rows : c.carry.new.x.rows ≡ c.in_ok-right.right.rows = carried-rows _ _ _ _ _ _ _ _ c.in_ok-carry.ensures in
    let right_new_cols : cols c.carry.new.x ≡ cols c.in_ok-right.right = carried-cols _ _ _ _ _ _ _ _ c.in_ok-carry.ensures in
    shapes_agree c.columns-after.result c.columns-all_of_right.result c.args.a.now.rows c.carry.new.x.rows (c.args.first + c.min.result) c.cols-cols.result (c.cols-cols.result - (c.args.first + c.min.result)) c.columns-after.ensures c.columns-all_of_right.ensures (omega arith) refl

pub returns-clause-list : goal.returns-clause-list
returns-clause-list g c =
    let inside : c.args.first + (c.min-2.result - c.args.first) ≤ c.args.a.now.rows = panel_inside c.args.first c.min.result c.min-2.result c.rows-rows.result c.args.a.now.rows c.min-2.ensures c.rows-rows.ensures.value c.requires.rows in
    let narrow : (c.min-2.result - c.args.first) ≤ (c.args.first + c.min.result) - c.args.first = panel_narrow c.args.first c.min.result c.min-2.result c.rows-rows.result c.min-2.ensures in
    let done = panel_done g.K.Field.MODULUS (inverse g.K.Field.MODULUS) c.args.a.now c.in_ok-panel.panel c.eliminate_strip.new.a c.args.pivots.now.items c.eliminate_strip.new.pivots.items c.args.first (c.args.first + c.min.result) (c.min-2.result - c.args.first) c.rows-rows.ensures.shaped c.requires.words c.requires.count (panel_ordered c.args.first c.min.result) narrow inside (cut_is c.args.a.now c.in_ok-panel.panel c.columns-own.result c.args.first (c.args.first + c.min.result) c.columns-own.ensures c.in_ok-panel.ensures) c.in_ok-eliminate_strip.ensures.matrix c.in_ok-eliminate_strip.ensures.list in
    let count : (c.min-2.result - c.args.first) ≡ panel_count c.args.a.now c.args.first c.args.nb = count_is c.args.a.now.rows (cols c.args.a.now) c.args.first c.args.nb (c.args.first + c.min.result) (c.min-2.result - c.args.first) c.requires.rows c.requires.columns (omega (arith, c.cols-cols.ensures)) (omega (arith, c.rows-rows.ensures.value)) in
    done.pivots ∙ ap (λ n. (eliminate_columns g.K.Field.MODULUS (inverse g.K.Field.MODULUS) c.args.a.now.rows c.args.first n (whole_state c.args.a.now c.args.pivots.now.items)).pivots) count

pub returns-clause-matrix : goal.returns-clause-matrix
returns-clause-matrix g c =
    let inside : c.args.first + (c.min-2.result - c.args.first) ≤ c.args.a.now.rows = panel_inside c.args.first c.min.result c.min-2.result c.rows-rows.result c.args.a.now.rows c.min-2.ensures c.rows-rows.ensures.value c.requires.rows in
    let narrow : (c.min-2.result - c.args.first) ≤ (c.args.first + c.min.result) - c.args.first = panel_narrow c.args.first c.min.result c.min-2.result c.rows-rows.result c.min-2.ensures in
    let done = panel_done g.K.Field.MODULUS (inverse g.K.Field.MODULUS) c.args.a.now c.in_ok-panel.panel c.eliminate_strip.new.a c.args.pivots.now.items c.eliminate_strip.new.pivots.items c.args.first (c.args.first + c.min.result) (c.min-2.result - c.args.first) c.rows-rows.ensures.shaped c.requires.words c.requires.count (panel_ordered c.args.first c.min.result) narrow inside (cut_is c.args.a.now c.in_ok-panel.panel c.columns-own.result c.args.first (c.args.first + c.min.result) c.columns-own.ensures c.in_ok-panel.ensures) c.in_ok-eliminate_strip.ensures.matrix c.in_ok-eliminate_strip.ensures.list in
    let count : (c.min-2.result - c.args.first) ≡ panel_count c.args.a.now c.args.first c.args.nb = count_is c.args.a.now.rows (cols c.args.a.now) c.args.first c.args.nb (c.args.first + c.min.result) (c.min-2.result - c.args.first) c.requires.rows c.requires.columns (omega (arith, c.cols-cols.ensures)) (omega (arith, c.rows-rows.ensures.value)) in
    let right_part : c.columns-after.result ≡ columns_part c.args.a.now.rows (c.args.first + c.min.result) (cols c.args.a.now) = c.columns-after.ensures ∙ ap (columns_part c.args.a.now.rows (c.args.first + c.min.result)) c.cols-cols.ensures in
    let left_made : c.exchange_rows.new.x ≡ with_rows_exchanged c.in_ok-left.left c.eliminate_strip.new.pivots.items c.args.first (c.min-2.result - c.args.first) = c.exchange_rows.ensures ∙ ap (λ v. with_rows_exchanged c.in_ok-left.left v c.args.first (c.min-2.result - c.args.first)) c.deref.ensures.value in
    let right_made : c.carry.new.x ≡ with_carried g.K.Field.MODULUS (inverse g.K.Field.MODULUS) c.in_ok-right.right c.eliminate_strip.new.a c.eliminate_strip.new.pivots.items c.args.first (c.min-2.result - c.args.first) = c.in_ok-carry.ensures ∙ ap (λ v. with_carried g.K.Field.MODULUS (inverse g.K.Field.MODULUS) c.in_ok-right.right c.eliminate_strip.new.a v c.args.first (c.min-2.result - c.args.first)) c.deref-2.ensures.value in
    let all_right : c.columns-all_of_right.result ≡ columns_part c.carry.new.x.rows 0 (cols c.args.a.now - (c.args.first + c.min.result)) = c.columns-all_of_right.ensures ∙ ap (λ k. columns_part c.carry.new.x.rows 0 (k - (c.args.first + c.min.result))) c.cols-cols.ensures in
    let ends : (c.args.first + c.min.result) ≤ cols c.args.a.now = panel_ends c.args.first c.min.result c.args.nb c.cols-cols.result (cols c.args.a.now) c.min.ensures c.cols-cols.ensures c.requires.columns in
    joined c.args.a.now c.eliminate_strip.new.a c.exchange_rows.new.x c.carry.new.x c.put_part.new.dst c.put_part-2.new.dst c.put_part-3.new.dst c.columns-own.result c.columns-before.result c.columns-after.result c.columns-all_of_panel.result c.columns-all_of_left.result c.columns-all_of_right.result c.args.first (c.args.first + c.min.result) c.eliminate_strip.new.a.rows c.exchange_rows.new.x.rows c.carry.new.x.rows (eliminate_columns g.K.Field.MODULUS (inverse g.K.Field.MODULUS) c.args.a.now.rows c.args.first (c.min-2.result - c.args.first) (whole_state c.args.a.now c.args.pivots.now.items)).words (omega arith) ends c.columns-own.ensures c.columns-before.ensures right_part c.columns-all_of_panel.ensures c.columns-all_of_left.ensures all_right c.put_part.ensures c.put_part-2.ensures c.put_part-3.ensures
    (λ i k hi h1 h2. done.words i k h1 h2)
    (λ i k hi hk. left-word g.K.Field.MODULUS (inverse g.K.Field.MODULUS) c.args.a.now c.eliminate_strip.new.a c.in_ok-left.left c.exchange_rows.new.x c.args.pivots.now.items c.eliminate_strip.new.pivots.items c.args.first (c.args.first + c.min.result) (c.min-2.result - c.args.first) i k c.rows-rows.ensures.shaped c.requires.words c.requires.count inside done (cut_is c.args.a.now c.in_ok-left.left c.columns-before.result 0 c.args.first c.columns-before.ensures c.in_ok-left.ensures) left_made hi hk)
    (λ i k hi h1 h2. right-word g.K.Field.MODULUS (inverse g.K.Field.MODULUS) c.args.a.now c.eliminate_strip.new.a c.in_ok-right.right c.carry.new.x c.args.pivots.now.items c.eliminate_strip.new.pivots.items c.args.first (c.args.first + c.min.result) (c.min-2.result - c.args.first) i k c.rows-rows.ensures.shaped c.requires.words c.requires.count inside (omega arith) narrow done (cut_is c.args.a.now c.in_ok-right.right c.columns-after.result (c.args.first + c.min.result) (cols c.args.a.now) right_part c.in_ok-right.ensures) right_made hi h1 h2)
    ∙ ap (λ n. tabulate c.args.a.now.rows (cols c.args.a.now) (eliminate_columns g.K.Field.MODULUS (inverse g.K.Field.MODULUS) c.args.a.now.rows c.args.first n (whole_state c.args.a.now c.args.pivots.now.items)).words) count
