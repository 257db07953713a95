use Rattle.std.proofs.Common.{◌≡◌, ◌+◌, ◌-◌, ◌≤◌, ◌/◌, length, sym, ◌∙◌, ap, arith}
use Rattle.field_core.specs.Residue.{inverse}
use Rattle.run_data.specs.Matrix.{cols}
use Rattle.elimination.specs.Whole.{cut_columns}
use Rattle.elimination.proofs.Pieces.{piece_words, put-rows, put-cols}
use Rattle.elimination.proofs.ByHalves.{IsStrip, half_strip, ready_before, ready_between, left_cut, right_cut, left_done, left_list, right_carried, right_done, right_list, left_exchanged, halves_joined, list_joined, left_count, left_rows, right_count, right_rows}
use Rattle.elimination.proofs.whole.+eliminate_strip.Goals as goal

pub eliminate_strip-requires : goal.eliminate_strip-requires
eliminate_strip-requires g t c κs within =
    let strip : IsStrip g.K.Field.MODULUS c.args.first (c.args.n / 2) c.args.a.now c.args.pivots.now.items = half_strip g.K.Field.MODULUS c.args.first c.args.n c.args.a.now c.args.pivots.now.items c.rows-shaped.ensures.shaped c.requires.words c.requires.count c.requires.inside c.requires.columns in
    let left0 = left_cut g.K.Field.MODULUS c.args.first (c.args.n / 2) c.args.a.now c.in_ok-left.left c.args.pivots.now.items strip c.in_ok-left.ensures in
    let rows : c.in_ok-left.left.rows ≡ c.args.a.now.rows = left0.rows in
    let columns : cols c.in_ok-left.left ≡ c.args.first + (c.args.n / 2) - c.args.first = left0.columns in
    (omega (arith, c.decreases, c.if-n-le-NARROW.false), (within, (omega (arith, c.requires.inside), (omega arith, (c.requires.count, piece_words _ _ _ _ _ _ _ (ready_before g.K.Field.MODULUS c.args.first (c.args.n / 2) c.args.a.now c.args.pivots.now.items strip) left0)))))

pub carry-requires-clause-inside : goal.carry-requires-clause-inside
carry-requires-clause-inside g t c =
    let strip : IsStrip g.K.Field.MODULUS c.args.first (c.args.n / 2) c.args.a.now c.args.pivots.now.items = half_strip g.K.Field.MODULUS c.args.first c.args.n c.args.a.now c.args.pivots.now.items c.rows-shaped.ensures.shaped c.requires.words c.requires.count c.requires.inside c.requires.columns in
    let cut : c.in_ok-right.right ≡ cut_columns c.args.a.now (c.args.n / 2) (cols c.args.a.now) = c.in_ok-right.ensures ∙ ap (cut_columns c.args.a.now (c.args.n / 2)) c.cols-end.ensures in
    let right0 = right_cut g.K.Field.MODULUS c.args.first (c.args.n / 2) c.args.a.now c.in_ok-right.right c.args.pivots.now.items strip cut in
    let rows : c.in_ok-right.right.rows ≡ c.args.a.now.rows = right0.rows in
    omega (arith, c.requires.inside)

pub carry-requires-clause-panel_rows : goal.carry-requires-clause-panel_rows
carry-requires-clause-panel_rows g t c =
    let strip : IsStrip g.K.Field.MODULUS c.args.first (c.args.n / 2) c.args.a.now c.args.pivots.now.items = half_strip g.K.Field.MODULUS c.args.first c.args.n c.args.a.now c.args.pivots.now.items c.rows-shaped.ensures.shaped c.requires.words c.requires.count c.requires.inside c.requires.columns in
    let cut : c.in_ok-right.right ≡ cut_columns c.args.a.now (c.args.n / 2) (cols c.args.a.now) = c.in_ok-right.ensures ∙ ap (cut_columns c.args.a.now (c.args.n / 2)) c.cols-end.ensures in
    let right0 = right_cut g.K.Field.MODULUS c.args.first (c.args.n / 2) c.args.a.now c.in_ok-right.right c.args.pivots.now.items strip cut in
    let left1 = left_done g.K.Field.MODULUS (inverse g.K.Field.MODULUS) c.args.first (c.args.n / 2) c.args.a.now c.in_ok-left.left c.eliminate_strip.new.a c.args.pivots.now.items strip c.in_ok-left.ensures c.in_ok-eliminate_strip.ensures.matrix in
    left1.rows ∙ sym right0.rows

pub carry-requires-clause-panel_columns : goal.carry-requires-clause-panel_columns
carry-requires-clause-panel_columns g t c =
    let strip : IsStrip g.K.Field.MODULUS c.args.first (c.args.n / 2) c.args.a.now c.args.pivots.now.items = half_strip g.K.Field.MODULUS c.args.first c.args.n c.args.a.now c.args.pivots.now.items c.rows-shaped.ensures.shaped c.requires.words c.requires.count c.requires.inside c.requires.columns in
    let left1 = left_done g.K.Field.MODULUS (inverse g.K.Field.MODULUS) c.args.first (c.args.n / 2) c.args.a.now c.in_ok-left.left c.eliminate_strip.new.a c.args.pivots.now.items strip c.in_ok-left.ensures c.in_ok-eliminate_strip.ensures.matrix in
    let columns : cols c.eliminate_strip.new.a ≡ c.args.first + (c.args.n / 2) - c.args.first = left1.columns in
    omega arith

pub carry-requires-clause-list : goal.carry-requires-clause-list
carry-requires-clause-list g t c =
    let strip : IsStrip g.K.Field.MODULUS c.args.first (c.args.n / 2) c.args.a.now c.args.pivots.now.items = half_strip g.K.Field.MODULUS c.args.first c.args.n c.args.a.now c.args.pivots.now.items c.rows-shaped.ensures.shaped c.requires.words c.requires.count c.requires.inside c.requires.columns in
    let list1 = left_list g.K.Field.MODULUS (inverse g.K.Field.MODULUS) c.args.first (c.args.n / 2) c.args.a.now c.in_ok-left.left c.args.pivots.now.items c.eliminate_strip.new.pivots.items strip c.in_ok-left.ensures c.in_ok-eliminate_strip.ensures.list in
    let count : length c.eliminate_strip.new.pivots.items ≡ c.args.first + (c.args.n / 2) = left_count g.K.Field.MODULUS (inverse g.K.Field.MODULUS) c.args.first (c.args.n / 2) c.args.a.now c.args.pivots.now.items c.eliminate_strip.new.pivots.items strip list1 in
    let same : length c.deref.result.now ≡ length c.eliminate_strip.new.pivots.items = ap length c.deref.ensures.value in
    omega arith

pub carry-requires-clause-rows : goal.carry-requires-clause-rows
carry-requires-clause-rows g t c =
    let strip : IsStrip g.K.Field.MODULUS c.args.first (c.args.n / 2) c.args.a.now c.args.pivots.now.items = half_strip g.K.Field.MODULUS c.args.first c.args.n c.args.a.now c.args.pivots.now.items c.rows-shaped.ensures.shaped c.requires.words c.requires.count c.requires.inside c.requires.columns in
    let cut : c.in_ok-right.right ≡ cut_columns c.args.a.now (c.args.n / 2) (cols c.args.a.now) = c.in_ok-right.ensures ∙ ap (cut_columns c.args.a.now (c.args.n / 2)) c.cols-end.ensures in
    let right0 = right_cut g.K.Field.MODULUS c.args.first (c.args.n / 2) c.args.a.now c.in_ok-right.right c.args.pivots.now.items strip cut in
    let list1 = left_list g.K.Field.MODULUS (inverse g.K.Field.MODULUS) c.args.first (c.args.n / 2) c.args.a.now c.in_ok-left.left c.args.pivots.now.items c.eliminate_strip.new.pivots.items strip c.in_ok-left.ensures c.in_ok-eliminate_strip.ensures.list in
    left_rows g.K.Field.MODULUS (inverse g.K.Field.MODULUS) c.args.first (c.args.n / 2) c.in_ok-right.right.rows c.args.a.now c.args.pivots.now.items c.eliminate_strip.new.pivots.items c.deref.result.now strip list1 c.deref.ensures.value right0.rows

pub carry-requires-clause-words : goal.carry-requires-clause-words
carry-requires-clause-words g t c =
    let strip : IsStrip g.K.Field.MODULUS c.args.first (c.args.n / 2) c.args.a.now c.args.pivots.now.items = half_strip g.K.Field.MODULUS c.args.first c.args.n c.args.a.now c.args.pivots.now.items c.rows-shaped.ensures.shaped c.requires.words c.requires.count c.requires.inside c.requires.columns in
    let cut : c.in_ok-right.right ≡ cut_columns c.args.a.now (c.args.n / 2) (cols c.args.a.now) = c.in_ok-right.ensures ∙ ap (cut_columns c.args.a.now (c.args.n / 2)) c.cols-end.ensures in
    let right0 = right_cut g.K.Field.MODULUS c.args.first (c.args.n / 2) c.args.a.now c.in_ok-right.right c.args.pivots.now.items strip cut in
    piece_words _ _ _ _ _ _ _ (ready_before g.K.Field.MODULUS c.args.first (c.args.n / 2) c.args.a.now c.args.pivots.now.items strip) right0

pub carry-requires-clause-panel_words : goal.carry-requires-clause-panel_words
carry-requires-clause-panel_words g t c =
    let strip : IsStrip g.K.Field.MODULUS c.args.first (c.args.n / 2) c.args.a.now c.args.pivots.now.items = half_strip g.K.Field.MODULUS c.args.first c.args.n c.args.a.now c.args.pivots.now.items c.rows-shaped.ensures.shaped c.requires.words c.requires.count c.requires.inside c.requires.columns in
    let left1 = left_done g.K.Field.MODULUS (inverse g.K.Field.MODULUS) c.args.first (c.args.n / 2) c.args.a.now c.in_ok-left.left c.eliminate_strip.new.a c.args.pivots.now.items strip c.in_ok-left.ensures c.in_ok-eliminate_strip.ensures.matrix in
    piece_words _ _ _ _ _ _ _ (ready_between g.K.Field.MODULUS (inverse g.K.Field.MODULUS) c.args.first (c.args.n / 2) c.args.a.now c.args.pivots.now.items strip) left1

pub eliminate_strip-requires-2 : goal.eliminate_strip-requires-2
eliminate_strip-requires-2 g t c κs within =
    let strip : IsStrip g.K.Field.MODULUS c.args.first (c.args.n / 2) c.args.a.now c.args.pivots.now.items = half_strip g.K.Field.MODULUS c.args.first c.args.n c.args.a.now c.args.pivots.now.items c.rows-shaped.ensures.shaped c.requires.words c.requires.count c.requires.inside c.requires.columns in
    let cut : c.in_ok-right.right ≡ cut_columns c.args.a.now (c.args.n / 2) (cols c.args.a.now) = c.in_ok-right.ensures ∙ ap (cut_columns c.args.a.now (c.args.n / 2)) c.cols-end.ensures in
    let left1 = left_done g.K.Field.MODULUS (inverse g.K.Field.MODULUS) c.args.first (c.args.n / 2) c.args.a.now c.in_ok-left.left c.eliminate_strip.new.a c.args.pivots.now.items strip c.in_ok-left.ensures c.in_ok-eliminate_strip.ensures.matrix in
    let list1 = left_list g.K.Field.MODULUS (inverse g.K.Field.MODULUS) c.args.first (c.args.n / 2) c.args.a.now c.in_ok-left.left c.args.pivots.now.items c.eliminate_strip.new.pivots.items strip c.in_ok-left.ensures c.in_ok-eliminate_strip.ensures.list in
    let right1 = right_carried g.K.Field.MODULUS (inverse g.K.Field.MODULUS) c.args.first (c.args.n / 2) c.args.a.now c.eliminate_strip.new.a c.in_ok-right.right c.carry.new.x c.args.pivots.now.items c.eliminate_strip.new.pivots.items c.deref.result.now strip left1 list1 c.deref.ensures.value cut c.in_ok-carry.ensures in
    let rows : c.carry.new.x.rows ≡ c.args.a.now.rows = right1.rows in
    let columns : cols c.carry.new.x ≡ c.args.first + cols c.args.a.now - (c.args.first + (c.args.n / 2)) = right1.columns in
    (omega (arith, c.decreases, c.if-n-le-NARROW.false), (within, (omega (arith, c.requires.inside), (omega (arith, c.requires.columns), (left_count g.K.Field.MODULUS (inverse g.K.Field.MODULUS) c.args.first (c.args.n / 2) c.args.a.now c.args.pivots.now.items c.eliminate_strip.new.pivots.items strip list1, piece_words _ _ _ _ _ _ _ (ready_between g.K.Field.MODULUS (inverse g.K.Field.MODULUS) c.args.first (c.args.n / 2) c.args.a.now c.args.pivots.now.items strip) right1)))))

pub exchange_rows-requires-clause-inside : goal.exchange_rows-requires-clause-inside
exchange_rows-requires-clause-inside g t c =
    let strip : IsStrip g.K.Field.MODULUS c.args.first (c.args.n / 2) c.args.a.now c.args.pivots.now.items = half_strip g.K.Field.MODULUS c.args.first c.args.n c.args.a.now c.args.pivots.now.items c.rows-shaped.ensures.shaped c.requires.words c.requires.count c.requires.inside c.requires.columns in
    let left1 = left_done g.K.Field.MODULUS (inverse g.K.Field.MODULUS) c.args.first (c.args.n / 2) c.args.a.now c.in_ok-left.left c.eliminate_strip.new.a c.args.pivots.now.items strip c.in_ok-left.ensures c.in_ok-eliminate_strip.ensures.matrix in
    let rows : c.eliminate_strip.new.a.rows ≡ c.args.a.now.rows = left1.rows in
    omega (arith, c.requires.inside)

pub exchange_rows-requires-clause-list : goal.exchange_rows-requires-clause-list
exchange_rows-requires-clause-list g t c =
    let strip : IsStrip g.K.Field.MODULUS c.args.first (c.args.n / 2) c.args.a.now c.args.pivots.now.items = half_strip g.K.Field.MODULUS c.args.first c.args.n c.args.a.now c.args.pivots.now.items c.rows-shaped.ensures.shaped c.requires.words c.requires.count c.requires.inside c.requires.columns in
    let rest : c.args.first + (c.args.n / 2) + (c.args.n - c.args.n / 2) ≤ c.args.a.now.rows = omega (arith, c.requires.inside) in
    let narrow : (c.args.n / 2) + (c.args.n - c.args.n / 2) ≤ cols c.args.a.now = omega (arith, c.requires.columns) in
    let cut : c.in_ok-right.right ≡ cut_columns c.args.a.now (c.args.n / 2) (cols c.args.a.now) = c.in_ok-right.ensures ∙ ap (cut_columns c.args.a.now (c.args.n / 2)) c.cols-end.ensures in
    let left1 = left_done g.K.Field.MODULUS (inverse g.K.Field.MODULUS) c.args.first (c.args.n / 2) c.args.a.now c.in_ok-left.left c.eliminate_strip.new.a c.args.pivots.now.items strip c.in_ok-left.ensures c.in_ok-eliminate_strip.ensures.matrix in
    let list1 = left_list g.K.Field.MODULUS (inverse g.K.Field.MODULUS) c.args.first (c.args.n / 2) c.args.a.now c.in_ok-left.left c.args.pivots.now.items c.eliminate_strip.new.pivots.items strip c.in_ok-left.ensures c.in_ok-eliminate_strip.ensures.list in
    let right1 = right_carried g.K.Field.MODULUS (inverse g.K.Field.MODULUS) c.args.first (c.args.n / 2) c.args.a.now c.eliminate_strip.new.a c.in_ok-right.right c.carry.new.x c.args.pivots.now.items c.eliminate_strip.new.pivots.items c.deref.result.now strip left1 list1 c.deref.ensures.value cut c.in_ok-carry.ensures in
    let list2 = right_list g.K.Field.MODULUS (inverse g.K.Field.MODULUS) c.args.first (c.args.n / 2) (c.args.n - c.args.n / 2) c.args.a.now c.carry.new.x c.args.pivots.now.items c.eliminate_strip.new.pivots.items c.eliminate_strip-2.new.pivots.items narrow right1 list1 c.in_ok-eliminate_strip-2.ensures.list in
    let count : length c.eliminate_strip-2.new.pivots.items ≡ c.args.first + (c.args.n / 2) + (c.args.n - c.args.n / 2) = right_count g.K.Field.MODULUS (inverse g.K.Field.MODULUS) c.args.first (c.args.n / 2) (c.args.n - c.args.n / 2) c.args.a.now c.args.pivots.now.items c.eliminate_strip-2.new.pivots.items strip rest list2 in
    let same : length c.deref-2.result.now ≡ length c.eliminate_strip-2.new.pivots.items = ap length c.deref-2.ensures.value in
    omega arith

pub exchange_rows-requires-clause-rows : goal.exchange_rows-requires-clause-rows
exchange_rows-requires-clause-rows g t c =
    let strip : IsStrip g.K.Field.MODULUS c.args.first (c.args.n / 2) c.args.a.now c.args.pivots.now.items = half_strip g.K.Field.MODULUS c.args.first c.args.n c.args.a.now c.args.pivots.now.items c.rows-shaped.ensures.shaped c.requires.words c.requires.count c.requires.inside c.requires.columns in
    let rest : c.args.first + (c.args.n / 2) + (c.args.n - c.args.n / 2) ≤ c.args.a.now.rows = omega (arith, c.requires.inside) in
    let narrow : (c.args.n / 2) + (c.args.n - c.args.n / 2) ≤ cols c.args.a.now = omega (arith, c.requires.columns) in
    let cut : c.in_ok-right.right ≡ cut_columns c.args.a.now (c.args.n / 2) (cols c.args.a.now) = c.in_ok-right.ensures ∙ ap (cut_columns c.args.a.now (c.args.n / 2)) c.cols-end.ensures in
    let left1 = left_done g.K.Field.MODULUS (inverse g.K.Field.MODULUS) c.args.first (c.args.n / 2) c.args.a.now c.in_ok-left.left c.eliminate_strip.new.a c.args.pivots.now.items strip c.in_ok-left.ensures c.in_ok-eliminate_strip.ensures.matrix in
    let list1 = left_list g.K.Field.MODULUS (inverse g.K.Field.MODULUS) c.args.first (c.args.n / 2) c.args.a.now c.in_ok-left.left c.args.pivots.now.items c.eliminate_strip.new.pivots.items strip c.in_ok-left.ensures c.in_ok-eliminate_strip.ensures.list in
    let right1 = right_carried g.K.Field.MODULUS (inverse g.K.Field.MODULUS) c.args.first (c.args.n / 2) c.args.a.now c.eliminate_strip.new.a c.in_ok-right.right c.carry.new.x c.args.pivots.now.items c.eliminate_strip.new.pivots.items c.deref.result.now strip left1 list1 c.deref.ensures.value cut c.in_ok-carry.ensures in
    let list2 = right_list g.K.Field.MODULUS (inverse g.K.Field.MODULUS) c.args.first (c.args.n / 2) (c.args.n - c.args.n / 2) c.args.a.now c.carry.new.x c.args.pivots.now.items c.eliminate_strip.new.pivots.items c.eliminate_strip-2.new.pivots.items narrow right1 list1 c.in_ok-eliminate_strip-2.ensures.list in
    right_rows g.K.Field.MODULUS (inverse g.K.Field.MODULUS) c.args.first (c.args.n / 2) (c.args.n - c.args.n / 2) c.eliminate_strip.new.a.rows c.args.a.now c.args.pivots.now.items c.eliminate_strip-2.new.pivots.items c.deref-2.result.now strip rest list2 c.deref-2.ensures.value left1.rows

pub put_columns-requires-clause-columns : goal.put_columns-requires-clause-columns
put_columns-requires-clause-columns g t c =
    omega (arith, c.requires.columns)

pub put_columns-requires-clause-piece_rows : goal.put_columns-requires-clause-piece_rows
put_columns-requires-clause-piece_rows g t c =
    let strip : IsStrip g.K.Field.MODULUS c.args.first (c.args.n / 2) c.args.a.now c.args.pivots.now.items = half_strip g.K.Field.MODULUS c.args.first c.args.n c.args.a.now c.args.pivots.now.items c.rows-shaped.ensures.shaped c.requires.words c.requires.count c.requires.inside c.requires.columns in
    let rest : c.args.first + (c.args.n / 2) + (c.args.n - c.args.n / 2) ≤ c.args.a.now.rows = omega (arith, c.requires.inside) in
    let narrow : (c.args.n / 2) + (c.args.n - c.args.n / 2) ≤ cols c.args.a.now = omega (arith, c.requires.columns) in
    let cut : c.in_ok-right.right ≡ cut_columns c.args.a.now (c.args.n / 2) (cols c.args.a.now) = c.in_ok-right.ensures ∙ ap (cut_columns c.args.a.now (c.args.n / 2)) c.cols-end.ensures in
    let left1 = left_done g.K.Field.MODULUS (inverse g.K.Field.MODULUS) c.args.first (c.args.n / 2) c.args.a.now c.in_ok-left.left c.eliminate_strip.new.a c.args.pivots.now.items strip c.in_ok-left.ensures c.in_ok-eliminate_strip.ensures.matrix in
    let list1 = left_list g.K.Field.MODULUS (inverse g.K.Field.MODULUS) c.args.first (c.args.n / 2) c.args.a.now c.in_ok-left.left c.args.pivots.now.items c.eliminate_strip.new.pivots.items strip c.in_ok-left.ensures c.in_ok-eliminate_strip.ensures.list in
    let right1 = right_carried g.K.Field.MODULUS (inverse g.K.Field.MODULUS) c.args.first (c.args.n / 2) c.args.a.now c.eliminate_strip.new.a c.in_ok-right.right c.carry.new.x c.args.pivots.now.items c.eliminate_strip.new.pivots.items c.deref.result.now strip left1 list1 c.deref.ensures.value cut c.in_ok-carry.ensures in
    let list2 = right_list g.K.Field.MODULUS (inverse g.K.Field.MODULUS) c.args.first (c.args.n / 2) (c.args.n - c.args.n / 2) c.args.a.now c.carry.new.x c.args.pivots.now.items c.eliminate_strip.new.pivots.items c.eliminate_strip-2.new.pivots.items narrow right1 list1 c.in_ok-eliminate_strip-2.ensures.list in
    let left2 = left_exchanged g.K.Field.MODULUS (inverse g.K.Field.MODULUS) c.args.first (c.args.n / 2) (c.args.n - c.args.n / 2) c.args.a.now c.eliminate_strip.new.a c.exchange_rows.new.x c.args.pivots.now.items c.eliminate_strip-2.new.pivots.items c.deref-2.result.now strip rest left1 list2 c.deref-2.ensures.value c.exchange_rows.ensures in
    left2.rows

pub put_columns-requires-clause-piece_columns : goal.put_columns-requires-clause-piece_columns
put_columns-requires-clause-piece_columns g t c =
    let strip : IsStrip g.K.Field.MODULUS c.args.first (c.args.n / 2) c.args.a.now c.args.pivots.now.items = half_strip g.K.Field.MODULUS c.args.first c.args.n c.args.a.now c.args.pivots.now.items c.rows-shaped.ensures.shaped c.requires.words c.requires.count c.requires.inside c.requires.columns in
    let rest : c.args.first + (c.args.n / 2) + (c.args.n - c.args.n / 2) ≤ c.args.a.now.rows = omega (arith, c.requires.inside) in
    let narrow : (c.args.n / 2) + (c.args.n - c.args.n / 2) ≤ cols c.args.a.now = omega (arith, c.requires.columns) in
    let cut : c.in_ok-right.right ≡ cut_columns c.args.a.now (c.args.n / 2) (cols c.args.a.now) = c.in_ok-right.ensures ∙ ap (cut_columns c.args.a.now (c.args.n / 2)) c.cols-end.ensures in
    let left1 = left_done g.K.Field.MODULUS (inverse g.K.Field.MODULUS) c.args.first (c.args.n / 2) c.args.a.now c.in_ok-left.left c.eliminate_strip.new.a c.args.pivots.now.items strip c.in_ok-left.ensures c.in_ok-eliminate_strip.ensures.matrix in
    let list1 = left_list g.K.Field.MODULUS (inverse g.K.Field.MODULUS) c.args.first (c.args.n / 2) c.args.a.now c.in_ok-left.left c.args.pivots.now.items c.eliminate_strip.new.pivots.items strip c.in_ok-left.ensures c.in_ok-eliminate_strip.ensures.list in
    let right1 = right_carried g.K.Field.MODULUS (inverse g.K.Field.MODULUS) c.args.first (c.args.n / 2) c.args.a.now c.eliminate_strip.new.a c.in_ok-right.right c.carry.new.x c.args.pivots.now.items c.eliminate_strip.new.pivots.items c.deref.result.now strip left1 list1 c.deref.ensures.value cut c.in_ok-carry.ensures in
    let list2 = right_list g.K.Field.MODULUS (inverse g.K.Field.MODULUS) c.args.first (c.args.n / 2) (c.args.n - c.args.n / 2) c.args.a.now c.carry.new.x c.args.pivots.now.items c.eliminate_strip.new.pivots.items c.eliminate_strip-2.new.pivots.items narrow right1 list1 c.in_ok-eliminate_strip-2.ensures.list in
    let left2 = left_exchanged g.K.Field.MODULUS (inverse g.K.Field.MODULUS) c.args.first (c.args.n / 2) (c.args.n - c.args.n / 2) c.args.a.now c.eliminate_strip.new.a c.exchange_rows.new.x c.args.pivots.now.items c.eliminate_strip-2.new.pivots.items c.deref-2.result.now strip rest left1 list2 c.deref-2.ensures.value c.exchange_rows.ensures in
    let columns : cols c.exchange_rows.new.x ≡ c.args.first + (c.args.n / 2) - c.args.first = left2.columns in
    omega arith

pub put_columns-requires-2-clause-order : goal.put_columns-requires-2-clause-order
put_columns-requires-2-clause-order g t c =
    omega (arith, c.requires.columns, c.cols-end.ensures)

pub put_columns-requires-2-clause-columns : goal.put_columns-requires-2-clause-columns
put_columns-requires-2-clause-columns g t c =
    let columns : cols c.put_columns.new.a ≡ cols c.args.a.now = put-cols _ _ _ _ _ c.put_columns.ensures in
    omega (arith, c.cols-end.ensures)

pub put_columns-requires-2-clause-piece_rows : goal.put_columns-requires-2-clause-piece_rows
put_columns-requires-2-clause-piece_rows g t c =
    let strip : IsStrip g.K.Field.MODULUS c.args.first (c.args.n / 2) c.args.a.now c.args.pivots.now.items = half_strip g.K.Field.MODULUS c.args.first c.args.n c.args.a.now c.args.pivots.now.items c.rows-shaped.ensures.shaped c.requires.words c.requires.count c.requires.inside c.requires.columns in
    let rest : c.args.first + (c.args.n / 2) + (c.args.n - c.args.n / 2) ≤ c.args.a.now.rows = omega (arith, c.requires.inside) in
    let narrow : (c.args.n / 2) + (c.args.n - c.args.n / 2) ≤ cols c.args.a.now = omega (arith, c.requires.columns) in
    let cut : c.in_ok-right.right ≡ cut_columns c.args.a.now (c.args.n / 2) (cols c.args.a.now) = c.in_ok-right.ensures ∙ ap (cut_columns c.args.a.now (c.args.n / 2)) c.cols-end.ensures in
    let left1 = left_done g.K.Field.MODULUS (inverse g.K.Field.MODULUS) c.args.first (c.args.n / 2) c.args.a.now c.in_ok-left.left c.eliminate_strip.new.a c.args.pivots.now.items strip c.in_ok-left.ensures c.in_ok-eliminate_strip.ensures.matrix in
    let list1 = left_list g.K.Field.MODULUS (inverse g.K.Field.MODULUS) c.args.first (c.args.n / 2) c.args.a.now c.in_ok-left.left c.args.pivots.now.items c.eliminate_strip.new.pivots.items strip c.in_ok-left.ensures c.in_ok-eliminate_strip.ensures.list in
    let right1 = right_carried g.K.Field.MODULUS (inverse g.K.Field.MODULUS) c.args.first (c.args.n / 2) c.args.a.now c.eliminate_strip.new.a c.in_ok-right.right c.carry.new.x c.args.pivots.now.items c.eliminate_strip.new.pivots.items c.deref.result.now strip left1 list1 c.deref.ensures.value cut c.in_ok-carry.ensures in
    let right2 = right_done g.K.Field.MODULUS (inverse g.K.Field.MODULUS) c.args.first (c.args.n / 2) (c.args.n - c.args.n / 2) c.args.a.now c.carry.new.x c.eliminate_strip-2.new.a c.args.pivots.now.items c.eliminate_strip.new.pivots.items strip rest narrow right1 list1 c.in_ok-eliminate_strip-2.ensures.matrix in
    right2.rows ∙ sym (put-rows _ _ _ _ _ c.put_columns.ensures)

pub put_columns-requires-2-clause-piece_columns : goal.put_columns-requires-2-clause-piece_columns
put_columns-requires-2-clause-piece_columns g t c =
    let strip : IsStrip g.K.Field.MODULUS c.args.first (c.args.n / 2) c.args.a.now c.args.pivots.now.items = half_strip g.K.Field.MODULUS c.args.first c.args.n c.args.a.now c.args.pivots.now.items c.rows-shaped.ensures.shaped c.requires.words c.requires.count c.requires.inside c.requires.columns in
    let rest : c.args.first + (c.args.n / 2) + (c.args.n - c.args.n / 2) ≤ c.args.a.now.rows = omega (arith, c.requires.inside) in
    let narrow : (c.args.n / 2) + (c.args.n - c.args.n / 2) ≤ cols c.args.a.now = omega (arith, c.requires.columns) in
    let cut : c.in_ok-right.right ≡ cut_columns c.args.a.now (c.args.n / 2) (cols c.args.a.now) = c.in_ok-right.ensures ∙ ap (cut_columns c.args.a.now (c.args.n / 2)) c.cols-end.ensures in
    let left1 = left_done g.K.Field.MODULUS (inverse g.K.Field.MODULUS) c.args.first (c.args.n / 2) c.args.a.now c.in_ok-left.left c.eliminate_strip.new.a c.args.pivots.now.items strip c.in_ok-left.ensures c.in_ok-eliminate_strip.ensures.matrix in
    let list1 = left_list g.K.Field.MODULUS (inverse g.K.Field.MODULUS) c.args.first (c.args.n / 2) c.args.a.now c.in_ok-left.left c.args.pivots.now.items c.eliminate_strip.new.pivots.items strip c.in_ok-left.ensures c.in_ok-eliminate_strip.ensures.list in
    let right1 = right_carried g.K.Field.MODULUS (inverse g.K.Field.MODULUS) c.args.first (c.args.n / 2) c.args.a.now c.eliminate_strip.new.a c.in_ok-right.right c.carry.new.x c.args.pivots.now.items c.eliminate_strip.new.pivots.items c.deref.result.now strip left1 list1 c.deref.ensures.value cut c.in_ok-carry.ensures in
    let right2 = right_done g.K.Field.MODULUS (inverse g.K.Field.MODULUS) c.args.first (c.args.n / 2) (c.args.n - c.args.n / 2) c.args.a.now c.carry.new.x c.eliminate_strip-2.new.a c.args.pivots.now.items c.eliminate_strip.new.pivots.items strip rest narrow right1 list1 c.in_ok-eliminate_strip-2.ensures.matrix in
    let columns : cols c.eliminate_strip-2.new.a ≡ c.args.first + cols c.args.a.now - (c.args.first + (c.args.n / 2)) = right2.columns in
    omega (arith, c.cols-end.ensures)

pub returns-clause-matrix : goal.returns-clause-matrix
returns-clause-matrix g t c =
    let strip : IsStrip g.K.Field.MODULUS c.args.first (c.args.n / 2) c.args.a.now c.args.pivots.now.items = half_strip g.K.Field.MODULUS c.args.first c.args.n c.args.a.now c.args.pivots.now.items c.rows-shaped.ensures.shaped c.requires.words c.requires.count c.requires.inside c.requires.columns in
    let rest : c.args.first + (c.args.n / 2) + (c.args.n - c.args.n / 2) ≤ c.args.a.now.rows = omega (arith, c.requires.inside) in
    let narrow : (c.args.n / 2) + (c.args.n - c.args.n / 2) ≤ cols c.args.a.now = omega (arith, c.requires.columns) in
    let cut : c.in_ok-right.right ≡ cut_columns c.args.a.now (c.args.n / 2) (cols c.args.a.now) = c.in_ok-right.ensures ∙ ap (cut_columns c.args.a.now (c.args.n / 2)) c.cols-end.ensures in
    let left1 = left_done g.K.Field.MODULUS (inverse g.K.Field.MODULUS) c.args.first (c.args.n / 2) c.args.a.now c.in_ok-left.left c.eliminate_strip.new.a c.args.pivots.now.items strip c.in_ok-left.ensures c.in_ok-eliminate_strip.ensures.matrix in
    let list1 = left_list g.K.Field.MODULUS (inverse g.K.Field.MODULUS) c.args.first (c.args.n / 2) c.args.a.now c.in_ok-left.left c.args.pivots.now.items c.eliminate_strip.new.pivots.items strip c.in_ok-left.ensures c.in_ok-eliminate_strip.ensures.list in
    let right1 = right_carried g.K.Field.MODULUS (inverse g.K.Field.MODULUS) c.args.first (c.args.n / 2) c.args.a.now c.eliminate_strip.new.a c.in_ok-right.right c.carry.new.x c.args.pivots.now.items c.eliminate_strip.new.pivots.items c.deref.result.now strip left1 list1 c.deref.ensures.value cut c.in_ok-carry.ensures in
    let list2 = right_list g.K.Field.MODULUS (inverse g.K.Field.MODULUS) c.args.first (c.args.n / 2) (c.args.n - c.args.n / 2) c.args.a.now c.carry.new.x c.args.pivots.now.items c.eliminate_strip.new.pivots.items c.eliminate_strip-2.new.pivots.items narrow right1 list1 c.in_ok-eliminate_strip-2.ensures.list in
    let left2 = left_exchanged g.K.Field.MODULUS (inverse g.K.Field.MODULUS) c.args.first (c.args.n / 2) (c.args.n - c.args.n / 2) c.args.a.now c.eliminate_strip.new.a c.exchange_rows.new.x c.args.pivots.now.items c.eliminate_strip-2.new.pivots.items c.deref-2.result.now strip rest left1 list2 c.deref-2.ensures.value c.exchange_rows.ensures in
    let right2 = right_done g.K.Field.MODULUS (inverse g.K.Field.MODULUS) c.args.first (c.args.n / 2) (c.args.n - c.args.n / 2) c.args.a.now c.carry.new.x c.eliminate_strip-2.new.a c.args.pivots.now.items c.eliminate_strip.new.pivots.items strip rest narrow right1 list1 c.in_ok-eliminate_strip-2.ensures.matrix in
    halves_joined g.K.Field.MODULUS (inverse g.K.Field.MODULUS) c.args.first (c.args.n / 2) (c.args.n - c.args.n / 2) c.args.n c.cols-end.result c.args.a.now c.exchange_rows.new.x c.eliminate_strip-2.new.a c.put_columns.new.a c.put_columns-2.new.a c.args.pivots.now.items strip.columns (omega arith) left2 right2 c.put_columns.ensures c.put_columns-2.ensures c.cols-end.ensures

pub returns-clause-list : goal.returns-clause-list
returns-clause-list g t c =
    let strip : IsStrip g.K.Field.MODULUS c.args.first (c.args.n / 2) c.args.a.now c.args.pivots.now.items = half_strip g.K.Field.MODULUS c.args.first c.args.n c.args.a.now c.args.pivots.now.items c.rows-shaped.ensures.shaped c.requires.words c.requires.count c.requires.inside c.requires.columns in
    let rest : c.args.first + (c.args.n / 2) + (c.args.n - c.args.n / 2) ≤ c.args.a.now.rows = omega (arith, c.requires.inside) in
    let narrow : (c.args.n / 2) + (c.args.n - c.args.n / 2) ≤ cols c.args.a.now = omega (arith, c.requires.columns) in
    let cut : c.in_ok-right.right ≡ cut_columns c.args.a.now (c.args.n / 2) (cols c.args.a.now) = c.in_ok-right.ensures ∙ ap (cut_columns c.args.a.now (c.args.n / 2)) c.cols-end.ensures in
    let left1 = left_done g.K.Field.MODULUS (inverse g.K.Field.MODULUS) c.args.first (c.args.n / 2) c.args.a.now c.in_ok-left.left c.eliminate_strip.new.a c.args.pivots.now.items strip c.in_ok-left.ensures c.in_ok-eliminate_strip.ensures.matrix in
    let list1 = left_list g.K.Field.MODULUS (inverse g.K.Field.MODULUS) c.args.first (c.args.n / 2) c.args.a.now c.in_ok-left.left c.args.pivots.now.items c.eliminate_strip.new.pivots.items strip c.in_ok-left.ensures c.in_ok-eliminate_strip.ensures.list in
    let right1 = right_carried g.K.Field.MODULUS (inverse g.K.Field.MODULUS) c.args.first (c.args.n / 2) c.args.a.now c.eliminate_strip.new.a c.in_ok-right.right c.carry.new.x c.args.pivots.now.items c.eliminate_strip.new.pivots.items c.deref.result.now strip left1 list1 c.deref.ensures.value cut c.in_ok-carry.ensures in
    let list2 = right_list g.K.Field.MODULUS (inverse g.K.Field.MODULUS) c.args.first (c.args.n / 2) (c.args.n - c.args.n / 2) c.args.a.now c.carry.new.x c.args.pivots.now.items c.eliminate_strip.new.pivots.items c.eliminate_strip-2.new.pivots.items narrow right1 list1 c.in_ok-eliminate_strip-2.ensures.list in
    list_joined g.K.Field.MODULUS (inverse g.K.Field.MODULUS) c.args.first (c.args.n / 2) (c.args.n - c.args.n / 2) c.args.n c.args.a.now c.args.pivots.now.items c.eliminate_strip-2.new.pivots.items (omega arith) list2
