use Rattle.std.proofs.Common.{◌+◌, ◌∙◌}
use Rattle.elimination.proofs.WholeCarried.{carried_by_kernels, rows_after_exchange, cols_after_exchange, words_after_exchange, rows_after_solve, cols_after_solve, words_after_solve, words_of_part, rows_of_part, cols_of_part}
use Rattle.elimination.proofs.WholeFits.{among_within, below_within, cut_within, columns_fit, solve_fits, product_fits}
use Rattle.elimination.proofs.whole.carry.Goals as goal

pub solve_lower-requires-clause-dst_part : goal.solve_lower-requires-clause-dst_part
solve_lower-requires-clause-dst_part g c =
    among_within c.args.x.now c.exchange_rows.new.x c.args.first c.args.n c.cols-cols.result (rows_after_exchange _ _ _ _ _ c.exchange_rows.ensures)
    (columns_fit c.args.x.now c.exchange_rows.new.x c.cols-cols.result (cols_after_exchange _ _ _ _ _ c.exchange_rows.ensures) c.cols-cols.ensures) c.requires.inside

pub solve_lower-requires-clause-block_part : goal.solve_lower-requires-clause-block_part
solve_lower-requires-clause-block_part g c = among_within c.args.x.now c.args.panel.now c.args.first c.args.n c.args.n c.requires.panel_rows c.requires.panel_columns c.requires.inside

pub solve_lower-requires-clause-shape : goal.solve_lower-requires-clause-shape
solve_lower-requires-clause-shape g c = solve_fits c.args.first c.args.n c.cols-cols.result

pub solve_lower-requires-clause-dst_words : goal.solve_lower-requires-clause-dst_words
solve_lower-requires-clause-dst_words g c = words_after_exchange _ _ _ _ _ _ c.requires.words c.exchange_rows.ensures

pub part-requires : goal.part-requires
part-requires g c =
    among_within c.args.x.now c.solve_lower.new.dst c.args.first c.args.n c.cols-cols.result
    (rows_after_solve _ _ _ _ _ c.args.first c.args.n c.cols-cols.result c.solve_lower.ensures ∙ rows_after_exchange _ _ _ _ _ c.exchange_rows.ensures)
    (columns_fit c.args.x.now c.solve_lower.new.dst c.cols-cols.result (cols_after_solve _ _ _ _ _ c.args.first c.args.n c.cols-cols.result c.solve_lower.ensures ∙ cols_after_exchange _ _ _ _ _ c.exchange_rows.ensures) c.cols-cols.ensures) c.requires.inside

pub mul_add-requires-clause-dst_part : goal.mul_add-requires-clause-dst_part
mul_add-requires-clause-dst_part g c =
    below_within c.args.x.now c.solve_lower.new.dst c.args.first c.args.n c.rows-rows.result c.cols-cols.result
    (rows_after_solve _ _ _ _ _ c.args.first c.args.n c.cols-cols.result c.solve_lower.ensures ∙ rows_after_exchange _ _ _ _ _ c.exchange_rows.ensures) c.rows-rows.ensures.value
    (columns_fit c.args.x.now c.solve_lower.new.dst c.cols-cols.result (cols_after_solve _ _ _ _ _ c.args.first c.args.n c.cols-cols.result c.solve_lower.ensures ∙ cols_after_exchange _ _ _ _ _ c.exchange_rows.ensures) c.cols-cols.ensures) c.requires.inside

pub mul_add-requires-clause-left_part : goal.mul_add-requires-clause-left_part
mul_add-requires-clause-left_part g c =
    below_within c.args.x.now c.args.panel.now c.args.first c.args.n c.rows-rows.result c.args.n c.requires.panel_rows c.rows-rows.ensures.value c.requires.panel_columns c.requires.inside

pub mul_add-requires-clause-right_part : goal.mul_add-requires-clause-right_part
mul_add-requires-clause-right_part g c =
    cut_within c.in_ok-solved.solved c.args.first c.args.n c.cols-cols.result (rows_of_part _ _ _ c.in_ok-solved.ensures) (cols_of_part _ _ _ c.in_ok-solved.ensures)

pub mul_add-requires-clause-shapes : goal.mul_add-requires-clause-shapes
mul_add-requires-clause-shapes g c = product_fits (c.args.first + c.args.n) c.rows-rows.result c.args.n c.cols-cols.result

pub mul_add-requires-clause-dst_words : goal.mul_add-requires-clause-dst_words
mul_add-requires-clause-dst_words g c = words_after_solve _ _ _ _ _ c.args.first c.args.n c.cols-cols.result (words_after_exchange _ _ _ _ _ _ c.requires.words c.exchange_rows.ensures) c.solve_lower.ensures

pub mul_add-requires-clause-right_words : goal.mul_add-requires-clause-right_words
mul_add-requires-clause-right_words g c =
    words_of_part _ _ _ _ (words_after_solve _ _ _ _ _ c.args.first c.args.n c.cols-cols.result (words_after_exchange _ _ _ _ _ _ c.requires.words c.exchange_rows.ensures) c.solve_lower.ensures) c.in_ok-solved.ensures

pub returns : goal.returns
returns g c =
    carried_by_kernels _ _ _ _ _ _ _ _ _ _ _ _ _ _ c.requires.inside c.rows-rows.ensures.value c.cols-cols.ensures c.MODULUS-minus_one.ensures c.exchange_rows.ensures c.solve_lower.ensures c.in_ok-solved.ensures c.mul_add.ensures
