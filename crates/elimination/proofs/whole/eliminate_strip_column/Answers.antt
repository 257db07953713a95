use Rattle.std.proofs.Common.{◌+◌, refl, sym, ◌∙◌}
use Rattle.elimination.proofs.WholeCarried.{words_of_part, rows_of_part, cols_of_part}
use Rattle.elimination.proofs.WholeFits.{row_within, next_row, column_inside, one_row, row_columns}
use Rattle.elimination.proofs.WholeSteps.{rows_after_swap, cols_after_swap, words_after_swap, pivot_word, none_matrix, none_list, some_matrix, some_list}
use Rattle.elimination.proofs.whole.eliminate_strip_column.Goals as goal

pub part-requires : goal.part-requires
part-requires g c =
    row_within c.args.a.now c.swap_rows.new.dst (c.args.first + c.args.j) c.cols-cols.result (rows_after_swap _ _ _ _ c.swap_rows.ensures) (cols_after_swap _ _ _ _ c.swap_rows.ensures) c.cols-cols.ensures
    c.requires.inside

pub eliminate-requires-clause-from : goal.eliminate-requires-clause-from
eliminate-requires-clause-from g c =
    next_row c.args.a.now c.swap_rows.new.dst (c.args.first + c.args.j) (rows_after_swap _ _ _ _ c.swap_rows.ensures) c.requires.inside

pub eliminate-requires-clause-column : goal.eliminate-requires-clause-column
eliminate-requires-clause-column g c =
    column_inside c.args.a.now c.swap_rows.new.dst c.args.j (cols_after_swap _ _ _ _ c.swap_rows.ensures) c.requires.column

pub eliminate-requires-clause-row_rows : goal.eliminate-requires-clause-row_rows
eliminate-requires-clause-row_rows g c = one_row c.in_ok-row-in-Some.row (c.args.first + c.args.j) (rows_of_part _ _ _ c.in_ok-row-in-Some.ensures)

pub eliminate-requires-clause-row_columns : goal.eliminate-requires-clause-row_columns
eliminate-requires-clause-row_columns g c =
    row_columns c.args.a.now c.swap_rows.new.dst c.in_ok-row-in-Some.row c.cols-cols.result (cols_after_swap _ _ _ _ c.swap_rows.ensures) (cols_of_part _ _ _ c.in_ok-row-in-Some.ensures) c.cols-cols.ensures

pub eliminate-requires-clause-dst_words : goal.eliminate-requires-clause-dst_words
eliminate-requires-clause-dst_words g c = words_after_swap _ _ _ _ _ c.requires.words c.swap_rows.ensures

pub eliminate-requires-clause-row_words : goal.eliminate-requires-clause-row_words
eliminate-requires-clause-row_words g c = words_of_part _ _ _ _ (words_after_swap _ _ _ _ _ c.requires.words c.swap_rows.ensures) c.in_ok-row-in-Some.ensures

pub eliminate-requires-clause-pivot : goal.eliminate-requires-clause-pivot
eliminate-requires-clause-pivot g c =
    λ zero_word. c.in-Some.ensures.nonzero (sym (pivot_word _ _ _ _ _ _ _ c.swap_rows.ensures c.in_ok-row-in-Some.ensures c.cols-cols.ensures c.requires.inside c.requires.column) ∙ zero_word)

pub returns-in_ok-push-in-None-clause-matrix : goal.returns-in_ok-push-in-None-clause-matrix
returns-in_ok-push-in-None-clause-matrix g c = none_matrix _ _ _ _ _ _ c.rows-shaped.ensures.shaped c.requires.inside (c.in-None.ensures.none.0 refl)

pub returns-in_ok-push-in-None-clause-list : goal.returns-in_ok-push-in-None-clause-list
returns-in_ok-push-in-None-clause-list g c =
    c.in_ok-push-in-None.ensures.items ∙ none_list _ _ _ _ _ _ c.requires.inside (c.in-None.ensures.none.0 refl)

pub returns-in_ok-push-in-Some-clause-matrix : goal.returns-in_ok-push-in-Some-clause-matrix
returns-in_ok-push-in-Some-clause-matrix g c =
    some_matrix _ _ _ _ _ _ _ _ _ _ _ c.requires.inside c.requires.column c.cols-cols.ensures c.swap_rows.ensures c.in_ok-row-in-Some.ensures c.eliminate.ensures c.in-Some.ensures.range.0 c.in-Some.ensures.range.1 c.in-Some.ensures.nonzero c.in-Some.ensures.first

pub returns-in_ok-push-in-Some-clause-list : goal.returns-in_ok-push-in-Some-clause-list
returns-in_ok-push-in-Some-clause-list g c =
    c.in_ok-push-in-Some.ensures.items ∙ some_list _ _ _ _ _ _ _ c.in-Some.ensures.range.0 c.in-Some.ensures.range.1 c.in-Some.ensures.nonzero c.in-Some.ensures.first
