use Rattle.std.proofs.Common.{subst, sym, ap, ◌∙◌}
use Rattle.field_core.specs.Residue.{inverse}
use Rattle.run_data.specs.Matrix.{Matrix, cols, AreWords}
use Rattle.serial_model.specs.Serial.{matrix_in, with_matrix, list_in}
use Rattle.serial_model.specs.Transposes.{trans_solved}
use Rattle.serial_model.specs.Text.{info_text}
use Rattle.std.specs.Prelude.{codes, ◌++◌}
use Rattle.std.proofs.lemmas.Result.{on_ok_weaker}
use Rattle.serial_machine.specs.Values.{values_of}
use Rattle.serial_machine.proofs.Entries.{meanwhile, matrix_meanwhile, list_meanwhile, put_back, enough_again, rows_again}
use Rattle.serial_machine.proofs.Keeping.{whole-in}
use Rattle.serial_machine.proofs.run.run_solve.Goals as goal

pub matrix-matrix-requires : goal.matrix-matrix-requires
matrix-matrix-requires g c = matrix_meanwhile _ _ _ _ c.take_matrix-solved.ensures.after c.requires.can.system.other c.requires.can.system.matrix

pub solve_factored-requires-clause-square : goal.solve_factored-requires-clause-square
solve_factored-requires-clause-square g c =
    let matrix_is = c.matrix-matrix.ensures ∙ ap matrix_in (meanwhile _ _ _ _ c.take_matrix-solved.ensures.after c.requires.can.system.other) in
    ap cols matrix_is ∙ c.requires.can.system.square ∙ ap (λ (m : Matrix). m.rows) (sym matrix_is)

pub solve_factored-requires-clause-same_rows : goal.solve_factored-requires-clause-same_rows
solve_factored-requires-clause-same_rows g c =
    let matrix_is = c.matrix-matrix.ensures ∙ ap matrix_in (meanwhile _ _ _ _ c.take_matrix-solved.ensures.after c.requires.can.system.other) in
    ap (λ (m : Matrix). m.rows) c.take_matrix-solved.ensures.value ∙ c.requires.can.size ∙ ap (λ (m : Matrix). m.rows) (sym matrix_is)

pub solve_factored-requires-clause-a_words : goal.solve_factored-requires-clause-a_words
solve_factored-requires-clause-a_words g c =
    let matrix_is = c.matrix-matrix.ensures ∙ ap matrix_in (meanwhile _ _ _ _ c.take_matrix-solved.ensures.after c.requires.can.system.other) in
    subst (AreWords g.K.Field.MODULUS) (sym matrix_is) (whole-in _ _ _ c.requires.whole c.requires.can.system.matrix).words

pub solve_factored-requires-clause-b_words : goal.solve_factored-requires-clause-b_words
solve_factored-requires-clause-b_words g c =
    subst (AreWords g.K.Field.MODULUS) (sym c.take_matrix-solved.ensures.value) (whole-in _ _ _ c.requires.whole c.requires.can.system.right_side).words

pub solve_factored-requires-clause-list : goal.solve_factored-requires-clause-list
solve_factored-requires-clause-list g c =
    let matrix_is = c.matrix-matrix.ensures ∙ ap matrix_in (meanwhile _ _ _ _ c.take_matrix-solved.ensures.after c.requires.can.system.other) in
    let rows_are = c.rows-rows.ensures ∙ ap list_in (meanwhile _ _ _ _ c.take_matrix-solved.ensures.after c.requires.can.other) in
    enough_again _ _ _ _ matrix_is rows_are c.requires.can.enough

pub solve_factored-requires-clause-pivots : goal.solve_factored-requires-clause-pivots
solve_factored-requires-clause-pivots g c =
    let matrix_is = c.matrix-matrix.ensures ∙ ap matrix_in (meanwhile _ _ _ _ c.take_matrix-solved.ensures.after c.requires.can.system.other) in
    let rows_are = c.rows-rows.ensures ∙ ap list_in (meanwhile _ _ _ _ c.take_matrix-solved.ensures.after c.requires.can.other) in
    rows_again _ _ _ _ matrix_is rows_are c.requires.can.rows

pub rows-rows-requires : goal.rows-rows-requires
rows-rows-requires g c = list_meanwhile _ _ _ _ c.take_matrix-solved.ensures.after c.requires.can.other c.requires.can.list

pub returns-clause-changed : goal.returns-clause-changed
returns-clause-changed g c =
    let matrix_is = c.matrix-matrix.ensures ∙ ap matrix_in (meanwhile _ _ _ _ c.take_matrix-solved.ensures.after c.requires.can.system.other) in
    let rows_are = c.rows-rows.ensures ∙ ap list_in (meanwhile _ _ _ _ c.take_matrix-solved.ensures.after c.requires.can.other) in
    on_ok_weaker c.print_info.result
    (λ e. put_back _ _ _ _ _ c.take_matrix-solved.ensures.after c.in_ok-put_matrix.ensures
    ∙ ap (with_matrix (values_of c.args.values.now.entries.items) c.args.b.now)
    (c.in_ok-info.ensures.matrix
    ∙ (λ t. (trans_solved g.K.Field.MODULUS (inverse g.K.Field.MODULUS) c.args.transposed (matrix_is t) (rows_are t) (c.take_matrix-solved.ensures.value t)).matrix)))
    c.print_info.ensures

pub returns-clause-text : goal.returns-clause-text
returns-clause-text g c =
    let matrix_is = c.matrix-matrix.ensures ∙ ap matrix_in (meanwhile _ _ _ _ c.take_matrix-solved.ensures.after c.requires.can.system.other) in
    let rows_are = c.rows-rows.ensures ∙ ap list_in (meanwhile _ _ _ _ c.take_matrix-solved.ensures.after c.requires.can.other) in
    on_ok_weaker c.print_info.result
    (λ e. e ∙ ap (λ info. c.args.out.now.items ++ info_text (codes "pgetrs") c.args.b.now info)
    (c.in_ok-info.ensures.info
    ∙ (λ t. (trans_solved g.K.Field.MODULUS (inverse g.K.Field.MODULUS) c.args.transposed (matrix_is t) (rows_are t) (c.take_matrix-solved.ensures.value t)).info)))
    c.print_info.ensures
