use Rattle.std.proofs.Common.{subst, sym, ap, ◌∙◌}
use Rattle.field_core.specs.Residue.{inverse}
use Rattle.run_data.specs.Matrix.{Matrix, cols, AreWords}
use Rattle.serial_model.specs.Serial.{matrix_in, with_matrix}
use Rattle.serial_model.specs.Transposes.{side_solved}
use Rattle.serial_model.specs.Text.{info_text}
use Rattle.std.specs.Prelude.{codes, ◌++◌, if◌then◌else◌}
use Rattle.std.proofs.lemmas.Result.{on_ok_weaker}
use Rattle.serial_machine.specs.Values.{values_of}
use Rattle.serial_machine.proofs.Entries.{meanwhile, matrix_meanwhile, put_back}
use Rattle.serial_machine.proofs.Keeping.{whole-in}
use Rattle.serial_machine.proofs.run.run_triangle.Goals as goal

pub matrix-matrix-requires : goal.matrix-matrix-requires
matrix-matrix-requires g c = matrix_meanwhile _ _ _ _ c.take_matrix-solved.ensures.after c.requires.can.system.other c.requires.can.system.matrix

pub solve_from_side-requires-clause-square : goal.solve_from_side-requires-clause-square
solve_from_side-requires-clause-square g c =
    let matrix_is = c.matrix-matrix.ensures ∙ ap matrix_in (meanwhile _ _ _ _ c.take_matrix-solved.ensures.after c.requires.can.system.other) in
    ap cols matrix_is ∙ c.requires.can.system.square ∙ ap (λ (m : Matrix). m.rows) (sym matrix_is)

pub solve_from_side-requires-clause-size : goal.solve_from_side-requires-clause-size
solve_from_side-requires-clause-size g c =
    let matrix_is = c.matrix-matrix.ensures ∙ ap matrix_in (meanwhile _ _ _ _ c.take_matrix-solved.ensures.after c.requires.can.system.other) in
    ap (λ (m : Matrix). if c.args.options.is_left then m.rows else cols m) c.take_matrix-solved.ensures.value ∙ c.requires.can.size ∙ ap (λ (m : Matrix). m.rows) (sym matrix_is)

pub solve_from_side-requires-clause-a_words : goal.solve_from_side-requires-clause-a_words
solve_from_side-requires-clause-a_words g c =
    let matrix_is = c.matrix-matrix.ensures ∙ ap matrix_in (meanwhile _ _ _ _ c.take_matrix-solved.ensures.after c.requires.can.system.other) in
    subst (AreWords g.K.Field.MODULUS) (sym matrix_is) (whole-in _ _ _ c.requires.whole c.requires.can.system.matrix).words

pub solve_from_side-requires-clause-b_words : goal.solve_from_side-requires-clause-b_words
solve_from_side-requires-clause-b_words g c =
    subst (AreWords g.K.Field.MODULUS) (sym c.take_matrix-solved.ensures.value) (whole-in _ _ _ c.requires.whole c.requires.can.system.right_side).words

pub returns-clause-changed : goal.returns-clause-changed
returns-clause-changed g c =
    let matrix_is = c.matrix-matrix.ensures ∙ ap matrix_in (meanwhile _ _ _ _ c.take_matrix-solved.ensures.after c.requires.can.system.other) in
    on_ok_weaker c.print_info.result
    (λ e. put_back _ _ _ _ _ c.take_matrix-solved.ensures.after c.in_ok-put_matrix.ensures
    ∙ ap (with_matrix (values_of c.args.values.now.entries.items) c.args.b.now)
    (c.in_ok-info.ensures.matrix
    ∙ (λ t. (side_solved g.K.Field.MODULUS (inverse g.K.Field.MODULUS) c.args.options.is_left c.args.options.is_transposed c.args.options.triangle.is_lower c.args.options.triangle.is_unit c.args.alpha (matrix_is t) (c.take_matrix-solved.ensures.value t)).matrix)))
    c.print_info.ensures

pub returns-clause-text : goal.returns-clause-text
returns-clause-text g c =
    let matrix_is = c.matrix-matrix.ensures ∙ ap matrix_in (meanwhile _ _ _ _ c.take_matrix-solved.ensures.after c.requires.can.system.other) in
    on_ok_weaker c.print_info.result
    (λ e. e ∙ ap (λ info. c.args.out.now.items ++ info_text (codes "ptrsm") c.args.b.now info)
    (c.in_ok-info.ensures.info
    ∙ (λ t. (side_solved g.K.Field.MODULUS (inverse g.K.Field.MODULUS) c.args.options.is_left c.args.options.is_transposed c.args.options.triangle.is_lower c.args.options.triangle.is_unit c.args.alpha (matrix_is t) (c.take_matrix-solved.ensures.value t)).info)))
    c.print_info.ensures
