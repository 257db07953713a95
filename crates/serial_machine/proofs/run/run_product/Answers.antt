use Rattle.std.proofs.Common.{subst, sym, ap, ◌∙◌}
use Rattle.std.proofs.lemmas.Result.{on_ok_weaker}
use Rattle.run_data.specs.Matrix.{Matrix, cols, AreWords}
use Rattle.serial_model.specs.Serial.{matrix_in, with_matrix}
use Rattle.serial_model.specs.Solves.{product_of}
use Rattle.serial_machine.specs.Values.{values_of}
use Rattle.serial_machine.proofs.Entries.{meanwhile, matrix_meanwhile, put_back}
use Rattle.serial_machine.proofs.Keeping.{whole-in}
use Rattle.serial_machine.proofs.run.run_product.Goals as goal

pub matrix-left-requires : goal.matrix-left-requires
matrix-left-requires g c = matrix_meanwhile _ _ _ _ c.take_matrix-product.ensures.after c.requires.can.not_left c.requires.can.left

pub matrix-right-requires : goal.matrix-right-requires
matrix-right-requires g c = matrix_meanwhile _ _ _ _ c.take_matrix-product.ensures.after c.requires.can.not_right c.requires.can.right

pub multiply-requires-clause-rows : goal.multiply-requires-clause-rows
multiply-requires-clause-rows g c =
    let left_is = c.matrix-left.ensures ∙ ap matrix_in (meanwhile _ _ _ _ c.take_matrix-product.ensures.after c.requires.can.not_left) in
    ap (λ (m : Matrix). m.rows) left_is ∙ c.requires.can.rows ∙ ap (λ (m : Matrix). m.rows) (sym c.take_matrix-product.ensures.value)

pub multiply-requires-clause-columns : goal.multiply-requires-clause-columns
multiply-requires-clause-columns g c =
    let right_is = c.matrix-right.ensures ∙ ap matrix_in (meanwhile _ _ _ _ c.take_matrix-product.ensures.after c.requires.can.not_right) in
    ap cols right_is ∙ c.requires.can.columns ∙ ap cols (sym c.take_matrix-product.ensures.value)

pub multiply-requires-clause-inner : goal.multiply-requires-clause-inner
multiply-requires-clause-inner g c =
    let left_is = c.matrix-left.ensures ∙ ap matrix_in (meanwhile _ _ _ _ c.take_matrix-product.ensures.after c.requires.can.not_left) in
    let right_is = c.matrix-right.ensures ∙ ap matrix_in (meanwhile _ _ _ _ c.take_matrix-product.ensures.after c.requires.can.not_right) in
    ap cols left_is ∙ c.requires.can.inner ∙ ap (λ (m : Matrix). m.rows) (sym right_is)

pub multiply-requires-clause-a_words : goal.multiply-requires-clause-a_words
multiply-requires-clause-a_words g c =
    let left_is = c.matrix-left.ensures ∙ ap matrix_in (meanwhile _ _ _ _ c.take_matrix-product.ensures.after c.requires.can.not_left) in
    subst (AreWords g.K.Field.MODULUS) (sym left_is) (whole-in _ _ _ c.requires.whole c.requires.can.left).words

pub multiply-requires-clause-b_words : goal.multiply-requires-clause-b_words
multiply-requires-clause-b_words g c =
    let right_is = c.matrix-right.ensures ∙ ap matrix_in (meanwhile _ _ _ _ c.take_matrix-product.ensures.after c.requires.can.not_right) in
    subst (AreWords g.K.Field.MODULUS) (sym right_is) (whole-in _ _ _ c.requires.whole c.requires.can.right).words

pub multiply-requires-clause-c_words : goal.multiply-requires-clause-c_words
multiply-requires-clause-c_words g c =
    subst (AreWords g.K.Field.MODULUS) (sym c.take_matrix-product.ensures.value) (whole-in _ _ _ c.requires.whole c.requires.can.changed).words

pub returns : goal.returns
returns g c =
    let left_is = c.matrix-left.ensures ∙ ap matrix_in (meanwhile _ _ _ _ c.take_matrix-product.ensures.after c.requires.can.not_left) in
    let right_is = c.matrix-right.ensures ∙ ap matrix_in (meanwhile _ _ _ _ c.take_matrix-product.ensures.after c.requires.can.not_right) in
    on_ok_weaker c.put_matrix.result
    (λ e. put_back _ _ _ _ _ c.take_matrix-product.ensures.after e
    ∙ ap (with_matrix (values_of c.args.values.now.entries.items) c.args.c.now)
    (c.multiply.ensures ∙ (λ t. product_of g.K.Field.MODULUS c.args.alpha (left_is t) (right_is t) c.args.beta (c.take_matrix-product.ensures.value t))))
    c.put_matrix.ensures
