use Rattle.std.proofs.Common.{subst, sym, ap, ◌∙◌}
use Rattle.std.proofs.lemmas.Result.{on_ok_weaker}
use Rattle.run_data.specs.Matrix.{Matrix, cols, AreWords}
use Rattle.serial_model.specs.Serial.{matrix_in, with_matrix}
use Rattle.serial_model.specs.Transposes.{transpose_added}
use Rattle.serial_machine.specs.Values.{values_of}
use Rattle.serial_machine.proofs.Entries.{meanwhile, matrix_meanwhile, put_back}
use Rattle.serial_machine.proofs.Keeping.{whole-in}
use Rattle.serial_machine.proofs.run.run_transpose.Goals as goal

pub matrix-source-requires : goal.matrix-source-requires
matrix-source-requires g c = matrix_meanwhile _ _ _ _ c.take_matrix-sum.ensures.after c.requires.can.other c.requires.can.source

pub add_transpose-requires-clause-rows : goal.add_transpose-requires-clause-rows
add_transpose-requires-clause-rows g c =
    let source_is = c.matrix-source.ensures ∙ ap matrix_in (meanwhile _ _ _ _ c.take_matrix-sum.ensures.after c.requires.can.other) in
    ap (λ (m : Matrix). m.rows) source_is ∙ c.requires.can.rows ∙ ap cols (sym c.take_matrix-sum.ensures.value)

pub add_transpose-requires-clause-columns : goal.add_transpose-requires-clause-columns
add_transpose-requires-clause-columns g c =
    let source_is = c.matrix-source.ensures ∙ ap matrix_in (meanwhile _ _ _ _ c.take_matrix-sum.ensures.after c.requires.can.other) in
    ap cols source_is ∙ c.requires.can.columns ∙ ap (λ (m : Matrix). m.rows) (sym c.take_matrix-sum.ensures.value)

pub add_transpose-requires-clause-a_words : goal.add_transpose-requires-clause-a_words
add_transpose-requires-clause-a_words g c =
    let source_is = c.matrix-source.ensures ∙ ap matrix_in (meanwhile _ _ _ _ c.take_matrix-sum.ensures.after c.requires.can.other) in
    subst (AreWords g.K.Field.MODULUS) (sym source_is) (whole-in _ _ _ c.requires.whole c.requires.can.source).words

pub add_transpose-requires-clause-c_words : goal.add_transpose-requires-clause-c_words
add_transpose-requires-clause-c_words g c =
    subst (AreWords g.K.Field.MODULUS) (sym c.take_matrix-sum.ensures.value) (whole-in _ _ _ c.requires.whole c.requires.can.changed).words

pub returns : goal.returns
returns g c =
    let source_is = c.matrix-source.ensures ∙ ap matrix_in (meanwhile _ _ _ _ c.take_matrix-sum.ensures.after c.requires.can.other) in
    on_ok_weaker c.put_matrix.result
    (λ e. put_back _ _ _ _ _ c.take_matrix-sum.ensures.after e
    ∙ ap (with_matrix (values_of c.args.values.now.entries.items) c.args.c.now)
    (c.add_transpose.ensures ∙ (λ t. transpose_added g.K.Field.MODULUS c.args.alpha (source_is t) c.args.beta (c.take_matrix-sum.ensures.value t))))
    c.put_matrix.ensures
