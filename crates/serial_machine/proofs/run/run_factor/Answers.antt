use Rattle.std.proofs.Common.{Some, subst, sym, ap, ◌∙◌}
use Rattle.std.specs.Prelude.{codes, ◌++◌}
use Rattle.std.proofs.lemmas.Result.{on_ok_weaker}
use Rattle.field_core.specs.Residue.{inverse}
use Rattle.run_data.specs.Matrix.{AreWords}
use Rattle.serial_model.specs.Elimination.{elimination_of, eliminated_matrix}
use Rattle.serial_model.specs.Serial as model
use Rattle.serial_model.specs.Serial.{matrix_in, with_matrix, with_value}
use Rattle.serial_model.specs.Text.{info_text}
use Rattle.serial_machine.specs.Values.{values_of}
use Rattle.serial_machine.proofs.Entries.{put_back}
use Rattle.serial_machine.proofs.Keeping.{whole-in}
use Rattle.serial_machine.proofs.run.run_factor.Goals as goal

pub factor-requires : goal.factor-requires
factor-requires g c = subst (AreWords g.K.Field.MODULUS) (sym c.take_matrix-matrix.ensures.value) (whole-in _ _ _ c.requires.whole c.requires.can.matrix).words

pub returns-clause-changed : goal.returns-clause-changed
returns-clause-changed g c =
    let p = g.K.Field.MODULUS in
    let matrix_is = c.in_ok-factored.ensures.matrix ∙ ap (eliminated_matrix p (inverse p)) c.take_matrix-matrix.ensures.value in
    let rows_are = c.in_ok-factored.ensures.rows ∙ ap (λ m. (elimination_of p (inverse p) m).pivots) c.take_matrix-matrix.ensures.value in
    let first = put_back _ _ _ _ _ c.take_matrix-matrix.ensures.after c.in_ok-put_matrix.ensures ∙ ap (with_matrix (values_of c.args.values.now.entries.items) c.args.a.now) matrix_is in
    on_ok_weaker c.print_info.result (λ e. c.in_ok-put.ensures ∙ (λ t. with_value (first t) c.args.v.now (Some (model.rows (rows_are t))))) c.print_info.ensures

pub returns-clause-text : goal.returns-clause-text
returns-clause-text g c =
    let p = g.K.Field.MODULUS in
    on_ok_weaker c.print_info.result
    (λ e. e ∙ ap (λ info. c.args.out.now.items ++ info_text (codes "pgetrf") c.args.a.now info) (c.in_ok-factored.ensures.info ∙ ap (λ m. (elimination_of p (inverse p) m).info) c.take_matrix-matrix.ensures.value))
    c.print_info.ensures
