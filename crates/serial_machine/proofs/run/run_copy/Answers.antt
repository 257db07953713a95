use Rattle.std.proofs.Common.{subst, sym, ap, ◌∙◌}
use Rattle.std.proofs.lemmas.Result.{on_ok_weaker}
use Rattle.run_data.specs.Parts.{IsWithin}
use Rattle.serial_model.specs.Serial.{matrix_in, with_matrix}
use Rattle.serial_model.specs.Solves.{window, window_copied}
use Rattle.serial_machine.specs.Values.{values_of}
use Rattle.serial_machine.proofs.Entries.{meanwhile, matrix_meanwhile, put_back}
use Rattle.serial_machine.proofs.run.run_copy.Goals as goal

pub matrix-source-requires : goal.matrix-source-requires
matrix-source-requires c = matrix_meanwhile _ _ _ _ c.take_matrix-copied.ensures.after c.requires.other c.requires.source

pub copy_window-requires-clause-in_a : goal.copy_window-requires-clause-in_a
copy_window-requires-clause-in_a c =
    let source_is = c.matrix-source.ensures ∙ ap matrix_in (meanwhile _ _ _ _ c.take_matrix-copied.ensures.after c.requires.other) in
    subst (IsWithin (window c.args.m c.args.n c.args.from.row c.args.from.column)) (sym source_is) c.requires.in_a

pub copy_window-requires-clause-in_b : goal.copy_window-requires-clause-in_b
copy_window-requires-clause-in_b c = subst (IsWithin (window c.args.m c.args.n c.args.to.row c.args.to.column)) (sym c.take_matrix-copied.ensures.value) c.requires.in_b

pub returns : goal.returns
returns c =
    let source_is = c.matrix-source.ensures ∙ ap matrix_in (meanwhile _ _ _ _ c.take_matrix-copied.ensures.after c.requires.other) in
    on_ok_weaker c.put_matrix.result
    (λ e. put_back _ _ _ _ _ c.take_matrix-copied.ensures.after e
    ∙ ap (with_matrix (values_of c.args.values.now.entries.items) c.args.b.now)
    (c.copy_window.ensures ∙ (λ t. window_copied c.args.m c.args.n (source_is t) c.args.from.row c.args.from.column (c.take_matrix-copied.ensures.value t) c.args.to.row c.args.to.column)))
    c.put_matrix.ensures
