use Rattle.std.proofs.Common.{Some, sym, ap, ◌∙◌, arith}
use Rattle.std.specs.Option.{option_copied}
use Rattle.script_bounds.proofs.Sized.{limited_of_maker}
use Rattle.script_bounds.proofs.Sizes.{groups-few}
use Rattle.script_bounds.proofs.bounds.records_of_matrix.Goals as goal

pub groups-groups-requires-clause-process_columns : goal.groups-groups-requires-clause-process_columns
groups-groups-requires-clause-process_columns c =
    let e = sym c.maker_command.ensures ∙ ap option_copied c.in-Some-Grid.is ∙ ap (λ x. Some x) c.in-Some-Grid.field-0-is in
    let h = limited_of_maker c.args.script.now c.args.line c.args.grid.now c.in-Some-Grid.field-0-0 c.in-Some-Grid.p c.in-Some-Grid.q c.in-Some-Grid.f c.requires.rules e in
    omega (arith, h.some_columns)

pub matrix_records-requires-clause-rows : goal.matrix_records-requires-clause-rows
matrix_records-requires-clause-rows c =
    let e = sym c.maker_command.ensures ∙ ap option_copied c.in-Some-Grid.is ∙ ap (λ x. Some x) c.in-Some-Grid.field-0-is in
    let h = limited_of_maker c.args.script.now c.args.line c.args.grid.now c.in-Some-Grid.field-0-0 c.in-Some-Grid.p c.in-Some-Grid.q c.in-Some-Grid.f c.requires.rules e in
    omega (arith, h.rows, c.from.ensures)

pub matrix_records-requires-clause-columns : goal.matrix_records-requires-clause-columns
matrix_records-requires-clause-columns c =
    let e = sym c.maker_command.ensures ∙ ap option_copied c.in-Some-Grid.is ∙ ap (λ x. Some x) c.in-Some-Grid.field-0-is in
    let h = limited_of_maker c.args.script.now c.args.line c.args.grid.now c.in-Some-Grid.field-0-0 c.in-Some-Grid.p c.in-Some-Grid.q c.in-Some-Grid.f c.requires.rules e in
    omega (arith, h.columns, c.from-in-Some-Grid.ensures)

pub matrix_records-requires-clause-few : goal.matrix_records-requires-clause-few
matrix_records-requires-clause-few c =
    let e = sym c.maker_command.ensures ∙ ap option_copied c.in-Some-Grid.is ∙ ap (λ x. Some x) c.in-Some-Grid.field-0-is in
    let h = limited_of_maker c.args.script.now c.args.line c.args.grid.now c.in-Some-Grid.field-0-0 c.in-Some-Grid.p c.in-Some-Grid.q c.in-Some-Grid.f c.requires.rules e in
    let g = groups-few c.args.n c.args.nb c.in-Some-Grid.q c.requires.block h.some_columns in
    omega (arith, g, c.requires.columns, c.from-in-Some-Grid-3.ensures, c.groups-groups.ensures.value)

pub matrix_records-requires-clause-code_columns : goal.matrix_records-requires-clause-code_columns
matrix_records-requires-clause-code_columns c =
    let e = sym c.maker_command.ensures ∙ ap option_copied c.in-Some-Grid.is ∙ ap (λ x. Some x) c.in-Some-Grid.field-0-is in
    let h = limited_of_maker c.args.script.now c.args.line c.args.grid.now c.in-Some-Grid.field-0-0 c.in-Some-Grid.p c.in-Some-Grid.q c.in-Some-Grid.f c.requires.rules e in
    omega (arith, h.code_columns, c.from-in-Some-Grid-2.ensures)
