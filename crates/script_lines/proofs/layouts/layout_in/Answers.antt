use Rattle.std.proofs.Common.{Some, ap, sym, subst, ◌∙◌}
use Rattle.std.proofs.lemmas.Bool.{true≢false}
use Rattle.std.specs.Prelude.{slice_index_or, unwrap_or}
use Rattle.std.specs.Option.{option_copied}
use Rattle.rank_machine.specs.declared.layout.Layout.{Layout}
use Rattle.rank_machine.specs.Setting.{no_grid}
use Rattle.rank_machine.specs.Scripts.{layout_on}
use Rattle.array_desc.specs.declared.Desc.{Desc}
use Rattle.script_lines.specs.Layouts.{IsLayout}
use Rattle.script_lines.proofs.JobAt.{is_matrix_command, matrix_line-is, layout-is, not_matrix}
use Rattle.script_lines.proofs.layouts.layout_in.Goals as goal

pub unreachable-requires : goal.unreachable-requires
unreachable-requires c = true≢false (sym (matrix_line-is c.args.script.now c.args.line c.requires.makes) ∙ ap is_matrix_command (sym c.command.ensures ∙ ap option_copied c.in_default.is))

pub unreachable-requires-in_default-command : goal.unreachable-requires-in_default-command
unreachable-requires-in_default-command c =
    not_matrix c.in-Some.command.now (λ name grid m n mb nb rsrc csrc file e. c.in_default-command.not-Matrix _ _ _ _ _ _ _ _ _ e) (sym (ap is_matrix_command (sym c.command.ensures ∙ ap option_copied c.in-Some.is)) ∙ matrix_line-is c.args.script.now c.args.line c.requires.makes)

pub descriptor-requires : goal.descriptor-requires
descriptor-requires c =
    let f = c.in-Matrix in
    let at = sym c.command.ensures ∙ ap option_copied c.in-Some.is ∙ ap Some f.is in
    let number = c.unwrap_or-number.ensures ∙ ap (λ o. unwrap_or o 0) c.operand.ensures in
    let there = layout-is c.args.script.now c.args.line f.name f.grid f.m f.n f.mb f.nb f.rsrc f.csrc f.file at in
    let grid = c.grid_of-grid.ensures ∙ (λ i. slice_index_or (c.requires.grids i) (number i) no_grid) in
    subst IsLayout (there ∙ sym (λ i. layout_on (number i) (grid i) f.m f.n f.mb f.nb f.rsrc f.csrc)) c.requires.laid_out

pub returns : goal.returns
returns c =
    let f = c.in-Matrix in
    let at = sym c.command.ensures ∙ ap option_copied c.in-Some.is ∙ ap Some f.is in
    let number = c.unwrap_or-number.ensures ∙ ap (λ o. unwrap_or o 0) c.operand.ensures in
    let there = layout-is c.args.script.now c.args.line f.name f.grid f.m f.n f.mb f.nb f.rsrc f.csrc f.file at in
    let grid = c.grid_of-grid.ensures ∙ (λ i. slice_index_or (c.requires.grids i) (number i) no_grid) in
    ap (λ (d : Desc). let at : Layout = record { grid = c.grid_of-grid.result; desc = d } in at) c.descriptor.ensures
    ∙ (λ i. layout_on (number i) (grid i) f.m f.n f.mb f.nb f.rsrc f.csrc) ∙ sym there
