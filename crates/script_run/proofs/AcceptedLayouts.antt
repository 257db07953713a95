-- Each matrix of a script that keeps the rules lies within the limits, on its grid.
use Rattle.std.proofs.Common.{◌≡◌, ℕ, ◌+◌, ◌*◌, ◌≤◌, true, List, Option, Some, is_some, refl, sym, ap, ◌∙◌, subst, arith}
use Rattle.std.specs.Prelude.{unwrap_or, slice_index_or}
use Rattle.std.proofs.lemmas.Bool.{false≢true}
use Rattle.run_data.specs.declared.command.Command.{Command}
use Rattle.run_data.specs.declared.command.Command.TheVariants as c
use Rattle.run_data.specs.Script.{Numbered, commands_of, command_at, grids_before}
use Rattle.array_desc.specs.Descriptors.{desc_of, IsDesc}
use Rattle.blacs_grid.specs.declared.Grid.{Grid}
use Rattle.blacs_grid.specs.Limits.{rank_limit}
use Rattle.rank_machine.specs.declared.layout.Layout.{Layout}
use Rattle.rank_machine.specs.Setting.{sizes, no_grid, layout, is_matrix}
use Rattle.rank_machine.specs.Scripts.{Matrices, grids_from, line_meant, layout_on, setting_of}
use Rattle.script_bounds.specs.Accepted.{KeepsRules}
use Rattle.script_bounds.proofs.Limits.{HasLimits, MatrixKept, matrix_kept}
use Rattle.script_lines.specs.Layouts.{IsLayout}
use Rattle.script_lines.proofs.JobAt.{is_matrix_command, matrix_line-is, layout-is}
use Rattle.script_recovery.proofs.GridsAt.{LiesAt, LiesAt-from, commands-rise}
use Rattle.script_run.proofs.AcceptedGrids.{IsGrid-from_limits, sizes-few}

-- ---- the words of a matrix line
pub record MatrixWords (command : Option Command) : Type 0 where
  pub name : List ℕ
  pub grid : List ℕ
  pub m : ℕ
  pub n : ℕ
  pub mb : ℕ
  pub nb : ℕ
  pub rsrc : ℕ
  pub csrc : ℕ
  pub file : List ℕ
  pub is : command ≡ Some (c.Matrix name grid m n mb nb rsrc csrc file)

words-from : (command : Option Command) → is_matrix_command command ≡ true → MatrixWords command
words-from (Some (c.Matrix name grid m n mb nb rsrc csrc file)) h =
    record { name = name; grid = grid; m = m; n = n; mb = mb; nb = nb; rsrc = rsrc; csrc = csrc; file = file; is = refl }
words-from command h = absurd (false≢true h)

-- a line that makes a matrix is a matrix line
pub matrix_line-from : (script : List (Option Command)) (files : Matrices) (line : ℕ) → is_matrix (setting_of script files) line ≡ true → MatrixWords (command_at (commands_of script) line)
matrix_line-from script files line h = words-from (command_at (commands_of script) line) (matrix_line-is script line h)

-- ---- layouts
-- a matrix that keeps the rules lies where its grid begins
laid_on : (g : Grid) (p q f start number m n mb nb rsrc csrc : ℕ) → g ≡ record { p = p; q = q; f = f; first = start } → HasLimits p q f → start + p * (q + f) ≤ rank_limit
    → ((ctxt : ℕ) → IsDesc p q (desc_of ctxt p q m n mb nb rsrc csrc)) → IsLayout (layout_on number g m n mb nb rsrc csrc)
laid_on g p q f start number m n mb nb rsrc csrc e limits few in_range =
    let there : Grid = record { p = p; q = q; f = f; first = start } in
    let whole : IsLayout (layout_on number there m n mb nb rsrc csrc) = record { grid = IsGrid-from_limits p q f start limits few; desc = in_range number } in
    subst (λ (x : Grid). IsLayout (layout_on number x m n mb nb rsrc csrc)) (sym e) whole

pub accepted-layout : (script : List (Option Command)) (files : Matrices) (line : ℕ) → KeepsRules script → is_matrix (setting_of script files) line ≡ true → IsLayout (layout (setting_of script files) line)
accepted-layout script files line h made =
    let w = matrix_line-from script files line made in
    let ns : List Numbered = commands_of script in
    let grids : List Grid = grids_from 0 ns in
    let kept : MatrixKept ns line w.grid w.m w.n w.mb w.nb w.rsrc w.csrc w.file = matrix_kept script line w.name w.grid w.m w.n w.mb w.nb w.rsrc w.csrc w.file h w.is in
    let lies : LiesAt grids 0 (grids_before ns kept.on.at) kept.on.p kept.on.q kept.on.f = LiesAt-from ns 0 0 kept.on.at kept.on.made kept.on.p kept.on.q kept.on.f (commands-rise script) kept.on.grid in
    let number : line_meant ns line 2 ≡ grids_before ns kept.on.at = ap (λ (o : Option ℕ). unwrap_or o 0) kept.operand_is in
    let there : slice_index_or grids (line_meant ns line 2) no_grid ≡ record { p = kept.on.p; q = kept.on.q; f = kept.on.f; first = lies.start } = ap (λ (k : ℕ). slice_index_or grids k no_grid) number ∙ lies.grid in
    let few : sizes grids ≤ rank_limit = sizes-few script h in
    subst (λ (d : Layout). IsLayout d) (sym (layout-is script line w.name w.grid w.m w.n w.mb w.nb w.rsrc w.csrc w.file w.is))
    (laid_on (slice_index_or grids (line_meant ns line 2) no_grid) kept.on.p kept.on.q kept.on.f lies.start (line_meant ns line 2) w.m w.n w.mb w.nb w.rsrc w.csrc there kept.limits (omega (arith, lies.inside, few)) kept.in_range)
