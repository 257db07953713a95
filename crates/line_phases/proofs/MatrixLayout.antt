-- Where the matrix of a `matrix` line lies, by the words of the line and of its grid's, and how many records feeding it takes.
use Rattle.std.proofs.Common.{◌≡◌, ℕ, ◌≤◌, List, Option, Some, sym, ap, ◌∙◌, arith}
use Rattle.std.specs.Prelude.{unwrap_or, slice_index_or}
use Rattle.run_data.specs.declared.command.Command.{Command}
use Rattle.run_data.specs.declared.command.Command.TheVariants as c
use Rattle.run_data.specs.Script.{Numbered, commands_of, command_at, grids_before}
use Rattle.blacs_grid.specs.declared.Grid.{Grid}
use Rattle.rank_machine.specs.Setting.{no_grid, layout}
use Rattle.rank_machine.specs.Scripts.{Matrices, grids_from, line_meant, layout_on, setting_of}
use Rattle.script_lines.proofs.JobAt.{layout-is}
use Rattle.script_rules.specs.Rules.{command_on, maker_command}
use Rattle.script_bounds.specs.Accepted.{KeepsRules}
use Rattle.script_bounds.specs.Bounds.{records_of_matrix, records_in}
use Rattle.script_bounds.proofs.Limits.{MatrixKept, matrix_kept}
use Rattle.script_recovery.proofs.GridsAt.{LiesAt, LiesAt-from, commands-rise}
use Rattle.feed_laws.specs.Feeding.{feed_records}

-- the grid of the line's second name, and the layout on it
pub record LiesOn (script : List (Option Command)) (files : Matrices) (line : ℕ) (grid : List ℕ) (m n mb nb rsrc csrc : ℕ) : Type 0 where
  pub made : List ℕ
  pub p : ℕ
  pub q : ℕ
  pub f : ℕ
  pub number : ℕ
  pub first : ℕ
  pub named : maker_command (commands_of script) line grid ≡ Some (c.Grid made p q f)
  pub lies : layout (setting_of script files) line ≡ layout_on number (record { p = p; q = q; f = f; first = first }) m n mb nb rsrc csrc

pub lies-on : (script : List (Option Command)) (files : Matrices) (line : ℕ) (name grid : List ℕ) (m n mb nb rsrc csrc : ℕ) (file : List ℕ) → KeepsRules script → command_at (commands_of script) line ≡ Some (c.Matrix name grid m n mb nb rsrc csrc file)
    → LiesOn script files line grid m n mb nb rsrc csrc
lies-on script files line name grid m n mb nb rsrc csrc file kept e =
    let cs : List Numbered = commands_of script in
    let grids : List Grid = grids_from 0 cs in
    let k : MatrixKept cs line grid m n mb nb rsrc csrc file = matrix_kept script line name grid m n mb nb rsrc csrc file kept e in
    let at : LiesAt grids 0 (grids_before cs k.on.at) k.on.p k.on.q k.on.f = LiesAt-from cs 0 0 k.on.at k.on.made k.on.p k.on.q k.on.f (commands-rise script) k.on.grid in
    let number : line_meant cs line 2 ≡ grids_before cs k.on.at = ap (λ (o : Option ℕ). unwrap_or o 0) k.operand_is in
    let there : slice_index_or grids (line_meant cs line 2) no_grid ≡ record { p = k.on.p; q = k.on.q; f = k.on.f; first = at.start } = ap (λ (i : ℕ). slice_index_or grids i no_grid) number ∙ at.grid in
    record {
      made = k.on.made;
      p = k.on.p;
      q = k.on.q;
      f = k.on.f;
      number = line_meant cs line 2;
      first = at.start;
      named = ap (command_on cs) k.on.maker_is ∙ k.on.grid;
      lies = layout-is script line name grid m n mb nb rsrc csrc file e ∙ ap (λ g. layout_on (line_meant cs line 2) g m n mb nb rsrc csrc) there;
    }

no_more : (a b : ℕ) → a ≡ b → a ≤ b
no_more a b e = omega (arith, e)

pub feeds-few : (script : List (Option Command)) (files : Matrices) (line : ℕ) (name grid : List ℕ) (m n mb nb rsrc csrc : ℕ) (file : List ℕ) → KeepsRules script → command_at (commands_of script) line ≡ Some (c.Matrix name grid m n mb nb rsrc csrc file)
    → feed_records (layout (setting_of script files) line) ≤ records_in (commands_of script) line (c.Matrix name grid m n mb nb rsrc csrc file)
feeds-few script files line name grid m n mb nb rsrc csrc file kept e =
    let on : LiesOn script files line grid m n mb nb rsrc csrc = lies-on script files line name grid m n mb nb rsrc csrc file kept e in
    no_more (feed_records (layout (setting_of script files) line)) (records_in (commands_of script) line (c.Matrix name grid m n mb nb rsrc csrc file))
    (ap feed_records on.lies ∙ sym (ap (λ o. records_of_matrix o n nb) on.named))
