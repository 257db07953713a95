-- What a name of a line means, where it is a matrix: the line that made it, where it lies, and that it is live until a later line drops it.
use Rattle.std.proofs.Common.{◌≡◌, ◌≢◌, ℕ, zero, suc, ◌+◌, ◌*◌, ◌<◌, ◌≤◌, ◌==◌, ◌&&◌, nat_lt, not, true, List, [], ◌∷◌, Option, Some, is_some, refl, sym, ap, subst, ◌∙◌, ⊎_elim, arith}
use Rattle.std.specs.Prelude.{if◌then◌else◌, unwrap_or, slice_get, slice_index_or, length}
use Rattle.std.proofs.lemmas.Bool.{cases_lt, or_left, and_from, lt-ltb, not_from_false}
use Rattle.std.proofs.lemmas.Option.{same_Some}
use Rattle.std.proofs.lemmas.Slice.Eq.{bytes_eq-Decides}
use Rattle.run_data.specs.declared.command.Command.{Command}
use Rattle.run_data.specs.declared.command.Command.TheVariants as c
use Rattle.run_data.specs.Script.{Numbered, commands_of, command_at, maker, grids_before, name_in, operand_number, is_grid_line, meant}
use Rattle.blacs_grid.specs.declared.Grid.{Grid}
use Rattle.blacs_grid.specs.Limits.{IsGrid, rank_limit}
use Rattle.rank_machine.specs.declared.mark.Mark.{Mark}
use Rattle.rank_machine.specs.declared.layout.Layout.{Layout}
use Rattle.rank_machine.specs.Setting.{Job, sizes, no_job, no_grid, job, is_job, is_matrix, layout}
use Rattle.rank_machine.specs.Scripts.{Matrices, grids_from, line_meant, layout_on, layout_named, setting_of}
use Rattle.rank_machine.specs.Effect.{has_ended, is_dropped, is_live_matrix}
use Rattle.script_lines.specs.Layouts.{IsLayout}
use Rattle.script_lines.proofs.JobAt.{layout-is}
use Rattle.script_rules.specs.declared.distributions.Distribution.{Distribution}
use Rattle.script_rules.specs.Rules.{command_on, distribution_on, distribution_made, distribution_of}
use Rattle.script_rules.proofs.Before.{maker-lt}
use Rattle.script_bounds.specs.Accepted.{KeepsRules}
use Rattle.script_bounds.proofs.Limits.{HasLimits, MeansMatrix, MatrixKept, matrix_kept, ranks_few}
use Rattle.script_laws.proofs.Makers.{makes_name, made-once, maker-made, maker-after_drop}
use Rattle.script_recovery.proofs.GridsAt.{LiesAt, LiesAt-from, commands-rise, sizes-from}
use Rattle.script_recovery.proofs.StillThere.{above-none}
use Rattle.round_laws.specs.Turns.{IsGridOf}
use Rattle.round_laws.proofs.GridsOfRun.{script_in_order, grid_of_run}
use Rattle.whole_run.specs.Between.{Names}
use Rattle.line_phases.proofs.NextJob.{job-is, line-job, ended-by}
use Rattle.product_lines.specs.Lines.{IsMatrixOf}
use Rattle.product_lines.proofs.Jobs.{undropped}

-- ---- grids and layouts within the limits
is_grid : (p q f first : ℕ) → HasLimits p q f → first + p * (q + f) ≤ rank_limit → IsGrid (record { p = p; q = q; f = f; first = first })
is_grid p q f first limits few = record {
  some_rows = limits.some_rows;
  rows = limits.rows;
  some_columns = limits.some_columns;
  columns = limits.columns;
  code_columns = limits.code_columns;
  ranks = few;
}

ranks_fit : (script : List (Option Command)) → KeepsRules script → sizes (grids_from 0 (commands_of script)) ≤ rank_limit
ranks_fit script kept = let few = ranks_few script kept in let same = sizes-from [] (commands_of script) 0 in omega (arith, few, same)

grid_read : (gs : List Grid) (n : ℕ) → n < length gs → slice_get gs n ≡ Some (slice_index_or gs n no_grid)
grid_read [] n lt = absurd (omega arith)
grid_read (g ∷ gs) zero lt = refl
grid_read (g ∷ gs) (suc n) lt = grid_read gs n (omega (arith, lt))

-- ---- where the matrix of a name lies, by the words of its line
pub record LiesAs (script : List (Option Command)) (files : Matrices) (at : ℕ) (d : Distribution) : Type 0 where
  pub grid : (layout (setting_of script files) at).grid ≡ slice_index_or (grids_from 0 (commands_of script)) (grids_before (commands_of script) d.grid) no_grid
  pub rows : (layout (setting_of script files) at).desc.m ≡ d.m
  pub columns : (layout (setting_of script files) at).desc.n ≡ d.n
  pub row_blocks : (layout (setting_of script files) at).desc.mb ≡ d.mb
  pub column_blocks : (layout (setting_of script files) at).desc.nb ≡ d.nb
  pub row_source : (layout (setting_of script files) at).desc.rsrc ≡ d.rsrc
  pub column_source : (layout (setting_of script files) at).desc.csrc ≡ d.csrc
  pub process_rows : (layout (setting_of script files) at).grid.p ≡ d.p
  pub process_columns : (layout (setting_of script files) at).grid.q ≡ d.q
  pub code_columns : (layout (setting_of script files) at).grid.f ≡ d.f

-- the line of a word of a command, where the word's name means a matrix
pub word-meant : (cs : List Numbered) (line word : ℕ) (x : Command) (name : List ℕ) → command_at cs line ≡ Some x → name_in (Some x) word ≡ Some name → (means : MeansMatrix cs line name) → line_meant cs line word ≡ means.at
word-meant cs line word x name e is means =
    ap (λ (o : Option Command). unwrap_or (meant cs line (name_in o word)) 0) e
    ∙ (ap (λ (o : Option (List ℕ)). unwrap_or (meant cs line o) 0) is
    ∙ (ap (λ (o : Option ℕ). unwrap_or (operand_number cs o) 0) means.maker_is
    ∙ ap (λ (o : Option Command). if is_grid_line o then grids_before cs means.at else means.at) means.matrix))

module _ (script : List (Option Command)) (files : Matrices) (line : ℕ) (name : List ℕ) (kept : KeepsRules script) (means : MeansMatrix (commands_of script) line name) where
  line_kept : MatrixKept (commands_of script) means.at means.grid means.m means.n means.mb means.nb means.rsrc means.csrc means.file
  line_kept = matrix_kept script means.at means.made means.grid means.m means.n means.mb means.nb means.rsrc means.csrc means.file kept means.matrix

  own_job : job (setting_of script files) means.at
      ≡ record (no_job means.at) { makes = Some (layout_named (grids_from 0 (commands_of script)) (line_meant (commands_of script) means.at 2) means.m means.n means.mb means.nb means.rsrc means.csrc) }
  own_job = job-is script files means.at (c.Matrix means.made means.grid means.m means.n means.mb means.nb means.rsrc means.csrc means.file) means.matrix

  grid_lies : LiesAt (grids_from 0 (commands_of script)) 0 (grids_before (commands_of script) line_kept.on.at) line_kept.on.p line_kept.on.q line_kept.on.f
  grid_lies = LiesAt-from (commands_of script) 0 0 line_kept.on.at line_kept.on.made line_kept.on.p line_kept.on.q line_kept.on.f (commands-rise script) line_kept.on.grid

  lies : layout (setting_of script files) means.at
      ≡ layout_named (grids_from 0 (commands_of script)) (grids_before (commands_of script) line_kept.on.at) means.m means.n means.mb means.nb means.rsrc means.csrc
  lies =
      layout-is script means.at means.made means.grid means.m means.n means.mb means.nb means.rsrc means.csrc means.file means.matrix
      ∙ ap (λ (k : ℕ). layout_named (grids_from 0 (commands_of script)) k means.m means.n means.mb means.nb means.rsrc means.csrc) (ap (λ (o : Option ℕ). unwrap_or o 0) line_kept.operand_is)

  -- the grid that it lies on
  abbrev here : Grid
  here = record { p = line_kept.on.p; q = line_kept.on.q; f = line_kept.on.f; first = grid_lies.start }

  lies_here : layout (setting_of script files) means.at ≡ layout_on (grids_before (commands_of script) line_kept.on.at) here means.m means.n means.mb means.nb means.rsrc means.csrc
  lies_here = lies ∙ ap (λ (g : Grid). layout_on (grids_before (commands_of script) line_kept.on.at) g means.m means.n means.mb means.nb means.rsrc means.csrc) grid_lies.grid

  distribution_is : distribution_of (commands_of script) line name
      ≡ record { grid = line_kept.on.at; p = line_kept.on.p; q = line_kept.on.q; f = line_kept.on.f; m = means.m; n = means.n; mb = means.mb; nb = means.nb; rsrc = means.rsrc; csrc = means.csrc }
  distribution_is =
      let cs = commands_of script in
      ap (λ (o : Option ℕ). distribution_made cs o (command_on cs o)) means.maker_is
      ∙ (ap (distribution_made cs (Some means.at)) means.matrix
      ∙ (ap (λ (o : Option ℕ). distribution_on o (command_on cs o) means.m means.n means.mb means.nb means.rsrc means.csrc) line_kept.on.maker_is
      ∙ ap (λ (o : Option Command). distribution_on (Some line_kept.on.at) o means.m means.n means.mb means.nb means.rsrc means.csrc) line_kept.on.grid))

  pub lies-as : LiesAs script files means.at (distribution_of (commands_of script) line name)
  lies-as =
      let cs = commands_of script in
      record {
        grid = ap (λ (d : Layout). d.grid) lies ∙ sym (ap (λ (d : Distribution). slice_index_or (grids_from 0 cs) (grids_before cs d.grid) no_grid) distribution_is);
        rows = ap (λ (d : Layout). d.desc.m) lies ∙ sym (ap (λ (d : Distribution). d.m) distribution_is);
        columns = ap (λ (d : Layout). d.desc.n) lies ∙ sym (ap (λ (d : Distribution). d.n) distribution_is);
        row_blocks = ap (λ (d : Layout). d.desc.mb) lies ∙ sym (ap (λ (d : Distribution). d.mb) distribution_is);
        column_blocks = ap (λ (d : Layout). d.desc.nb) lies ∙ sym (ap (λ (d : Distribution). d.nb) distribution_is);
        row_source = ap (λ (d : Layout). d.desc.rsrc) lies ∙ sym (ap (λ (d : Distribution). d.rsrc) distribution_is);
        column_source = ap (λ (d : Layout). d.desc.csrc) lies ∙ sym (ap (λ (d : Distribution). d.csrc) distribution_is);
        process_rows = ap (λ (d : Layout). d.grid.p) lies_here ∙ sym (ap (λ (d : Distribution). d.p) distribution_is);
        process_columns = ap (λ (d : Layout). d.grid.q) lies_here ∙ sym (ap (λ (d : Distribution). d.q) distribution_is);
        code_columns = ap (λ (d : Layout). d.grid.f) lies_here ∙ sym (ap (λ (d : Distribution). d.f) distribution_is);
      }

  -- its grid is one of the run, and its descriptor is in range
  grid_fits : IsGrid here
  grid_fits = is_grid line_kept.on.p line_kept.on.q line_kept.on.f grid_lies.start line_kept.limits (let few = ranks_fit script kept in omega (arith, few, grid_lies.inside))

  fits : IsLayout (layout (setting_of script files) means.at)
  fits =
      let whole : IsLayout (layout_on (grids_before (commands_of script) line_kept.on.at) here means.m means.n means.mb means.nb means.rsrc means.csrc) =
      record { grid = grid_fits; desc = line_kept.in_range (grids_before (commands_of script) line_kept.on.at) } in
      subst (λ (d : Layout). IsLayout d) (sym lies_here) whole

  grid_stands : IsGridOf (setting_of script files) (layout (setting_of script files) means.at).grid
  grid_stands =
      let cs = commands_of script in
      let number = grids_before cs line_kept.on.at in
      let read : slice_get (grids_from 0 cs) number ≡ Some here = grid_read (grids_from 0 cs) number grid_lies.there ∙ ap (λ (g : Grid). Some g) grid_lies.grid in
      subst (λ (g : Grid). IsGridOf (setting_of script files) g) (sym (ap (λ (d : Layout). d.grid) lies_here))
      (grid_of_run (setting_of script files) number here (script_in_order 0 cs) read grid_fits)

  -- the line that made it
  made_before : means.at < line
  made_before = maker-lt (commands_of script) line name means.at means.maker_is

  at_some : 0 < means.at
  at_some = let low = above-none script means.at (c.Matrix means.made means.grid means.m means.n means.mb means.nb means.rsrc means.csrc means.file) means.matrix in omega (arith, low)

  makes_matrix : is_matrix (setting_of script files) means.at ≡ true
  makes_matrix = ap (λ (j : Job). is_some j.makes) own_job

  made_as : makes_name (command_at (commands_of script) means.at) name ≡ true
  made_as = maker-made script line name means.at means.maker_is made_before

  names_it : Names (commands_of script) means.at name
  names_it =
      let same : means.made ≡ name = (bytes_eq-Decides means.made name).0 (sym (ap (λ (o : Option Command). makes_name o name) means.matrix) ∙ made_as) in
      (c.Matrix means.made means.grid means.m means.n means.mb means.nb means.rsrc means.csrc means.file, means.matrix, ap (λ (x : List ℕ). Some x) same)

  -- no `drop` line before means it
  never_dropped : (at : ℕ) (dropped : List ℕ) → command_at (commands_of script) at ≡ Some (c.Discard dropped) → at < line → maker (commands_of script) at dropped ≡ Some means.at → ⊥
  never_dropped at dropped there before drops =
      let cs = commands_of script in
      let first : means.at < at = maker-lt cs at dropped means.at drops in
      let same : name ≡ dropped = made-once (command_at cs means.at) name dropped made_as (maker-made script at dropped means.at drops first) in
      let again : at < means.at = maker-after_drop script at line dropped means.at (above-none script at (c.Discard dropped) there) before there (subst (λ n. maker cs line n ≡ Some means.at) same means.maker_is) in
      omega (arith, first, again)

  live_over : (mark : Mark) → has_ended mark means.at ≡ true
      → ((at : ℕ) (dropped : List ℕ) → command_at (commands_of script) at ≡ Some (c.Discard dropped) → is_job (setting_of script files) at ≡ true → has_ended mark at ≡ true → at < line)
      → is_live_matrix (setting_of script files) mark means.at ≡ true
  live_over mark ended before =
      let s = setting_of script files in
      and_from (is_matrix s means.at && has_ended mark means.at) (not (is_dropped s mark means.at)) (and_from (is_matrix s means.at) (has_ended mark means.at) makes_matrix ended)
      (not_from_false (is_dropped s mark means.at) (undropped script files mark means.at kept at_some (λ at dropped there job over drops. never_dropped at dropped there (before at dropped there job over) drops)))

  -- a line that is no `drop` line drops nothing
  live_here : ((dropped : List ℕ) → command_at (commands_of script) line ≡ Some (c.Discard dropped) → ⊥) → (mark : Mark) → mark.line ≡ line → is_live_matrix (setting_of script files) mark means.at ≡ true
  live_here no_drop mark on =
      let first : means.at < mark.line = omega (arith, on, made_before) in
      live_over mark (or_left (nat_lt means.at mark.line) ((means.at == mark.line) && mark.ended) (lt-ltb means.at mark.line first))
      (λ at dropped there job over.
      let le : at ≤ mark.line = ended-by mark at over in
      let other : at ≢ line = λ same. no_drop dropped (subst (λ k. command_at (commands_of script) k ≡ Some (c.Discard dropped)) same there) in
      before_other at mark.line line le on other)
    where
      before_other : (at last line : ℕ) → at ≤ last → last ≡ line → at ≢ line → at < line
      before_other at last line le on other = ⊎_elim (λ (h : at < line). h) (λ (h : line ≤ at). absurd (other (omega (arith, le, on, h)))) (cases_lt at line)

  -- all of it, for the line that a word of a command on the line means
  matrix_meant : ((dropped : List ℕ) → command_at (commands_of script) line ≡ Some (c.Discard dropped) → ⊥) → IsMatrixOf script files line name means.at
  matrix_meant no_drop = record {
    maker_is = means.maker_is;
    some_line = at_some;
    before = made_before;
    made = makes_matrix;
    makes_records = line-job script files means.at (c.Matrix means.made means.grid means.m means.n means.mb means.nb means.rsrc means.csrc means.file) means.matrix refl;
    plain = ap (λ (j : Job). j.factors) own_job;
    named = names_it;
    laid_out = fits;
    of_run = grid_stands;
    live = λ mark ended before. live_over mark ended (λ at dropped there job over. before at job over);
    stays = live_here no_drop;
  }

-- what a name of a command on a line means, at the line that its word means
pub matrix-meant : (script : List (Option Command)) (files : Matrices) (line word : ℕ) (x : Command) (name : List ℕ) → KeepsRules script → command_at (commands_of script) line ≡ Some x → name_in (Some x) word ≡ Some name
    → ((dropped : List ℕ) → x ≡ c.Discard dropped → ⊥) → MeansMatrix (commands_of script) line name
    → IsMatrixOf script files line name (line_meant (commands_of script) line word) × LiesAs script files (line_meant (commands_of script) line word) (distribution_of (commands_of script) line name)
matrix-meant script files line word x name kept e is no_drop means =
    let cs = commands_of script in
    let on : means.at ≡ line_meant cs line word = sym (word-meant cs line word x name e is means) in
    subst (λ k. IsMatrixOf script files line name k × LiesAs script files k (distribution_of cs line name)) on
    (matrix_meant script files line name kept means (λ dropped there. no_drop dropped (same_Some x (c.Discard dropped) (sym e ∙ there))), lies-as script files line name kept means)
