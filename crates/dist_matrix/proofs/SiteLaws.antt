-- What a site answers from its table is what its script says.
use Rattle.std.proofs.Common.{◌≡◌, ◌&&◌, ◌||◌, ℕ, zero, suc, Bool, true, false, not, Option, Some, None, is_some, List, refl, sym, ap, subst, ◌∙◌, arith}
use Rattle.std.specs.Prelude.{◌==◌, if◌then◌else◌, min, unwrap_or, IfSome, nat_lt, nat_le, slice_index_or}
use Rattle.std.proofs.lemmas.Bool.Decides.{nat_tests}
use Rattle.run_data.specs.declared.command.Command.{Command}
use Rattle.run_data.specs.declared.command.Command.TheVariants as c
use Rattle.run_data.specs.Script.{Numbered, commands_of, command_at}
use Rattle.run_data.proofs.Lines.{command_at-before}
use Rattle.blacs_grid.specs.declared.Grid.{Grid}
use Rattle.rank_machine.specs.declared.mark.Mark.{Mark}
use Rattle.rank_machine.specs.declared.layout.Layout.{Layout}
use Rattle.rank_machine.specs.Setting.{Job, job_in, no_grid, no_layout, layout, is_matrix, factored, grid_numbered}
use Rattle.rank_machine.specs.Scripts.{grids_from}
use Rattle.rank_machine.specs.State.{first_mark}
use Rattle.rank_machine.specs.Effect.{has_ended, is_dropped, is_live_matrix, is_live_list}
use Rattle.script_lines.specs.declared.lines.Line.{Line}
use Rattle.script_lines.specs.Layouts.{IsLayout, jobs_of}
use Rattle.script_lines.specs.Lines.{setting_on, IsTableOf, AreSound}
use Rattle.script_lines.proofs.JobAt.{job_for, job-in_script}
use Rattle.script_lines.proofs.TableLaws.{layout_on, is_matrix_on, factored_on, is_live_matrix_on, is_live_list_on, factoring_on, layout_sound}
use Rattle.dist_matrix.specs.declared.site.ListShape.{ListShape}
use Rattle.dist_matrix.specs.Site.{SiteView, setting_in, is_matrix_line, shape_of, desc_under, list_shape, list_under, factoring_under, IsBare}

-- ---- answers that are there on a condition
pub some-if : {A : Type 0} (b : Bool) (x : A) → is_some (if b then Some x else None) ≡ b
some-if true x = refl
some-if false x = refl

-- what holds of the value holds of the answer
pub if-some : {A : Type 0} (b : Bool) (x : A) (P : A → Type 0) → P x → IfSome (if b then Some x else None) P
if-some true x P p = p
if-some false x P p = tt

-- an answer that is there is that value
pub if-is : {A : Type 0} (b : Bool) (x : A) → IfSome (if b then Some x else None) (λ y. (if b then Some x else None) ≡ Some y)
if-is true x = refl
if-is false x = tt

-- what holds of an answer holds of it under further conditions
pub if-fewer : {A : Type 0} (a b d : Bool) (x : A) (P : A → Type 0) → IfSome (if a then Some x else None) P → IfSome (if (a && b) && d then Some x else None) P
if-fewer true true true x P p = p
if-fewer true true false x P p = tt
if-fewer true false d x P p = tt
if-fewer false b d x P p = tt

-- ---- the setting of a script and that of its table
module _ (v : SiteView) (table : List Line) (is : IsTableOf (jobs_of v.script) table) where
  pub shape_of-on : (line : ℕ) → shape_of (setting_on 0 table) line ≡ shape_of (setting_in v) line
  shape_of-on line = λ i. if is_matrix_on (setting_in v) table 0 is line i then Some (layout_on (setting_in v) table 0 is line i).desc else None

  pub desc_under-on : (mark : Mark) (line : ℕ) → desc_under (setting_on 0 table) mark line ≡ desc_under (setting_in v) mark line
  desc_under-on mark line = λ i. if is_live_matrix_on (setting_in v) table 0 is mark line i then Some (layout_on (setting_in v) table 0 is line i).desc else None

  list_shape-on : (line : ℕ) → list_shape (setting_on 0 table) line ≡ list_shape (setting_in v) line
  list_shape-on line =
      let shape : Layout → ListShape = λ d. record { grid = d.desc.ctxt; n = min d.desc.m d.desc.n } in
      ap (λ matrix. shape (layout (setting_on 0 table) matrix)) (factored_on (setting_in v) table 0 is line)
      ∙ ap shape (layout_on (setting_in v) table 0 is (factored (setting_in v) line))

  pub list_under-on : (mark : Mark) (line : ℕ) → list_under (setting_on 0 table) mark line ≡ list_under (setting_in v) mark line
  list_under-on mark line = λ i. if is_live_list_on (setting_in v) table 0 is mark line i then Some (list_shape-on line i) else None

  pub factoring_under-on : (mark : Mark) → factoring_under (setting_on 0 table) mark ≡ factoring_under (setting_in v) mark
  factoring_under-on mark = ap (λ matrix. if matrix == 0 then None else Some (matrix, mark.line)) (factoring_on (setting_in v) table 0 is mark)

  pub layout-sound : AreSound table → (line : ℕ) → IsLayout (layout (setting_in v) line)
  layout-sound sound line = subst IsLayout (layout_on (setting_in v) table 0 is line) (layout_sound table 0 line sound)

-- ---- what a line of a script makes
is_matrix-for : (ns : List Numbered) (grids : List Grid) (line : ℕ) (o : Option Command) → is_some (job_for ns grids line o).makes ≡ is_matrix_line o
is_matrix-for ns grids line None = refl
is_matrix-for ns grids line (Some (c.Matrix name grid m n mb nb rsrc csrc file)) = refl
is_matrix-for ns grids line (Some command) = refl

pub is_matrix-line : (v : SiteView) (line : ℕ) → is_matrix (setting_in v) line ≡ is_matrix_line (command_at (commands_of v.script) line)
is_matrix-line v line =
    let ns = commands_of v.script in
    ap (λ (j : Job). is_some j.makes) (job-in_script v.script line) ∙ is_matrix-for ns (grids_from 0 ns) line (command_at ns line)

-- the grid on which a matrix lies is that whose number its descriptor has
abbrev pub IsOnGrid : List Grid → Layout → Type 0
IsOnGrid grids d = d.grid ≡ slice_index_or grids d.desc.ctxt no_grid

on_grid-for : (ns : List Numbered) (grids : List Grid) (line : ℕ) (o : Option Command) → IfSome (job_for ns grids line o).makes (IsOnGrid grids)
on_grid-for ns grids line None = tt
on_grid-for ns grids line (Some (c.Matrix name grid m n mb nb rsrc csrc file)) = refl
on_grid-for ns grids line (Some command) = tt

on_grid-layout : (grids : List Grid) (o : Option Layout) → IfSome o (IsOnGrid grids)
    → IfSome (if is_some o then Some (unwrap_or o no_layout).desc else None) (λ d. (unwrap_or o no_layout).grid ≡ slice_index_or grids d.ctxt no_grid)
on_grid-layout grids None p = tt
on_grid-layout grids (Some d) p = p

pub on_grid-shape : (v : SiteView) (line : ℕ) → IfSome (shape_of (setting_in v) line) (λ d. (layout (setting_in v) line).grid ≡ grid_numbered (setting_in v) d.ctxt)
on_grid-shape v line =
    let ns = commands_of v.script in
    let grids = grids_from 0 ns in
    let job : job_in (jobs_of v.script) line ≡ job_for ns grids line (command_at ns line) = job-in_script v.script line in
    on_grid-layout grids (job_in (jobs_of v.script) line).makes (subst (λ (j : Job). IfSome j.makes (IsOnGrid grids)) (sym job) (on_grid-for ns grids line (command_at ns line)))

-- ---- the line that factors
some_number : (n : ℕ) → not (n == 0) ≡ nat_lt 0 n
some_number n = grind (arith, nat_tests)

none-if : {A : Type 0} (b : Bool) (x : A) → is_some (if b then None else Some x) ≡ not b
none-if true x = refl
none-if false x = refl

pub factoring-some : (ended : Bool) (matrix line : ℕ)
    → let at : ℕ = if ended then 0 else matrix in let pair : ℕ × ℕ = (at, line) in is_some (if at == 0 then None else Some pair) ≡ (not ended && nat_lt 0 matrix)
factoring-some true matrix line = refl
factoring-some false matrix line = let pair : ℕ × ℕ = (matrix, line) in none-if (matrix == 0) pair ∙ some_number matrix

-- ---- before the first commit nothing is live
none_before : (line : ℕ) → nat_lt line 0 ≡ false
none_before line = grind (arith, nat_tests)

none_after : (line : ℕ) → nat_le (suc line) 0 ≡ false
none_after line = grind (arith, nat_tests)

and_false : (b : Bool) → (b && false) ≡ false
and_false true = refl
and_false false = refl

never_ended : (line : ℕ) → has_ended first_mark line ≡ false
never_ended line = ap (λ b. b || ((line == 0) && false)) (none_before line) ∙ and_false (line == 0)

not_both : (a d : Bool) → ((a && false) && d) ≡ false
not_both true d = refl
not_both false d = refl

no_factors : (v : SiteView) → factored (setting_in v) 0 ≡ 0
no_factors v =
    let ns = commands_of v.script in
    ap (λ (j : Job). j.factors) (job-in_script v.script 0 ∙ ap (job_for ns (grids_from 0 ns) 0) (command_at-before 1 v.script 0 (omega arith)))

no_list : (v : SiteView) (line : ℕ) → is_live_list (setting_in v) first_mark line ≡ false
no_list v zero = ap (λ n. (nat_lt 0 n && nat_le 0 0) && not (is_dropped (setting_in v) first_mark 0)) (no_factors v)
no_list v (suc line) =
    ap (λ b. (nat_lt 0 (factored (setting_in v) (suc line)) && b) && not (is_dropped (setting_in v) first_mark (suc line))) (none_after line)
    ∙ not_both (nat_lt 0 (factored (setting_in v) (suc line))) (not (is_dropped (setting_in v) first_mark (suc line)))

pub bare-first : (v : SiteView) → v.mark ≡ first_mark → IsBare v
bare-first v e = record {
  matrices = λ line. ap (λ mark. is_live_matrix (setting_in v) mark line) e
      ∙ ap (λ b. (is_matrix (setting_in v) line && b) && not (is_dropped (setting_in v) first_mark line)) (never_ended line)
      ∙ not_both (is_matrix (setting_in v) line) (not (is_dropped (setting_in v) first_mark line));
  lists = λ line. ap (λ mark. is_live_list (setting_in v) mark line) e ∙ no_list v line;
}
