-- Each matrix of a script that keeps the rules lies on a grid of the run, by its number.
use Rattle.std.proofs.Common.{◌≡◌, ℕ, zero, suc, ◌+◌, ◌<◌, ◌≤◌, Bool, true, false, List, [], ◌∷◌, ◌++◌, length, slice_get, Option, Some, None, is_some, refl, sym, ap, subst, ◌∙◌, arith, inl, inr}
use Rattle.std.specs.Prelude.{if◌then◌else◌, unwrap_or, nat_lt, slice_index_or}
use Rattle.std.proofs.lemmas.Bool.{false≢true, cases_lt, le-ltb, lt-ltb, eq-eqb, ne_eqb}
use Rattle.std.proofs.lemmas.Option.{same_Some}
use Rattle.run_data.specs.declared.command.Command.{Command}
use Rattle.run_data.specs.declared.command.Command.TheVariants as c
use Rattle.run_data.specs.Script.{commands_from, commands_of, command_at, is_grid, grids_before}
use Rattle.run_data.proofs.Lines.{command_at-before}
use Rattle.blacs_grid.specs.declared.Grid.{Grid}
use Rattle.rank_machine.specs.declared.layout.Layout.{Layout}
use Rattle.rank_machine.specs.Setting.{Job, no_grid, no_layout, is_matrix, layout}
use Rattle.rank_machine.specs.Scripts.{Matrices, grid_made, ranks_made, grids_from, line_meant, layout_named, setting_of}
use Rattle.script_lines.specs.Sound.{IsSound}
use Rattle.script_lines.proofs.JobAt.{job_for, job-in_script}
use Rattle.script_bounds.specs.Accepted.{KeepsRules}
use Rattle.script_bounds.proofs.Limits.{matrix_kept}
use Rattle.blacs_grid.specs.Limits.{IsGrid}
use Rattle.round_laws.specs.Turns.{IsGridOf}
use Rattle.round_laws.proofs.GridsOfRun.{script_in_order, grid_of_run}
use Rattle.script_laws.specs.Lies.{LiesOnGrid}

-- ---- the grid of a line, by how many lines before it make one
none_yet : (k : ℕ) (lines : List (Option Command)) (at : ℕ) → at ≤ k → grids_before (commands_from k lines) at ≡ 0
none_yet k [] at le = refl
none_yet k (None ∷ lines) at le = none_yet (suc k) lines at (omega arith)
none_yet k (Some d ∷ lines) at le = (let past : nat_lt k at ≡ false = le-ltb k at le in let rest : grids_before (commands_from (suc k) lines) at ≡ 0 = none_yet (suc k) lines at (omega arith) in rw past (omega (arith, rest)))

made_first : (d : Command) (first : ℕ) (gs : List Grid) (n : ℕ) (g : Grid) → slice_get gs n ≡ Some g → slice_get (grid_made d first ++ gs) ((if is_grid d then 1 else 0) + n) ≡ Some g
made_first (c.Grid name p q f) first gs n g e = (let next : 1 + n ≡ suc n = omega arith in ap (slice_get (record { p = p; q = q; f = f; first = first } ∷ gs)) next ∙ e)
made_first d first gs n g e = (let same : 0 + n ≡ n = omega arith in ap (slice_get gs) same ∙ e)

there : (first k : ℕ) (lines : List (Option Command)) (at : ℕ) (name : List ℕ) (p q f : ℕ) → command_at (commands_from k lines) at ≡ Some (c.Grid name p q f)
    → (g : Grid) × (slice_get (grids_from first (commands_from k lines)) (grids_before (commands_from k lines) at) ≡ Some g)
there first k [] at name p q f e = absurd cc
there first k (None ∷ lines) at name p q f e = there first (suc k) lines at name p q f e
there first k (Some d ∷ lines) at name p q f e =
    elim (cases_lt k at) [
      | inl later ↦
          (let rest : command_at (commands_from (suc k) lines) at ≡ Some (c.Grid name p q f) = ap (λ (b : Bool). if b then Some d else command_at (commands_from (suc k) lines) at) (sym (ne_eqb k at (λ same. omega (arith, later, same)))) ∙ e in
          let found = there (first + ranks_made d) (suc k) lines at name p q f rest in
          let counts : nat_lt k at ≡ true = lt-ltb k at later in
          (found.0, rw counts (made_first d first (grids_from (first + ranks_made d) (commands_from (suc k) lines)) (grids_before (commands_from (suc k) lines) at) found.0 found.1)))
      | inr not_later ↦
          elim (cases_lt at k) [
            | inl before ↦ absurd (none_some (sym (before_first at before) ∙ e))
            | inr ge ↦
                (let here : k ≡ at = omega (arith, not_later, ge) in
                let is : d ≡ c.Grid name p q f = same_Some d (c.Grid name p q f) (ap (λ (b : Bool). if b then Some d else command_at (commands_from (suc k) lines) at) (sym (eq-eqb k at here)) ∙ e) in
                let past : nat_lt k at ≡ false = le-ltb k at not_later in
                let none : grids_before (commands_from (suc k) lines) at ≡ 0 = none_yet (suc k) lines at (omega (arith, not_later)) in (
                  record { p = p; q = q; f = f; first = first },
                  subst (λ (x : Command). slice_get (grid_made x first ++ grids_from (first + ranks_made x) (commands_from (suc k) lines)) ((if nat_lt k at then (if is_grid x then 1 else 0) else 0) + grids_before (commands_from (suc k) lines) at) ≡ Some (record { p = p; q = q; f = f; first = first })) (sym is)
                      (rw (past, none) refl),
                ))
          ]
    ]
  where
    before_first : (at : ℕ) → at < k → command_at (commands_from k (Some d ∷ lines)) at ≡ None
    before_first at lt = command_at-before k (Some d ∷ lines) at lt

    none_some : None ≡ Some (c.Grid name p q f) → ⊥
    none_some h = cc

read_there : (gs : List Grid) (n : ℕ) (g : Grid) → slice_get gs n ≡ Some g → (n < length gs) × (slice_index_or gs n no_grid ≡ g)
read_there [] n g e = absurd cc
read_there (x ∷ gs) zero g e = (omega arith, same_Some x g e)
read_there (x ∷ gs) (suc n) g e = (let rest = read_there gs n g e in (omega (arith, rest.0), rest.1))

-- ---- each matrix
pub matrix-lies : (script : List (Option Command)) (files : Matrices) (p : ℕ) (line : ℕ) → KeepsRules script → IsSound p (setting_of script files) → is_matrix (setting_of script files) line ≡ true → LiesOnGrid (setting_of script files) line
matrix-lies script files p line h sound made = by_command (command_at (commands_of script) line) refl
  where
    makes_is : (o : Option Command) → command_at (commands_of script) line ≡ o → is_some (job_for (commands_of script) (grids_from 0 (commands_of script)) line o).makes ≡ true
    makes_is o e = sym (ap (λ (j : Job). is_some j.makes) (job-in_script script line ∙ ap (job_for (commands_of script) (grids_from 0 (commands_of script)) line) e)) ∙ made

    by_command : (o : Option Command) → command_at (commands_of script) line ≡ o → LiesOnGrid (setting_of script files) line
    by_command (Some (c.Matrix name grid m n mb nb rsrc csrc file)) e =
        let ns = commands_of script in
        let gs = grids_from 0 ns in
        let kept = matrix_kept script line name grid m n mb nb rsrc csrc file h e in
        let number = grids_before ns kept.on.at in
        let found = there 0 1 script kept.on.at kept.on.made kept.on.p kept.on.q kept.on.f kept.on.grid in
        let at = read_there gs number found.0 found.1 in
        let meant : line_meant ns line 2 ≡ number = ap (λ (o : Option ℕ). unwrap_or o 0) kept.operand_is in
        let is : layout (setting_of script files) line ≡ layout_named gs number m n mb nb rsrc csrc =
        ap (λ (j : Job). unwrap_or j.makes no_layout) (job-in_script script line ∙ ap (job_for ns gs line) e) ∙ ap (λ k. layout_named gs k m n mb nb rsrc csrc) meant in
        let own : (layout (setting_of script files) line).grid ≡ found.0 = ap (λ (d : Layout). d.grid) is ∙ at.1 in
        let numbered : (layout (setting_of script files) line).desc.ctxt ≡ number = ap (λ (d : Layout). d.desc.ctxt) is in
        record {
          there = subst (λ k. k < length gs) (sym numbered) at.0;
          numbered = ap (λ (d : Layout). d.grid) is ∙ ap (λ k. slice_index_or gs k no_grid) (sym numbered);
          of_run = subst (λ g. IsGridOf (setting_of script files) g) (sym own) (grid_of_run (setting_of script files) number found.0 (script_in_order 0 ns) found.1 (subst (λ g. IsGrid g) own (sound.layouts line made).grid));
        }
    by_command (Some d) e = absurd (false≢true (makes_is (Some d) e))
    by_command None e = absurd (false≢true (makes_is None e))
