-- What a line of a script asks of the machine.
use Rattle.std.proofs.Common.{◌≡◌, ◌<◌, ◌≤◌, ℕ, suc, Bool, true, false, cond, eqb, List, [], ◌∷◌, Option, Some, None, is_some, refl, sym, ap, ◌∙◌, ⊎_elim, arith}
use Rattle.std.specs.Prelude.{unwrap_or, nat_lt}
use Rattle.std.proofs.lemmas.Bool.{true≢false, cases_Bool, cases_lt, eqb-true}
use Rattle.std.proofs.lemmas.Bool.Decides.{nat_tests}
use Rattle.run_data.specs.declared.command.Command.{Command}
use Rattle.run_data.specs.declared.command.Command.TheVariants as c
use Rattle.run_data.specs.Script.{Numbered, commands_of, commands_from, command_at, makes_records}
use Rattle.array_desc.specs.Descriptors.{desc_of, IsDesc, first_bad_entry, is_between_one_and}
use Rattle.blacs_grid.specs.declared.Grid.{Grid}
use Rattle.rank_machine.specs.Setting.{Job, no_job, no_layout, job_in}
use Rattle.rank_machine.specs.Scripts.{job_of, jobs_from, grids_from, line_meant, layout_named}
use Rattle.rank_machine.proofs.Jobs.{job_of-line}
use Rattle.script_lines.specs.Layouts.{jobs_of, makes_matrix, layout_in}

-- what a command on a line asks, if there is one that makes records
abbrev pub job_for : List Numbered → List Grid → ℕ → Option Command → Job
job_for ns grids line None = no_job line
job_for ns grids line (Some command) = cond (makes_records command) (job_of ns grids line command) (no_job line)

skipped : (makes : Bool) (j : Job) (js : List Job) (line : ℕ) → eqb j.line line ≡ false → job_in (cond makes (j ∷ js) js) line ≡ job_in js line
skipped true j js line e = rw e refl
skipped false j js line e = refl

found : (makes : Bool) (j : Job) (js : List Job) (line : ℕ) → eqb j.line line ≡ true → job_in js line ≡ no_job line → job_in (cond makes (j ∷ js) js) line ≡ cond makes j (no_job line)
found true j js line e h = rw e refl
found false j js line e h = h

differs : (n line : ℕ) → line < n → eqb n line ≡ false
differs n line lt = grind (arith, nat_tests)

other_line : (ns : List Numbered) (grids : List Grid) (n line : ℕ) (command : Command) → eqb n line ≡ false → eqb (job_of ns grids n command).line line ≡ false
other_line ns grids n line command e = ap (λ k. eqb k line) (job_of-line ns grids n command) ∙ e

module _ (ns : List Numbered) (grids : List Grid) where
  -- lines before the first ask for nothing
  job-before : (n : ℕ) (lines : List (Option Command)) (line : ℕ) → line < n → job_in (jobs_from ns grids (commands_from n lines)) line ≡ no_job line
  job-before n [] line lt = refl
  job-before n (None ∷ ls) line lt = job-before (suc n) ls line (omega arith)
  job-before n (Some command ∷ ls) line lt =
      skipped (makes_records command) (job_of ns grids n command) (jobs_from ns grids (commands_from (suc n) ls)) line (other_line ns grids n line command (differs n line lt))
      ∙ job-before (suc n) ls line (omega arith)

  pub job-at : (n : ℕ) (lines : List (Option Command)) (line : ℕ) → job_in (jobs_from ns grids (commands_from n lines)) line ≡ job_for ns grids line (command_at (commands_from n lines) line)
  job-at n [] line = refl
  job-at n (None ∷ ls) line = job-at (suc n) ls line
  job-at n (Some command ∷ ls) line = ⊎_elim
      (λ (e : eqb n line ≡ true).
      let same : n ≡ line = eqb-true n line e in
      let js : List Job = jobs_from ns grids (commands_from (suc n) ls) in
      let after : job_in js line ≡ no_job line = job-before (suc n) ls line (omega (arith, same)) in
      found (makes_records command) (job_of ns grids n command) js line (ap (λ k. eqb k line) (job_of-line ns grids n command) ∙ e) after
      ∙ ap (λ k. cond (makes_records command) (job_of ns grids k command) (no_job line)) same
      ∙ sym (ap (λ b. job_for ns grids line (cond b (Some command) (command_at (commands_from (suc n) ls) line))) e))
      (λ (e : eqb n line ≡ false).
      skipped (makes_records command) (job_of ns grids n command) (jobs_from ns grids (commands_from (suc n) ls)) line (other_line ns grids n line command e)
      ∙ job-at (suc n) ls line
      ∙ sym (ap (λ b. job_for ns grids line (cond b (Some command) (command_at (commands_from (suc n) ls) line))) e))
      (cases_Bool (eqb n line))

-- the job of a line of a script
pub job-in_script : (script : List (Option Command)) (line : ℕ) → job_in (jobs_of script) line ≡ job_for (commands_of script) (grids_from 0 (commands_of script)) line (command_at (commands_of script) line)
job-in_script script line = job-at (commands_of script) (grids_from 0 (commands_of script)) 1 script line

-- only matrix lines make a matrix
abbrev pub is_matrix_command : Option Command → Bool
is_matrix_command (Some (c.Matrix name grid m n mb nb rsrc csrc file)) = true
is_matrix_command _ = false

made_by : (ns : List Numbered) (grids : List Grid) (line : ℕ) (o : Option Command) → is_some (job_for ns grids line o).makes ≡ true → is_matrix_command o ≡ true
made_by ns grids line (Some (c.Matrix name grid m n mb nb rsrc csrc file)) h = refl
made_by ns grids line None h = absurd (true≢false (sym h))
made_by ns grids line (Some (c.Grid name p q f)) h = absurd (true≢false (sym h))
made_by ns grids line (Some (c.Pgemm transa transb m n k alpha a ia ja b ib jb beta x ic jc)) h = absurd (true≢false (sym h))
made_by ns grids line (Some (c.Ptrsm side uplo transa diag m n alpha a ia ja b ib jb)) h = absurd (true≢false (sym h))
made_by ns grids line (Some (c.Pgetrf m n a ia ja v)) h = absurd (true≢false (sym h))
made_by ns grids line (Some (c.Pgetrs trans n nrhs a ia ja v b ib jb)) h = absurd (true≢false (sym h))
made_by ns grids line (Some (c.Pgemr2d m n a ia ja b ib jb ctxt)) h = absurd (true≢false (sym h))
made_by ns grids line (Some (c.Print name)) h = absurd (true≢false (sym h))
made_by ns grids line (Some (c.Pivots name)) h = absurd (true≢false (sym h))
made_by ns grids line (Some (c.Discard name)) h = absurd (true≢false (sym h))
made_by ns grids line (Some (c.Topology kind)) h = absurd (true≢false (sym h))
made_by ns grids line (Some (c.Links n)) h = absurd (true≢false (sym h))
made_by ns grids line (Some (c.Order numbers)) h = absurd (true≢false (sym h))
made_by ns grids line (Some (c.Lose at rank)) h = absurd (true≢false (sym h))
made_by ns grids line (Some (c.Spares n)) h = absurd (true≢false (sym h))
made_by ns grids line (Some (c.Field n)) h = absurd (true≢false (sym h))
made_by ns grids line (Some (c.Ptran m n alpha a ia ja beta x ic jc)) h = absurd (true≢false (sym h))
made_by ns grids line (Some (c.Pgetri n a ia ja v b ib jb)) h = absurd (true≢false (sym h))
made_by ns grids line (Some (c.Flip name i j x)) h = absurd (true≢false (sym h))
made_by ns grids line (Some (c.Pverify name)) h = absurd (true≢false (sym h))

pub matrix_line-is : (script : List (Option Command)) (line : ℕ) → makes_matrix script line ≡ true → is_matrix_command (command_at (commands_of script) line) ≡ true
matrix_line-is script line h = made_by (commands_of script) (grids_from 0 (commands_of script)) line (command_at (commands_of script) line) (sym (ap (λ (j : Job). is_some j.makes) (job-in_script script line)) ∙ h)

-- the layout of a matrix line
pub layout-is : (script : List (Option Command)) (line : ℕ) (name grid : List ℕ) (m n mb nb rsrc csrc : ℕ) (file : List ℕ)
    → command_at (commands_of script) line ≡ Some (c.Matrix name grid m n mb nb rsrc csrc file)
    → layout_in script line ≡ layout_named (grids_from 0 (commands_of script)) (line_meant (commands_of script) line 2) m n mb nb rsrc csrc
layout-is script line name grid m n mb nb rsrc csrc file e =
    ap (λ (j : Job). unwrap_or j.makes no_layout) (job-in_script script line ∙ ap (job_for (commands_of script) (grids_from 0 (commands_of script)) line) e)

-- the numbers of a descriptor in range are accepted
pub none_bad : (number p q m n mb nb rsrc csrc : ℕ) → IsDesc p q (desc_of number p q m n mb nb rsrc csrc) → first_bad_entry p q m n mb nb rsrc csrc ≡ None
none_bad number p q m n mb nb rsrc csrc h =
    rw (between 1024 m h.some_rows h.rows, between 1024 n h.some_columns h.columns, between 128 mb h.some_block_rows h.block_rows, between 128 nb h.some_block_columns h.block_columns, under rsrc p h.row_source, under csrc q h.column_source) refl
  where
    between : (limit x : ℕ) → 1 ≤ x → x ≤ limit → is_between_one_and limit x ≡ true
    between limit x a b = grind (arith, nat_tests)

    under : (x y : ℕ) → x < y → nat_lt x y ≡ true
    under x y lt = grind (arith, nat_tests)

-- a command that is no matrix line
pub not_matrix : (command : Command) → ((name grid : List ℕ) (m n mb nb rsrc csrc : ℕ) (file : List ℕ) → command ≡ c.Matrix name grid m n mb nb rsrc csrc file → ⊥) → is_matrix_command (Some command) ≡ true → ⊥
not_matrix (c.Matrix name grid m n mb nb rsrc csrc file) never h = never name grid m n mb nb rsrc csrc file refl
not_matrix (c.Grid name p q f) never h = true≢false (sym h)
not_matrix (c.Pgemm transa transb m n k alpha a ia ja b ib jb beta x ic jc) never h = true≢false (sym h)
not_matrix (c.Ptrsm side uplo transa diag m n alpha a ia ja b ib jb) never h = true≢false (sym h)
not_matrix (c.Pgetrf m n a ia ja v) never h = true≢false (sym h)
not_matrix (c.Pgetrs trans n nrhs a ia ja v b ib jb) never h = true≢false (sym h)
not_matrix (c.Pgemr2d m n a ia ja b ib jb ctxt) never h = true≢false (sym h)
not_matrix (c.Print name) never h = true≢false (sym h)
not_matrix (c.Pivots name) never h = true≢false (sym h)
not_matrix (c.Discard name) never h = true≢false (sym h)
not_matrix (c.Topology kind) never h = true≢false (sym h)
not_matrix (c.Links n) never h = true≢false (sym h)
not_matrix (c.Order numbers) never h = true≢false (sym h)
not_matrix (c.Lose at rank) never h = true≢false (sym h)
not_matrix (c.Spares n) never h = true≢false (sym h)
not_matrix (c.Field n) never h = true≢false (sym h)
not_matrix (c.Ptran m n alpha a ia ja beta x ic jc) never h = true≢false (sym h)
not_matrix (c.Pgetri n a ia ja v b ib jb) never h = true≢false (sym h)
not_matrix (c.Flip name i j x) never h = true≢false (sym h)
not_matrix (c.Pverify name) never h = true≢false (sym h)

-- line 0 makes no matrix
pub made-positive : (script : List (Option Command)) (line : ℕ) → makes_matrix script line ≡ true → 0 < line
made-positive script line h = ⊎_elim
    (λ (l : 0 < line). l)
    (λ (l : line ≤ 0).
    let e : line ≡ 0 = omega arith in
    let none : job_in (jobs_of script) 0 ≡ no_job 0 = job-before (commands_of script) (grids_from 0 (commands_of script)) 1 script 0 (omega arith) in
    absurd (true≢false (sym h ∙ ap (makes_matrix script) e ∙ ap (λ (j : Job). is_some j.makes) none)))
    (cases_lt 0 line)
