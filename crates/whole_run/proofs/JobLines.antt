-- Which lines are jobs: those whose commands make records.
use Rattle.std.proofs.Common.{◌≡◌, ◌==◌, ◌||◌, ℕ, suc, Bool, true, false, List, [], ◌∷◌, Option, Some, None, refl, sym, ap, subst, ◌∙◌, ⊎_elim, arith}
use Rattle.std.specs.Prelude.{if◌then◌else◌, ◌<◌, ◌≤◌, ◌+◌}
use Rattle.std.proofs.lemmas.Bool.{true≢false, cases_Bool, or_cases, eqb-true, false_from_ne_true}
use Rattle.run_data.specs.declared.command.Command.{Command}
use Rattle.run_data.specs.Script.{Numbered, commands_from, commands_of, command_at, makes_records}
use Rattle.blacs_grid.specs.declared.Grid.{Grid}
use Rattle.rank_machine.specs.Setting.{Job, some_job, is_job}
use Rattle.rank_machine.specs.Scripts.{Matrices, jobs_from, job_of, grids_from, setting_of}
use Rattle.rank_machine.proofs.Jobs.{job_of-line}

-- the command on a line of a job
pub record HasCommand (ns : List Numbered) (at : ℕ) : Type 0 where
  pub command : Command
  pub there : command_at ns at ≡ Some command
  pub makes : makes_records command ≡ true

-- the lines of some commands are at least so great
least_line : (ns : List Numbered) (grids : List Grid) (n : ℕ) (lines : List (Option Command)) (at : ℕ) → some_job (jobs_from ns grids (commands_from n lines)) (λ j. j.line == at) ≡ true → n ≤ at
least_line ns grids n [] at h = absurd (true≢false (sym h))
least_line ns grids n (None ∷ lines) at h = omega (arith, least_line ns grids (suc n) lines at h)
least_line ns grids n (Some x ∷ lines) at h =
    ⊎_elim
    (λ (e : makes_records x ≡ true).
    ⊎_elim
    (λ (is : ((job_of ns grids n x).line == at) ≡ true). omega (arith, eqb-true (job_of ns grids n x).line at is, job_of-line ns grids n x))
    (λ (is : some_job (jobs_from ns grids (commands_from (suc n) lines)) (λ j. j.line == at) ≡ true). omega (arith, least_line ns grids (suc n) lines at is))
    (or_cases ((job_of ns grids n x).line == at) (some_job (jobs_from ns grids (commands_from (suc n) lines)) (λ j. j.line == at)) (taken true e)))
    (λ (e : makes_records x ≡ false). omega (arith, least_line ns grids (suc n) lines at (taken false e)))
    (cases_Bool (makes_records x))
  where
    taken : (b : Bool) → makes_records x ≡ b → some_job (if b then job_of ns grids n x ∷ jobs_from ns grids (commands_from (suc n) lines) else jobs_from ns grids (commands_from (suc n) lines)) (λ j. j.line == at) ≡ true
    taken b e = subst (λ b. some_job (if b then job_of ns grids n x ∷ jobs_from ns grids (commands_from (suc n) lines) else jobs_from ns grids (commands_from (suc n) lines)) (λ j. j.line == at) ≡ true) e h

command_there : (ns : List Numbered) (grids : List Grid) (n : ℕ) (lines : List (Option Command)) (at : ℕ) → some_job (jobs_from ns grids (commands_from n lines)) (λ j. j.line == at) ≡ true → HasCommand (commands_from n lines) at
command_there ns grids n [] at h = absurd (true≢false (sym h))
command_there ns grids n (None ∷ lines) at h = command_there ns grids (suc n) lines at h
command_there ns grids n (Some x ∷ lines) at h =
    ⊎_elim
    (λ (e : makes_records x ≡ true).
    ⊎_elim
    (λ (is : ((job_of ns grids n x).line == at) ≡ true).
    record { command = x; there = ap (λ b. if b then Some x else command_at (commands_from (suc n) lines) at) (same (sym (job_of-line ns grids n x)) is); makes = e })
    (λ (is : some_job (jobs_from ns grids (commands_from (suc n) lines)) (λ j. j.line == at) ≡ true). later is (command_there ns grids (suc n) lines at is))
    (or_cases ((job_of ns grids n x).line == at) (some_job (jobs_from ns grids (commands_from (suc n) lines)) (λ j. j.line == at)) (taken true e)))
    (λ (e : makes_records x ≡ false). later (taken false e) (command_there ns grids (suc n) lines at (taken false e)))
    (cases_Bool (makes_records x))
  where
    taken : (b : Bool) → makes_records x ≡ b → some_job (if b then job_of ns grids n x ∷ jobs_from ns grids (commands_from (suc n) lines) else jobs_from ns grids (commands_from (suc n) lines)) (λ j. j.line == at) ≡ true
    taken b e = subst (λ b. some_job (if b then job_of ns grids n x ∷ jobs_from ns grids (commands_from (suc n) lines) else jobs_from ns grids (commands_from (suc n) lines)) (λ j. j.line == at) ≡ true) e h

    same : {k : ℕ} → n ≡ k → (k == at) ≡ true → (n == at) ≡ true
    same e is = subst (λ m. (m == at) ≡ true) (sym e) is

    later : some_job (jobs_from ns grids (commands_from (suc n) lines)) (λ j. j.line == at) ≡ true → HasCommand (commands_from (suc n) lines) at → HasCommand (commands_from n (Some x ∷ lines)) at
    later is k =
        let past : (n == at) ≡ false = false_from_ne_true (n == at) (λ e. omega (arith, eqb-true n at e, least_line ns grids (suc n) lines at is)) in
        record { command = k.command; there = ap (λ b. if b then Some x else command_at (commands_from (suc n) lines) at) past ∙ k.there; makes = k.makes }

-- a job's line has a command that makes records
pub job-makes : (script : List (Option Command)) (files : Matrices) (at : ℕ) → is_job (setting_of script files) at ≡ true → HasCommand (commands_of script) at
job-makes script files at h = command_there (commands_of script) (grids_from 0 (commands_of script)) 1 script at h
