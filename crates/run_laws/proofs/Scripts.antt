-- The jobs of a script rise.
use Rattle.std.proofs.Common.{◌≡◌, ◌<◌, ℕ, suc, true, false, Option, Some, None, List, [], ◌∷◌, sym, subst, ⊎_elim, arith}
use Rattle.std.specs.Prelude.{if◌then◌else◌}
use Rattle.std.proofs.lemmas.Bool.{cases_Bool}
use Rattle.run_data.specs.declared.command.Command.{Command}
use Rattle.run_data.specs.Script.{Numbered, commands_from, commands_of, makes_records}
use Rattle.blacs_grid.specs.declared.Grid.{Grid}
use Rattle.rank_machine.specs.Setting.{Job}
use Rattle.rank_machine.specs.Scripts.{grids_from, job_of, jobs_from, Matrices, setting_of}
use Rattle.rank_machine.proofs.Jobs.{job_of-line}
use Rattle.run_laws.specs.NextMark.{JobsRise}

rising_from : (ns : List Numbered) (grids : List Grid) (least n : ℕ) (lines : List (Option Command)) → least < n → JobsRise least (jobs_from ns grids (commands_from n lines))
rising_from ns grids least n [] lt = tt
rising_from ns grids least n (None ∷ lines) lt = rising_from ns grids least (suc n) lines (omega (arith, lt))
rising_from ns grids least n (Some command ∷ lines) lt =
    let job : Job = job_of ns grids n command in
    let more = jobs_from ns grids (commands_from (suc n) lines) in
    let line : job.line ≡ n = job_of-line ns grids n command in
    ⊎_elim
    (λ (e : makes_records command ≡ true).
    subst (λ b. JobsRise least (if b then job ∷ more else more)) (sym e)
    ((omega (arith, line, lt)), rising_from ns grids job.line (suc n) lines (omega (arith, line))))
    (λ (e : makes_records command ≡ false). subst (λ b. JobsRise least (if b then job ∷ more else more)) (sym e) (rising_from ns grids least (suc n) lines (omega (arith, lt))))
    (cases_Bool (makes_records command))

pub script_rising : (script : List (Option Command)) (files : Matrices) → JobsRise 0 (setting_of script files).jobs
script_rising script files = rising_from (commands_of script) (grids_from 0 (commands_of script)) 0 1 script (omega arith)
