-- A script that can be run, with its files, is one of which a World can be opened.
use Rattle.std.proofs.Common.{◌≡◌, ◌<◌, ◌≤◌, ℕ, true, List, [], ◌∷◌, ◌++◌, Option, Some, None, refl, sym, ap, subst, ◌∙◌, arith}
use Rattle.std.specs.Prelude.{All}
use Rattle.std.proofs.lemmas.Bool.{false≢true}
use Rattle.std.proofs.lemmas.List.Elements.{All-nil, All-cons}
use Rattle.run_data.specs.declared.command.Command.{Command}
use Rattle.run_data.specs.declared.command.Command.TheVariants as c
use Rattle.run_data.specs.Script.{Numbered, commands_of, command_at, modulus_of}
use Rattle.rank_machine.specs.declared.record.Loss.{Loss}
use Rattle.rank_machine.specs.Setting.{Setting, Job, ranks, sizes, job, is_matrix}
use Rattle.rank_machine.specs.Scripts.{Matrices, capacity_after, capacity_from, grids_from, loss_made, losses_in, setting_of}
use Rattle.script_rules.specs.Rules.{ranks_of}
use Rattle.script_lines.specs.Sound.{IsSound}
use Rattle.script_bounds.specs.Accepted.{KeepsRules}
use Rattle.script_rules.specs.Runs.{first_unrunnable}
use Rattle.script_bounds.proofs.Limits.{links_kept, lose_kept, run_kept}
use Rattle.script_lines.proofs.JobAt.{job_for, job-in_script}
use Rattle.script_laws.proofs.FieldLines.{accepted-large}
use Rattle.script_recovery.proofs.GridsAt.{sizes-from}
use Rattle.script_run.specs.Runnable.{IsRunnable}
use Rattle.script_run.proofs.EachCommand.{AreThere, there-all, there-first, there-later}
use Rattle.script_run.proofs.AcceptedGrids.{accepted-grids}
use Rattle.script_run.proofs.AcceptedLayouts.{accepted-layout}

-- ---- how many messages a link may hold
abbrev IsCapacity : ℕ → Type 0
IsCapacity n = (1 ≤ n) × (n ≤ 64)

capacity_next : (script : List (Option Command)) (line : ℕ) (command : Command) (before : ℕ) → KeepsRules script → command_at (commands_of script) line ≡ Some command → IsCapacity before → IsCapacity (capacity_after command before)
capacity_next script line (c.Links n) before h e within = links_kept script line n h e
capacity_next script line command before h e within = within

capacity_within : (script : List (Option Command)) (more : List Numbered) (before : ℕ) → KeepsRules script → AreThere (commands_of script) more → IsCapacity before → IsCapacity (capacity_from before more)
capacity_within script [] before h all within = within
capacity_within script (n ∷ more) before h all within =
    capacity_within script more (capacity_after n.command before) h (there-later (commands_of script) more n all)
    (capacity_next script n.line n.command before h (there-first (commands_of script) more n all) within)

-- ---- no line that the ranks can run multiplies by a factor of its own
no_scalars : (script : List (Option Command)) (files : Matrices) (line : ℕ) → first_unrunnable (commands_of script) ≡ None → (job (setting_of script files) line).scalars ≡ []
no_scalars script files line runs =
    ap (λ (j : Job). j.scalars) (job-in_script script line) ∙ by_command (command_at (commands_of script) line) refl
  where
    by_command : (o : Option Command) → command_at (commands_of script) line ≡ o → (job_for (commands_of script) (grids_from 0 (commands_of script)) line o).scalars ≡ []
    by_command (Some (c.Pgemm transa transb m n k alpha a ia ja b ib jb beta x ic jc)) e =
        absurd (false≢true (run_kept script line (c.Pgemm transa transb m n k alpha a ia ja b ib jb beta x ic jc) runs e))
    by_command (Some (c.Ptrsm side uplo transa diag m n alpha a ia ja b ib jb)) e =
        absurd (false≢true (run_kept script line (c.Ptrsm side uplo transa diag m n alpha a ia ja b ib jb) runs e))
    by_command (Some (c.Ptran m n alpha a ia ja beta x ic jc)) e =
        absurd (false≢true (run_kept script line (c.Ptran m n alpha a ia ja beta x ic jc) runs e))
    by_command (Some command) e = refl
    by_command None e = refl

-- ---- each loss is of a rank of the run
module _ (script : List (Option Command)) (h : KeepsRules script) where
  abbrev OfRun : Loss → Type 0
  OfRun l = l.rank < sizes (grids_from 0 (commands_of script))

  loss_before : (line : ℕ) (command : Command) (rest : List Loss) → command_at (commands_of script) line ≡ Some command → All OfRun rest → All OfRun (loss_made command ++ rest)
  loss_before line (c.Lose at rank) rest e all =
      All-cons OfRun (record { at = at; rank = rank }) rest (let lost = lose_kept script line at rank h e in let same = sizes-from [] (commands_of script) 0 in omega (arith, lost, same)) all
  loss_before line command rest e all = all

  losses_within : (more : List Numbered) → AreThere (commands_of script) more → All OfRun (losses_in more)
  losses_within [] all = All-nil OfRun
  losses_within (n ∷ more) all = loss_before n.line n.command (losses_in more) (there-first (commands_of script) more n all) (losses_within more (there-later (commands_of script) more n all))

pub accepted-sound : (script : List (Option Command)) (files : Matrices) → IsRunnable script files → IsSound (modulus_of (commands_of script)) (setting_of script files)
accepted-sound script files h =
    let s : Setting = setting_of script files in
    let p : ℕ = modulus_of (commands_of script) in
    let capacity : IsCapacity s.capacity = capacity_within script (commands_of script) 1 h.accepted.lines (there-all script) (omega arith, omega arith) in
    record {
      modulus = refl;
      large = accepted-large script h.accepted.lines;
      grids = accepted-grids script h.accepted.lines;
      layouts = λ line made. accepted-layout script files line h.accepted.lines made;
      files = λ line made. (h.has_files line made).words;
      scalars = λ line. subst (λ (l : List ℕ). All (λ a. a < p) l) (sym (no_scalars script files line h.runs)) (All-nil (λ a. a < p));
      of_ranks = losses_within script h.accepted.lines (commands_of script) (there-all script);
      some_messages = capacity.0;
      messages = capacity.1;
    }
