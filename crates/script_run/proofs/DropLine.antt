-- A `drop` line is driven by a commit alone, which ends it.
use Rattle.std.proofs.Common.{◌≡◌, ℕ, suc, Result, List, [], Option, Some, None, refl, sym, subst, arith}
use Rattle.std.specs.Prelude.{IfOk}
use Rattle.std.proofs.lemmas.List.{append-nil}
use Rattle.run_data.specs.declared.command.Command.{Command}
use Rattle.run_data.specs.declared.command.Command.TheVariants as c
use Rattle.run_data.specs.Script.{commands_of, command_at, modulus_of}
use Rattle.rank_machine.specs.declared.mark.Mark.{Mark}
use Rattle.rank_machine.specs.Scripts.{Matrices, setting_of}
use Rattle.rank_machine.specs.State.{end_mark}
use Rattle.block_world.specs.World.{WorldView, state_of}
use Rattle.run_laws.specs.LastCommit.{IsScripted}
use Rattle.phases.specs.Plans.{Progress}
use Rattle.plain_phases.specs.Ending.{MayEnd, end_plan}
use Rattle.world_heal.specs.Outcomes.{IfDrove}
use Rattle.world_heal.specs.declared.healing.Drove.{Drove}
use Rattle.world_heal.proofs.Outcomes.{if_ok, if_drove}
use Rattle.loss_recovery.proofs.Scripted.{IsScripted-sound}
use Rattle.whole_run.specs.Between.{HasRun}
use Rattle.whole_run.specs.Inside.{IsStopped}
use Rattle.whole_run.proofs.Ending.{setting_is}
use Rattle.whole_run.proofs.LineEnds.{line-ends}
use Rattle.line_phases.proofs.NextJob.{no-line_zero}
use Rattle.line_phases.proofs.DropLine.{drop-may, drop-ends}
use Rattle.script_run.specs.Runnable.{IsRunnable}
use Rattle.script_run.specs.Driving.{DropsName, IsWholeLine, HasDriven}
use Rattle.script_run.proofs.AcceptedSound.{accepted-sound}

pub dropped-name : (o : Option Command) → DropsName o → (name : List ℕ) × (o ≡ Some (c.Discard name))
dropped-name (Some (c.Discard name)) h = (name, refl)
dropped-name (Some x) h = absurd h
dropped-name None h = absurd h

module _ (script : List (Option Command)) (files : Matrices) (done : ℕ) (w : WorldView) (out : List ℕ) (h : IsRunnable script files) (before : HasRun script files done w out)
    (line : DropsName (command_at (commands_of script) (suc done))) (mark : Mark) (is : mark ≡ end_mark (suc done)) where
  dropped : (name : List ℕ) × (command_at (commands_of script) (suc done) ≡ Some (c.Discard name))
  dropped = dropped-name (command_at (commands_of script) (suc done)) line

  scripted : IsScripted (setting_of script files)
  scripted = IsScripted-sound (modulus_of (commands_of script)) (setting_of script files) (accepted-sound script files h) (no-line_zero script files)

  pub drop-whole : IsWholeLine script done (end_plan mark) w
  drop-whole =
      subst (λ m. IsWholeLine script done (end_plan m) w) (sym is)
      (record {
        command = c.Discard dropped.0;
        there = dropped.1;
        may = subst (λ s. MayEnd s (state_of w) (end_mark (suc done))) (sym (setting_is w script files before.script_is before.files_are)) (drop-may script files done w out dropped.0 h.accepted.lines scripted before dropped.1);
        mark = refl;
        few = omega arith;
      })

  ran : (progress : Progress) (new : WorldView) → HasDriven script (end_plan mark) progress w new → HasRun script files (suc done) new out
  ran progress new way =
      let k : HasDriven script (end_plan (end_mark (suc done))) progress w new = subst (λ m. HasDriven script (end_plan m) progress w new) is way in
      subst (λ text. HasRun script files (suc done) new text) (append-nil out)
      (line-ends script files done w new out (c.Discard dropped.0) [] before
      (drop-ends script files done w out dropped.0 h.accepted.lines scripted before dropped.1 new progress k.driven k.goes k.short k.heals k.held k.costs))

  pub drop-ran : {E : Type 0} (progress : Progress) (new : WorldView) (result : Result Drove E) → IfOk result (IfDrove (HasDriven script (end_plan mark) progress w new) (IsStopped script files done new out))
      → IfOk result (IfDrove (HasRun script files (suc done) new out) (IsStopped script files done new out))
  drop-ran progress new =
      if_ok (IfDrove (HasDriven script (end_plan mark) progress w new) (IsStopped script files done new out)) (IfDrove (HasRun script files (suc done) new out) (IsStopped script files done new out))
      (if_drove (HasDriven script (end_plan mark) progress w new) (HasRun script files (suc done) new out) (IsStopped script files done new out) (IsStopped script files done new out) (ran progress new) (λ drove cut. cut))
