-- What the clauses of `drive` say of a script's bounds.
use Rattle.std.proofs.Common.{◌≡◌, ℕ, ◌≤◌, List, Option, refl, sym, ap, subst, ◌∙◌}
use Rattle.run_data.specs.declared.command.Command.{Command}
use Rattle.run_data.specs.Script.{commands_of}
use Rattle.rank_machine.specs.Setting.{Setting}
use Rattle.rank_machine.specs.Scripts.{Matrices, setting_of}
use Rattle.rank_machine.specs.State.{State}
use Rattle.rank_machine.specs.Effect.{state_after}
use Rattle.rank_machine.specs.Legal.{IsLegal}
use Rattle.rank_machine.specs.JournalText.{journal_text}
use Rattle.script_bounds.specs.Accepted.{KeepsRules}
use Rattle.script_bounds.specs.Bounds.{phase_steps, recovery_steps}
use Rattle.block_world.specs.World.{WorldView, setting_in, state_of}
use Rattle.run_laws.specs.Due.{IsRunning}
use Rattle.run_laws.specs.Traces.{recovery_under}
use Rattle.phases.specs.Plans.{Plan}
use Rattle.loss_recovery.specs.Driven.{CostsAtMost, RecoversInTime, cost_of}
use Rattle.world_heal.specs.Costs.{KeepsGoing, KeepsShort, KeepsHolding}
use Rattle.world_heal.specs.Outcomes.{IsCutAt, IsEnding}
use Rattle.world_heal.specs.declared.healing.Drove.{Drove}
use Rattle.world_heal.specs.declared.healing.Drove.TheVariants as d
use Rattle.whole_run.specs.Inside.{IsInside, IsStopped, ending_at}
use Rattle.whole_run.specs.WholeRun.{IsRunOf}
use Rattle.whole_run.proofs.Ending.{run-cut}
use Rattle.script_recovery.proofs.MarksMost.{recovery-most}

-- inside a line a recovery takes no more than the script's bound counts for one
pub recovery-inside : (script : List (Option Command)) (files : Matrices) (line used : ℕ) (w : WorldView) (out : List ℕ) → KeepsRules script → IsInside script files line used w out → IsRunning (setting_in w) w.journal
    → recovery_under (setting_in w) (state_of w).mark ≤ recovery_steps (commands_of script)
recovery-inside script files line used w out kept h running =
    let same : setting_in w ≡ setting_of script files = ap (λ x. setting_of x w.files) h.script_is ∙ ap (setting_of script) h.files_are in
    let most : recovery_under (setting_of script files) (state_after (setting_of script files) w.journal).mark ≤ recovery_steps (commands_of script) =
    recovery-most script files w.journal kept (subst (λ s. IsLegal s w.journal) same running.legal) in
    subst (λ (s : Setting). recovery_under s (state_after s w.journal).mark ≤ recovery_steps (commands_of script)) (sym same) most

no_cost : (plan : Plan) (s : Setting) (st : State) (drove : Drove) → IsEnding s st drove → cost_of plan drove ≡ 0
no_cost plan s st d.Done h = absurd h
no_cost plan s st (d.Beyond grid row) h = refl
no_cost plan s st (d.NoSpare rank) h = refl

-- a cut by `drive`, with its clauses
pub drive-stopped : (script : List (Option Command)) (files : Matrices) (line used : ℕ) (old new : WorldView) (out : List ℕ) (drove : Drove) (plan : Plan) → KeepsRules script → IsInside script files line used old out → IsRunning (setting_in old) old.journal
    → plan.most_records ≤ phase_steps (commands_of script) → IsCutAt old new drove
    → ((most recovery : ℕ) → plan.most_records ≤ most → recovery_under (setting_in old) (state_of old).mark ≤ recovery → CostsAtMost most recovery old new (cost_of plan drove))
    → RecoversInTime old new → KeepsGoing old new → ((most : ℕ) → plan.most_records ≤ most → KeepsShort most old new) → KeepsHolding old new → IsStopped script files line new out drove
drive-stopped script files line used old new out drove plan kept h running few cut costs in_time goes short held =
    let most : recovery_under (setting_in old) (state_of old).mark ≤ recovery_steps (commands_of script) = recovery-inside script files line used old out kept h running in
    let none : cost_of plan drove ≡ 0 = no_cost plan (setting_in new) (state_of new) drove cut.ending in
    record {
      last = old;
      used = used;
      inside = h;
      cut = cut;
      keeps = record {
        goes = goes;
        short = short (phase_steps (commands_of script)) few;
        heals = in_time (recovery_steps (commands_of script)) most;
        held = held;
        costs = subst (λ k. CostsAtMost (phase_steps (commands_of script)) (recovery_steps (commands_of script)) old new k) none (costs (phase_steps (commands_of script)) (recovery_steps (commands_of script)) few most);
      };
    }

-- a run that was stopped
pub run-stopped : (script : List (Option Command)) (files : Matrices) (line : ℕ) (w : WorldView) (out : List ℕ) (drove : Drove) → IsStopped script files line w out drove → IsRunning (setting_in w) w.journal
    → IsRunOf script files (ending_at drove) out (journal_text w.journal)
run-stopped script files line w out drove h running = run-cut script files line h.used h.last w out drove h.inside h.cut h.keeps running
