-- A product that is cut short inside its line.
use Rattle.std.proofs.Common.{◌≤◌, ◌*◌, ℕ, List, Option}
use Rattle.run_data.specs.Matrix.{Matrix}
use Rattle.run_data.specs.declared.command.Command.{Command}
use Rattle.run_data.specs.Script.{commands_of}
use Rattle.rank_machine.specs.declared.mark.Mark.{Mark}
use Rattle.rank_machine.specs.Scripts.{Matrices}
use Rattle.script_bounds.specs.Accepted.{KeepsRules}
use Rattle.script_bounds.specs.Bounds.{phase_steps}
use Rattle.block_world.specs.World.{WorldView, setting_in, state_of}
use Rattle.run_laws.specs.Due.{IsRunning}
use Rattle.run_laws.specs.Traces.{recovery_under}
use Rattle.loss_recovery.specs.Driven.{CostsAtMost, RecoversInTime, cost_of}
use Rattle.world_heal.specs.Costs.{KeepsGoing, KeepsShort, KeepsHolding}
use Rattle.world_heal.specs.Outcomes.{IsCutAt}
use Rattle.world_heal.specs.declared.healing.Drove.{Drove}
use Rattle.product_rounds.specs.declared.rounds.GroupProduct.{GroupProduct}
use Rattle.product_laws.specs.Multiplying.{product_task, product_plan, product_records}
use Rattle.whole_run.specs.Inside.{IsStopped}
use Rattle.whole_run.proofs.Keeping.{drive-stopped}
use Rattle.product_groups.specs.Groups.{at_group, HasGroups}

-- where the phase of a group was cut short, under either mark, so was the line
pub groups-stopped : (script : List (Option Command)) (files : Matrices) (done : ℕ) (x : GroupProduct) (a b c : Matrix) (group : ℕ) (old new : WorldView) (out : List ℕ) (drove : Drove) (mark : Mark) → HasGroups script files done x a b c group old out
    → KeepsRules script → IsRunning (setting_in old) old.journal → product_records x ≤ phase_steps (commands_of script) → IsCutAt old new drove
    → ((most recovery : ℕ) → product_records x ≤ most → recovery_under (setting_in old) (state_of old).mark ≤ recovery → CostsAtMost most recovery old new (cost_of (product_plan (product_task (at_group x group) mark)) drove))
    → RecoversInTime old new → KeepsGoing old new → ((most : ℕ) → product_records x ≤ most → KeepsShort most old new) → KeepsHolding old new → IsStopped script files done new out drove
groups-stopped script files done x a b c group old new out drove mark h kept running few cut costs in_time goes short held =
    drive-stopped script files done (group * product_records x) old new out drove (product_plan (product_task (at_group x group) mark)) kept h.partly.inside running few cut costs in_time goes short held
