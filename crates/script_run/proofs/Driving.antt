-- From the clauses of `drive` to what a run of the script's lines asks.
use Rattle.std.proofs.Common.{◌≡◌, ◌≤◌, ◌==◌, ℕ, suc, true, false, Result, Ok, Err, List, [], ◌∷◌, Option, Some, refl, sym, ap, subst, ◌∙◌, ⊎_elim, arith}
use Rattle.std.specs.Prelude.{IfOk, OnOk, if◌then◌else◌}
use Rattle.std.proofs.lemmas.Bool.{false≢true, cases_Bool, eqb-true}
use Rattle.std.proofs.lemmas.Option.{same_Some}
use Rattle.run_data.specs.declared.command.Command.{Command}
use Rattle.run_data.specs.declared.command.Command.TheVariants as c
use Rattle.run_data.specs.Script.{Numbered, commands_of, command_at, modulus_of}
use Rattle.rank_machine.specs.Scripts.{Matrices, setting_of}
use Rattle.script_bounds.specs.Bounds.{steps_in, records_in, greatest, phase_steps, recovery_steps}
use Rattle.script_bounds.proofs.Limits.{run_kept}
use Rattle.script_rules.specs.Runs.{can_run}
use Rattle.script_lines.specs.Sound.{IsSound}
use Rattle.block_world.specs.World.{WorldView, setting_in, state_of}
use Rattle.run_laws.specs.Due.{IsRunning}
use Rattle.run_laws.specs.Traces.{recovery_under}
use Rattle.phases.specs.Plans.{Plan, Progress}
use Rattle.world_heal.specs.Costs.{KeepsGoing, KeepsShort, HoldsWords}
use Rattle.world_heal.specs.Mended.{IsMendable}
use Rattle.world_heal.specs.Outcomes.{IfDrove, IsCutAt}
use Rattle.world_heal.specs.declared.healing.Drove.{Drove}
use Rattle.world_heal.specs.declared.healing.Drove.TheVariants as d
use Rattle.loss_recovery.specs.Driven.{CostsAtMost, RecoversInTime, HoldsDriven, cost_of, IsDriven}
use Rattle.whole_run.specs.Between.{HasRun}
use Rattle.whole_run.specs.Inside.{IsStopped}
use Rattle.whole_run.proofs.Ending.{setting_is, inside}
use Rattle.whole_run.proofs.Keeping.{recovery-inside, drive-stopped}
use Rattle.whole_run.proofs.Measured.{before-measured, after-measured}
use Rattle.whole_run.proofs.Mendable.{accepted-mendable}
use Rattle.script_run.specs.Runnable.{IsRunnable}
use Rattle.script_run.specs.Driving.{IsWholeLine, HasDriven}
use Rattle.script_run.proofs.AcceptedSound.{accepted-sound}

-- ---- a line that the ranks can run is one phase
one_phase : (cs : List Numbered) (line : ℕ) (x : Command) → can_run x ≡ true → records_in cs line x ≡ (steps_in cs line x).phase
one_phase cs line (c.Grid name p q f) can = refl
one_phase cs line (c.Matrix name grid m n mb nb rsrc csrc file) can = refl
one_phase cs line (c.Print name) can = refl
one_phase cs line (c.Discard name) can = refl
one_phase cs line (c.Links n) can = refl
one_phase cs line (c.Order numbers) can = refl
one_phase cs line (c.Spares n) can = refl
one_phase cs line (c.Field n) can = refl
one_phase cs line (c.Topology kind) can = refl
one_phase cs line (c.Lose at rank) can = refl
one_phase cs line x can = absurd (false≢true can)

greatest_at : (f : Numbered → ℕ) (ns : List Numbered) (line : ℕ) (x : Command) → command_at ns line ≡ Some x → f (record { line = line; command = x }) ≤ greatest f ns
greatest_at f [] line x e = absurd cc
greatest_at f (n ∷ ns) line x e =
    ⊎_elim
    (λ (here : (n.line == line) ≡ true).
    let is : n.command ≡ x = same_Some n.command x (ap (λ b. if b then Some n.command else command_at ns line) (sym here) ∙ e) in
    let same : n ≡ record { line = line; command = x } = λ i. record { line = eqb-true n.line line here i; command = is i } in
    omega (arith, ap f same))
    (λ (other : (n.line == line) ≡ false). omega (arith, greatest_at f ns line x (ap (λ b. if b then Some n.command else command_at ns line) (sym other) ∙ e)))
    (cases_Bool (n.line == line))

pub few-in-phase : (script : List (Option Command)) (files : Matrices) (line most : ℕ) (x : Command) → IsRunnable script files → command_at (commands_of script) line ≡ Some x → most ≤ records_in (commands_of script) line x → most ≤ phase_steps (commands_of script)
unfolding phase_steps
few-in-phase script files line most x h e few =
    let cs : List Numbered = commands_of script in
    let one : records_in cs line x ≡ (steps_in cs line x).phase = one_phase cs line x (run_kept script line x h.runs e) in
    omega (arith, few, one, greatest_at (λ n. (steps_in cs n.line n.command).phase) cs line x e)

-- ---- the world of a run is one that can be mended
pub world-mendable : (script : List (Option Command)) (files : Matrices) (done : ℕ) (w : WorldView) (out : List ℕ) → IsRunnable script files → HasRun script files done w out → IsMendable (setting_in w)
world-mendable script files done w out h before =
    subst (λ s. IsMendable s) (sym (setting_is w script files before.script_is before.files_are)) (accepted-mendable script files (modulus_of (commands_of script)) h.accepted.lines (accepted-sound script files h))

-- ---- what `drive` did
module _ (script : List (Option Command)) (files : Matrices) (done : ℕ) (plan : Plan) (progress : Progress) (old new : WorldView) (out : List ℕ)
    (h : IsRunnable script files) (before : HasRun script files done old out) (line : IsWholeLine script done plan old) (running : IsRunning (setting_in old) old.journal) where
  few : plan.most_records ≤ phase_steps (commands_of script)
  few = few-in-phase script files (suc done) plan.most_records line.command h line.there line.few

  recovery : recovery_under (setting_in old) (state_of old).mark ≤ recovery_steps (commands_of script)
  recovery = recovery-inside script files done 0 old out h.accepted.lines (inside script files done old out before) running

  abbrev Costs : Drove → Type 0
  Costs drove = (most recovery : ℕ) → plan.most_records ≤ most → recovery_under (setting_in old) (state_of old).mark ≤ recovery → CostsAtMost most recovery old new (cost_of plan drove)

  was_driven : IsDriven plan progress old new → Costs d.Done → RecoversInTime old new → KeepsGoing old new → ((most : ℕ) → plan.most_records ≤ most → KeepsShort most old new) → HoldsDriven old new
      → HasDriven script plan progress old new
  was_driven driven costs in_time goes short holds =
      let sound : IsSound (modulus_of (commands_of script)) (setting_of script files) = accepted-sound script files h in
      record {
        driven = driven;
        goes = goes;
        short = short (phase_steps (commands_of script)) few;
        heals = in_time (recovery_steps (commands_of script)) recovery;
        held = holds (after-measured script files (modulus_of (commands_of script)) (suc done) old new plan progress h.accepted.lines sound before.script_is before.files_are (omega arith) line.mark driven) (before-measured script files (modulus_of (commands_of script)) done old out h.accepted.lines sound before);
        costs = costs (phase_steps (commands_of script)) (recovery_steps (commands_of script)) few recovery;
      }

  was_cut : (drove : Drove) → IsCutAt old new drove → Costs drove → RecoversInTime old new → KeepsGoing old new → ((most : ℕ) → plan.most_records ≤ most → KeepsShort most old new) → HoldsWords old new
      → IsStopped script files done new out drove
  was_cut drove cut costs in_time goes short holds =
      drive-stopped script files done 0 old new out drove plan h.accepted.lines (inside script files done old out before) running few cut costs in_time goes short
      (holds (before-measured script files (modulus_of (commands_of script)) done old out h.accepted.lines (accepted-sound script files h) before))

  -- with all its clauses
  pub line-driven : {E : Type 0} (result : Result Drove E) → IfOk result (IfDrove (IsDriven plan progress old new) (IsCutAt old new)) → IfOk result Costs → OnOk result (RecoversInTime old new) → OnOk result (KeepsGoing old new)
      → OnOk result ((most : ℕ) → plan.most_records ≤ most → KeepsShort most old new) → IfOk result (IfDrove (HoldsDriven old new) (λ cut. HoldsWords old new))
      → IfOk result (IfDrove (HasDriven script plan progress old new) (IsStopped script files done new out))
  line-driven (Err e) driven costs in_time goes short holds = tt
  line-driven (Ok d.Done) driven costs in_time goes short holds = was_driven driven costs in_time goes short holds
  line-driven (Ok (d.Beyond grid row)) driven costs in_time goes short holds = was_cut (d.Beyond grid row) driven costs in_time goes short holds
  line-driven (Ok (d.NoSpare rank)) driven costs in_time goes short holds = was_cut (d.NoSpare rank) driven costs in_time goes short holds
