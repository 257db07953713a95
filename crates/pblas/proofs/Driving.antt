-- From the clauses of `drive` to what holds after the phase of a group.
use Rattle.std.proofs.Common.{◌≡◌, ◌<◌, ◌≤◌, ◌==◌, ◌*◌, ℕ, suc, Bool, true, false, nat_lt, Result, Ok, Err, List, Option, refl, sym, ap, subst, ◌∙◌, ⊎_elim, arith}
use Rattle.std.specs.Prelude.{IfOk, OnOk}
use Rattle.std.proofs.lemmas.Bool.{eqb-true, lt-ltb, le-ltb, eq-eqb, true≢false, cases_eq}
use Rattle.run_data.specs.Matrix.{Matrix}
use Rattle.run_data.specs.declared.command.Command.{Command}
use Rattle.run_data.specs.declared.command.Command.TheVariants as c
use Rattle.run_data.specs.Script.{commands_of, command_at, modulus_of}
use Rattle.rank_machine.specs.Setting.{group_count}
use Rattle.rank_machine.specs.Scripts.{Matrices, setting_of}
use Rattle.script_lines.specs.Sound.{IsSound}
use Rattle.script_bounds.specs.Accepted.{KeepsRules}
use Rattle.script_bounds.specs.Bounds.{records_in, phase_steps}
use Rattle.block_world.specs.World.{WorldView, setting_in, state_of}
use Rattle.run_laws.specs.Due.{IsRunning}
use Rattle.phases.specs.Plans.{Plan, Progress}
use Rattle.phase_words.specs.Resting.{IsMeasured}
use Rattle.world_heal.specs.Outcomes.{IfDrove, IsCutAt}
use Rattle.world_heal.specs.Costs.{KeepsGoing, KeepsShort, HoldsWords}
use Rattle.world_heal.specs.declared.healing.Drove.{Drove}
use Rattle.world_heal.proofs.Outcomes.{if_drove}
use Rattle.world_heal.specs.Mended.{IsMendable}
use Rattle.run_laws.specs.Traces.{recovery_under}
use Rattle.loss_recovery.specs.Driven.{IsDriven, CostsAtMost, RecoversInTime, HoldsDriven, cost_of}
use Rattle.whole_run.specs.Between.{HasRun}
use Rattle.whole_run.specs.Inside.{IsStopped}
use Rattle.whole_run.proofs.Ending.{setting_is}
use Rattle.whole_run.proofs.Shorter.{job-last}
use Rattle.whole_run.proofs.Mendable.{accepted-mendable}
use Rattle.product_rounds.specs.declared.rounds.GroupProduct.{GroupProduct}
use Rattle.product_rounds.specs.Rounds.{IsOnGrid}
use Rattle.product_laws.specs.Multiplying.{ProductView, MayMultiplyMatrices, layout_c, product_task, product_plan, product_records}
use Rattle.product_lines.specs.Lines.{IsProductLine, product_mark}
use Rattle.product_lines.specs.Driving.{HasDrivenPart}
use Rattle.product_lines.proofs.ProductLine.{product-line}
use Rattle.product_lines.proofs.Records.{product-few, product-few_in_line}
use Rattle.product_lines.proofs.Between.{rest-part_measured, commit-measured, group-drive}
use Rattle.product_groups.specs.Groups.{at_group, MayMultiplyLine}
use Rattle.product_groups.proofs.May.{asks-between, on_grid-at, groups-may, groups-may_end}
use Rattle.product_groups.proofs.Next.{groups-next, groups-fit}
use Rattle.product_groups.proofs.End.{groups-end}
use Rattle.pblas.specs.Groups.{IsProduct, value_before, groups_of, product_at, IsAtGroup, UpToGroup}

module _ (script : List (Option Command)) (files : Matrices) (done group : ℕ) (w : WorldView) (out : List ℕ) (kept : KeepsRules script) (sound : IsSound (modulus_of (commands_of script)) (setting_of script files))
    (at : IsAtGroup script files done group w out) (inside : group < groups_of script files done) where
  abbrev words : IsProduct (command_at (commands_of script) (suc done))
  words = at.words

  abbrev x : GroupProduct
  x = product_at script files done words.alpha words.beta

  abbrev a : Matrix
  a = value_before script files done words.a

  abbrev b : Matrix
  b = value_before script files done words.b

  abbrev m : Matrix
  m = value_before script files done words.x

  abbrev command : Command
  command = c.Pgemm words.transa words.transb words.m words.n words.k words.alpha words.a words.ia words.ja words.b words.ib words.jb words.beta words.x words.ic words.jc

  line : IsProductLine script files (suc done) words.m words.n words.k words.alpha words.a words.b words.beta words.x
  line = product-line script files (suc done) words.transa words.transb words.m words.n words.k words.alpha words.a words.ia words.ja words.b words.ib words.jb words.beta words.x words.ic words.jc kept words.there

  asks : MayMultiplyLine (setting_in w) x (suc done)
  asks = asks-between script files done x a b m group w out at.groups at.asks

  -- the groups of the product are those of C
  count : groups_of script files done ≡ group_count (layout_c x)
  count = ap group_count at.asks.lies_c

  lt : group < group_count (layout_c x)
  lt = subst (λ k. group < k) count inside

  -- ---- the phase of the next group
  abbrev plan_of : Bool → Plan
  plan_of ended = product_plan (product_task (at_group x group) (product_mark (suc done) ended))

  pub next-may : (ended : Bool) → MayMultiplyMatrices (setting_in w) (state_of w) (product_task (at_group x group) (product_mark (suc done) ended))
  next-may false = groups-may script files done x a b m group w out at.groups lt asks at.shapes
  next-may true = groups-may_end script files done x a b m group w out at.groups lt asks at.shapes

  few : product_records x ≤ phase_steps (commands_of script)
  few = product-few script files (suc done) words.transa words.transb words.m words.n words.k words.alpha words.a words.ia words.ja words.b words.ib words.jb words.beta words.x words.ic words.jc kept words.there line group

  few_in_line : group_count (layout_c x) * product_records x ≤ records_in (commands_of script) (suc done) command
  few_in_line = subst (λ k. k * product_records x ≤ records_in (commands_of script) (suc done) command) count
      (product-few_in_line script files (suc done) words.transa words.transb words.m words.n words.k words.alpha words.a words.ia words.ja words.b words.ib words.jb words.beta words.x words.ic words.jc kept words.there line group)

  -- ---- once it was driven
  module _ (new : WorldView) (progress : Progress) (was_running : IsRunning (setting_in w) w.journal) where
    abbrev Drives : Bool → Type 0
    Drives ended = HasDrivenPart script (plan_of ended) progress w new

    abbrev Costs : Bool → Drove → Type 0
    Costs ended drove = (most recovery : ℕ) → product_records x ≤ most → recovery_under (setting_in w) (state_of w).mark ≤ recovery → CostsAtMost most recovery w new (cost_of (plan_of ended) drove)

    becomes : (ended : Bool) → IsDriven (plan_of ended) progress w new → IsMeasured (setting_in w) (state_of new)
    becomes ended driven =
        commit-measured script files (modulus_of (commands_of script)) (suc done) ended w new (plan_of ended) progress kept sound at.groups.partly.inside.script_is at.groups.partly.inside.files_are (omega arith) at.asks.plain refl driven

    -- with all its clauses
    pub next-driven : {E : Type 0} (ended : Bool) (result : Result Drove E) → IfOk result (IfDrove (IsDriven (plan_of ended) progress w new) (IsCutAt w new)) → IfOk result (Costs ended)
        → OnOk result (RecoversInTime w new) → OnOk result (KeepsGoing w new) → OnOk result ((most : ℕ) → product_records x ≤ most → KeepsShort most w new) → IfOk result (IfDrove (HoldsDriven w new) (λ cut. HoldsWords w new))
        → IfOk result (IfDrove (Drives ended) (IsStopped script files done new out))
    next-driven ended result driven costs in_time goes short holds =
        group-drive script files done (group * product_records x) w new out (plan_of ended) progress kept at.groups.partly few at.measured (becomes ended) was_running result driven costs in_time goes short holds

    -- the next group comes, or the line has ended
    goes-on : IsRunning (setting_in new) new.journal → Drives false → IsAtGroup script files done (suc group) new out
    goes-on running way = record {
      words = words;
      asks = at.asks;
      first = at.first;
      second = at.second;
      sum = at.sum;
      shapes = at.shapes;
      groups = groups-next script files done x a b m group w new out progress at.groups way.driven lt asks at.shapes was_running running
          (groups-fit script done group (group_count (layout_c x)) (product_records x) command words.there lt few_in_line) way.costs way.goes way.short way.heals way.held;
      measured = rest-part_measured script files (modulus_of (commands_of script)) (suc done) new kept sound (way.driven.later.script ∙ at.groups.partly.inside.script_is) (way.driven.later.files ∙ at.groups.partly.inside.files_are)
          way.driven.rest way.driven.mark at.asks.plain;
    }

    ends : suc group ≡ groups_of script files done → Drives true → HasRun script files (suc done) new out
    ends last way =
        groups-end script files done x a b m group w new out progress words.transa words.transb words.m words.n words.k words.a words.ia words.ja words.b words.ib words.jb words.x words.ic words.jc at.groups kept words.there
        at.first at.second at.sum way.driven (last ∙ count) asks at.shapes
        (subst (λ k. k * product_records x ≤ records_in (commands_of script) (suc done) command) (sym (last ∙ count)) few_in_line)
        way.costs way.goes way.short way.heals way.held

    abbrev Ran : Drove → Type 0
    Ran = IfDrove (UpToGroup (nat_lt (suc group) (groups_of script files done)) script files done (suc group) new out) (IsStopped script files done new out)

    pub next-ran : {E : Type 0} (ended : Bool) (result : Result Drove E) → (suc group == groups_of script files done) ≡ ended → OnOk result (IsRunning (setting_in new) new.journal)
        → IfOk result (IfDrove (Drives ended) (IsStopped script files done new out)) → IfOk result Ran
    next-ran ended (Err e) is running ways = tt
    next-ran false (Ok drove) is running ways =
        let less : suc group < groups_of script files done = below (suc group) (groups_of script files done) is (omega (arith, inside)) in
        if_drove (Drives false) (UpToGroup (nat_lt (suc group) (groups_of script files done)) script files done (suc group) new out) (IsStopped script files done new out) (IsStopped script files done new out)
        (λ way. subst (λ t. UpToGroup t script files done (suc group) new out) (sym (lt-ltb (suc group) (groups_of script files done) less)) (goes-on running way)) (λ drove cut. cut) drove ways
      where
        below : (i n : ℕ) → (i == n) ≡ false → i ≤ n → i < n
        below i n ne le = ⊎_elim (λ (e : i ≡ n). absurd (true≢false (sym (eq-eqb i n e) ∙ ne))) (λ (e : i ≡ n → ⊥). grind (arith, le, e)) (cases_eq i n)
    next-ran true (Ok drove) is running ways =
        let last : suc group ≡ groups_of script files done = eqb-true (suc group) (groups_of script files done) is in
        if_drove (Drives true) (UpToGroup (nat_lt (suc group) (groups_of script files done)) script files done (suc group) new out) (IsStopped script files done new out) (IsStopped script files done new out)
        (λ way. subst (λ t. UpToGroup t script files done (suc group) new out) (sym (le-ltb (suc group) (groups_of script files done) (omega (arith, last)))) (ends last way)) (λ drove cut. cut) drove ways

  -- ---- as the code has it: the product is that of the line, and the phase one of its groups
  abbrev told : Bool → ProductView
  told ended = record { x = at_group x group; mark = product_mark (suc done) ended; calls = 0 }

  pub told-is : (product : GroupProduct) (v : ProductView) (next : ℕ) (ended : Bool) → product ≡ x
      → v ≡ record { x = at_group product group; mark = record { line = next; ended = ended; closed = 0; opened = false; merged = 0 }; calls = 0 } → next ≡ suc done → v ≡ told ended
  told-is product v next ended is made here = made ∙ (λ i. record { x = at_group (is i) group; mark = record { line = here i; ended = ended; closed = 0; opened = false; merged = 0 }; calls = 0 })

  pub ended-is : (product : GroupProduct) (next n : ℕ) → product ≡ x → n ≡ group_count (layout_c product) → next ≡ suc group → (suc group == groups_of script files done) ≡ (next == n)
  ended-is product next n is all here = (λ i. sym here i == (count ∙ (sym (ap (λ (y : GroupProduct). group_count (layout_c y)) is) ∙ sym all)) i)

  pub on-grid : (product : GroupProduct) → product ≡ x → IsOnGrid (at_group product group)
  on-grid product is = subst (λ (y : GroupProduct). IsOnGrid (at_group y group)) (sym is) (on_grid-at x 0 group at.asks.on_grid)

  pub view-may : (v : ProductView) (ended : Bool) → v ≡ told ended → MayMultiplyMatrices (setting_in w) (state_of w) (product_task v.x v.mark)
  view-may v ended is = subst (λ (u : ProductView). MayMultiplyMatrices (setting_in w) (state_of w) (product_task u.x u.mark)) (sym is) (next-may ended)

  pub line-few : suc done ≤ 4096
  line-few = omega (arith, job-last script files (suc done) at.asks.there, kept.few)

  pub world-mendable : IsMendable (setting_in w)
  world-mendable = subst (λ s. IsMendable s) (sym (setting_is w script files at.groups.partly.inside.script_is at.groups.partly.inside.files_are)) (accepted-mendable script files (modulus_of (commands_of script)) kept sound)

  pub view-ran : {E : Type 0} (v : ProductView) (ended : Bool) (progress : Progress) (new : WorldView) (result : Result Drove E) → v ≡ told ended → (suc group == groups_of script files done) ≡ ended → IsRunning (setting_in w) w.journal
      → OnOk result (IsRunning (setting_in new) new.journal) → IfOk result (IfDrove (IsDriven (product_plan (product_task v.x v.mark)) progress w new) (IsCutAt w new))
      → IfOk result (λ drove. (most recovery : ℕ) → product_records v.x ≤ most → recovery_under (setting_in w) (state_of w).mark ≤ recovery → CostsAtMost most recovery w new (cost_of (product_plan (product_task v.x v.mark)) drove))
      → OnOk result (RecoversInTime w new) → OnOk result (KeepsGoing w new) → OnOk result ((most : ℕ) → product_records v.x ≤ most → KeepsShort most w new) → IfOk result (IfDrove (HoldsDriven w new) (λ cut. HoldsWords w new))
      → IfOk result (IfDrove (UpToGroup (nat_lt (suc group) (groups_of script files done)) script files done (suc group) new out) (IsStopped script files done new out))
  view-ran v ended progress new result is last was_running running driven costs in_time goes short holds =
      next-ran new progress was_running ended result last running
      (next-driven new progress was_running ended result (subst (λ (u : ProductView). IfOk result (IfDrove (IsDriven (product_plan (product_task u.x u.mark)) progress w new) (IsCutAt w new))) is driven)
      (subst (λ (u : ProductView). IfOk result (λ drove. (most recovery : ℕ) → product_records u.x ≤ most → recovery_under (setting_in w) (state_of w).mark ≤ recovery → CostsAtMost most recovery w new (cost_of (product_plan (product_task u.x u.mark)) drove))) is costs)
      in_time goes (subst (λ (u : ProductView). OnOk result ((most : ℕ) → product_records u.x ≤ most → KeepsShort most w new)) is short) holds)
