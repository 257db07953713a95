use Rattle.std.proofs.Common.{◌∙◌, sym, ap, subst}
use Rattle.block_world.specs.World.{setting_in, state_of}
use Rattle.world_heal.specs.Ways.{IfDone, IsHit}
use Rattle.world_heal.specs.Outcomes.{IfDrove, IsCutAt, IsHealed}
use Rattle.world_heal.specs.Costs.{HoldsWords}
use Rattle.loss_recovery.specs.Driven.{IsStraight, HoldsDriven}
use Rattle.loss_recovery.proofs.Beginning.{mendable_hit, may-here, site_hit, site_cut, site_driven, driven-going, driven-short, driven-in_time, again-in_time, again-going, again-short, driven-all, begun-again, cut-all, fewer-again, cut_costs, if_cut, cut_of, cut_so, driven_holds, again_holds}
use Rattle.loss_recovery.proofs.driving.drive.Goals as goal

pub attempt-requires-clause-may : goal.attempt-requires-clause-may
attempt-requires-clause-may g c =
    let ph = g.H.Phase in
    let x = ph.task c.args.phase.now in
    let inv = c.loop-site.invariant in
    let now = c.loop-site.world in
    subst (λ t. (ph.plan t).MayDrive (setting_in now) (state_of now)) (sym inv.0) (may-here (ph.plan x) c.args.world.now now (g.met.H.Phase.ignores_spawns x) inv.1 c.requires.may)

pub returns-in-Done-clause-driven : goal.returns-in-Done-clause-driven
returns-in-Done-clause-driven g c =
    let ph = g.H.Phase in
    let x = ph.task c.args.phase.now in
    let inv = c.loop-site.invariant in
    let here = subst (λ d. IfDone (IsStraight (ph.plan (ph.task c.loop-site.phase)) (ph.progress c.attempt.new.phase) c.loop-site.world c.attempt.new.world) (IsHit (ph.plan (ph.task c.loop-site.phase)).most_records c.loop-site.world c.attempt.new.world) d) c.in-Done.is c.in_ok-attempt.ensures.driven in
    (driven-all (ph.plan x) (ph.progress c.attempt.new.phase) c.args.world.now c.loop-site.world c.attempt.new.world (g.met.H.Phase.ignores_spawns x) inv.1
    (subst (λ t. IsStraight (ph.plan t) (ph.progress c.attempt.new.phase) c.loop-site.world c.attempt.new.world) inv.0 here)).0

pub returns-in-Done-clause-costs : goal.returns-in-Done-clause-costs
returns-in-Done-clause-costs g c =
    let ph = g.H.Phase in
    let x = ph.task c.args.phase.now in
    let inv = c.loop-site.invariant in
    let here = subst (λ d. IfDone (IsStraight (ph.plan (ph.task c.loop-site.phase)) (ph.progress c.attempt.new.phase) c.loop-site.world c.attempt.new.world) (IsHit (ph.plan (ph.task c.loop-site.phase)).most_records c.loop-site.world c.attempt.new.world) d) c.in-Done.is c.in_ok-attempt.ensures.driven in
    (driven-all (ph.plan x) (ph.progress c.attempt.new.phase) c.args.world.now c.loop-site.world c.attempt.new.world (g.met.H.Phase.ignores_spawns x) inv.1
    (subst (λ t. IsStraight (ph.plan t) (ph.progress c.attempt.new.phase) c.loop-site.world c.attempt.new.world) inv.0 here)).1

pub loop-site-smaller : goal.loop-site-smaller
loop-site-smaller g c =
    let ph = g.H.Phase in
    let x = ph.task c.args.phase.now in
    let inv = c.loop-site.invariant in
    let hit = subst (λ d. IfDone (IsStraight (ph.plan (ph.task c.loop-site.phase)) (ph.progress c.attempt.new.phase) c.loop-site.world c.attempt.new.world) (IsHit (ph.plan (ph.task c.loop-site.phase)).most_records c.loop-site.world c.attempt.new.world) d) c.in-Hit.is c.in_ok-attempt.ensures.driven in
    fewer-again (ph.plan x) c.args.world.now c.loop-site.world c.attempt.new.world c.recover.new.world inv.1 (subst (λ t. IsHit (ph.plan t).most_records c.loop-site.world c.attempt.new.world) inv.0 hit) c.in_ok-cut.ensures.fewer

pub loop-site-preserved : goal.loop-site-preserved
loop-site-preserved g c =
    let ph = g.H.Phase in
    let x = ph.task c.args.phase.now in
    let inv = c.loop-site.invariant in
    let hit = subst (λ d. IfDone (IsStraight (ph.plan (ph.task c.loop-site.phase)) (ph.progress c.attempt.new.phase) c.loop-site.world c.attempt.new.world) (IsHit (ph.plan (ph.task c.loop-site.phase)).most_records c.loop-site.world c.attempt.new.world) d) c.in-Hit.is c.in_ok-attempt.ensures.driven in
    let healed = subst (λ d. IfDrove (IsHealed c.attempt.new.world c.recover.new.world) (IsCutAt c.attempt.new.world c.recover.new.world) d) c.in-Done-2.is c.in_ok-cut.ensures.outcome in
    let held = subst (λ d. IfDone (HoldsDriven c.loop-site.world c.attempt.new.world) (HoldsWords c.loop-site.world c.attempt.new.world) d) c.in-Hit.is c.in_ok-attempt.ensures.holds in (
      c.in_ok-attempt.ensures.same_task ∙ inv.0,
      begun-again (ph.plan x) c.args.world.now c.loop-site.world c.attempt.new.world c.recover.new.world c.requires.rest inv.1 (subst (λ t. IsHit (ph.plan t).most_records c.loop-site.world c.attempt.new.world) inv.0 hit) healed c.in_ok-cut.ensures.fewer c.in_ok-cut.ensures.costs c.in_ok-cut.ensures.goes c.in_ok-cut.ensures.short c.in_ok-cut.ensures.in_time held c.in_ok-cut.ensures.holds,
      inv.2,
    )

pub returns-in_default : goal.returns-in_default
returns-in_default g c =
    let ph = g.H.Phase in
    let x = ph.task c.args.phase.now in
    let old = c.args.world.now in
    let mid = c.attempt.new.world in
    let new = c.recover.new.world in
    let inv = c.loop-site.invariant in
    let hit = subst (λ d. IfDone (IsStraight (ph.plan (ph.task c.loop-site.phase)) (ph.progress c.attempt.new.phase) c.loop-site.world mid) (IsHit (ph.plan (ph.task c.loop-site.phase)).most_records c.loop-site.world mid) d) c.in-Hit.is c.in_ok-attempt.ensures.driven in
    let all = λ (y : _) (h : IsCutAt mid new y). cut-all (ph.plan x) old c.loop-site.world mid new y c.requires.rest inv.1 (subst (λ t. IsHit (ph.plan t).most_records c.loop-site.world mid) inv.0 hit) h c.in_ok-cut.ensures.fewer c.in_ok-cut.ensures.costs in
    let held = subst (λ d. IfDone (HoldsDriven c.loop-site.world mid) (HoldsWords c.loop-site.world mid) d) c.in-Hit.is c.in_ok-attempt.ensures.holds in
    let mine = cut_of (IsHealed mid new) (IsCutAt mid new) c.in_ok-cut.cut c.in_default.not-Done c.in_ok-cut.ensures.outcome in
    record {
      same_task = c.in_ok-attempt.ensures.same_task ∙ inv.0;
      driven = if_cut (IsHealed mid new) _ (IsCutAt mid new) (IsCutAt old new) (λ y h. (all y h).0) c.in_ok-cut.cut c.in_default.not-Done c.in_ok-cut.ensures.outcome;
      in_time = again-in_time (ph.plan x) old c.loop-site.world mid new inv.1 (subst (λ t. IsHit (ph.plan t).most_records c.loop-site.world mid) inv.0 hit) c.in_ok-cut.ensures.in_time;
      goes = again-going (ph.plan x) old c.loop-site.world mid new inv.1 (subst (λ t. IsHit (ph.plan t).most_records c.loop-site.world mid) inv.0 hit) c.in_ok-cut.ensures.goes;
      short = again-short (ph.plan x) old c.loop-site.world mid new inv.1 (subst (λ t. IsHit (ph.plan t).most_records c.loop-site.world mid) inv.0 hit) c.in_ok-cut.ensures.short;
      site_is = inv.2 ∙ (c.requires.site_is ∙ sym (site_cut old new c.in_ok-cut.cut (all c.in_ok-cut.cut mine).0));
      holds = cut_so (HoldsDriven old new) (λ cut. HoldsWords old new) c.in_ok-cut.cut c.in_default.not-Done
          (again_holds (ph.plan x) old c.loop-site.world mid new c.requires.rest inv.1 (subst (λ t. IsHit (ph.plan t).most_records c.loop-site.world mid) inv.0 hit) held c.in_ok-cut.ensures.holds);
      costs = cut_costs (ph.plan x) old new c.in_ok-cut.cut (all c.in_ok-cut.cut mine).1 c.in_default.not-Done;
    }

pub returns-in-Done-clause-goes : goal.returns-in-Done-clause-goes
returns-in-Done-clause-goes g c =
    let ph = g.H.Phase in
    let x = ph.task c.args.phase.now in
    let inv = c.loop-site.invariant in
    let here = subst (λ d. IfDone (IsStraight (ph.plan (ph.task c.loop-site.phase)) (ph.progress c.attempt.new.phase) c.loop-site.world c.attempt.new.world) (IsHit (ph.plan (ph.task c.loop-site.phase)).most_records c.loop-site.world c.attempt.new.world) d) c.in-Done.is c.in_ok-attempt.ensures.driven in
    driven-going (ph.plan x) (ph.progress c.attempt.new.phase) c.args.world.now c.loop-site.world c.attempt.new.world inv.1
    (subst (λ t. IsStraight (ph.plan t) (ph.progress c.attempt.new.phase) c.loop-site.world c.attempt.new.world) inv.0 here)

pub returns-in-Done-clause-short : goal.returns-in-Done-clause-short
returns-in-Done-clause-short g c =
    let ph = g.H.Phase in
    let x = ph.task c.args.phase.now in
    let inv = c.loop-site.invariant in
    let here = subst (λ d. IfDone (IsStraight (ph.plan (ph.task c.loop-site.phase)) (ph.progress c.attempt.new.phase) c.loop-site.world c.attempt.new.world) (IsHit (ph.plan (ph.task c.loop-site.phase)).most_records c.loop-site.world c.attempt.new.world) d) c.in-Done.is c.in_ok-attempt.ensures.driven in
    driven-short (ph.plan x) (ph.progress c.attempt.new.phase) c.args.world.now c.loop-site.world c.attempt.new.world inv.1
    (subst (λ t. IsStraight (ph.plan t) (ph.progress c.attempt.new.phase) c.loop-site.world c.attempt.new.world) inv.0 here)

pub returns-in-Done-clause-in_time : goal.returns-in-Done-clause-in_time
returns-in-Done-clause-in_time g c =
    let ph = g.H.Phase in
    let x = ph.task c.args.phase.now in
    let inv = c.loop-site.invariant in
    let here = subst (λ d. IfDone (IsStraight (ph.plan (ph.task c.loop-site.phase)) (ph.progress c.attempt.new.phase) c.loop-site.world c.attempt.new.world) (IsHit (ph.plan (ph.task c.loop-site.phase)).most_records c.loop-site.world c.attempt.new.world) d) c.in-Done.is c.in_ok-attempt.ensures.driven in
    driven-in_time (ph.plan x) (ph.progress c.attempt.new.phase) c.args.world.now c.loop-site.world c.attempt.new.world inv.1
    (subst (λ t. IsStraight (ph.plan t) (ph.progress c.attempt.new.phase) c.loop-site.world c.attempt.new.world) inv.0 here)

pub recover-requires-clause-mendable : goal.recover-requires-clause-mendable
recover-requires-clause-mendable g c =
    let ph = g.H.Phase in
    let x = ph.task c.args.phase.now in
    let inv = c.loop-site.invariant in
    let mid = c.attempt.new.world in
    let hit = subst (λ d. IfDone (IsStraight (ph.plan (ph.task c.loop-site.phase)) (ph.progress c.attempt.new.phase) c.loop-site.world mid) (IsHit (ph.plan (ph.task c.loop-site.phase)).most_records c.loop-site.world mid) d) c.in-Hit.is c.in_ok-attempt.ensures.driven in
    mendable_hit (ph.plan x) c.args.world.now c.loop-site.world mid (ph.plan (ph.task c.loop-site.phase)).most_records inv.1 hit c.requires.mendable

pub recover-requires-clause-site_is : goal.recover-requires-clause-site_is
recover-requires-clause-site_is g c =
    let ph = g.H.Phase in
    let x = ph.task c.args.phase.now in
    let inv = c.loop-site.invariant in
    let mid = c.attempt.new.world in
    let hit = subst (λ d. IfDone (IsStraight (ph.plan (ph.task c.loop-site.phase)) (ph.progress c.attempt.new.phase) c.loop-site.world mid) (IsHit (ph.plan (ph.task c.loop-site.phase)).most_records c.loop-site.world mid) d) c.in-Hit.is c.in_ok-attempt.ensures.driven in
    inv.2 ∙ (c.requires.site_is ∙ sym (site_hit (ph.plan x) c.args.world.now c.loop-site.world mid (ph.plan (ph.task c.loop-site.phase)).most_records inv.1 hit))

pub returns-in-Done-clause-site_is : goal.returns-in-Done-clause-site_is
returns-in-Done-clause-site_is g c =
    let ph = g.H.Phase in
    let x = ph.task c.args.phase.now in
    let inv = c.loop-site.invariant in
    let new = c.attempt.new.world in
    let here = subst (λ d. IfDone (IsStraight (ph.plan (ph.task c.loop-site.phase)) (ph.progress c.attempt.new.phase) c.loop-site.world new) (IsHit (ph.plan (ph.task c.loop-site.phase)).most_records c.loop-site.world new) d) c.in-Done.is c.in_ok-attempt.ensures.driven in
    let all = (driven-all (ph.plan x) (ph.progress c.attempt.new.phase) c.args.world.now c.loop-site.world new (g.met.H.Phase.ignores_spawns x) inv.1
    (subst (λ t. IsStraight (ph.plan t) (ph.progress c.attempt.new.phase) c.loop-site.world new) inv.0 here)).0 in
    let mark = c.mark.ensures ∙ ap (λ t. (ph.plan t).mark) (c.in_ok-attempt.ensures.same_task ∙ inv.0) in
    c.set.ensures ∙ ((λ i. record ((inv.2 ∙ c.requires.site_is) i) { mark = mark i }) ∙ site_driven (ph.plan x) (ph.progress c.attempt.new.phase) c.args.world.now new all)

pub returns-in-Done-clause-holds : goal.returns-in-Done-clause-holds
returns-in-Done-clause-holds g c =
    let ph = g.H.Phase in
    let x = ph.task c.args.phase.now in
    let inv = c.loop-site.invariant in
    let here = subst (λ d. IfDone (HoldsDriven c.loop-site.world c.attempt.new.world) (HoldsWords c.loop-site.world c.attempt.new.world) d) c.in-Done.is c.in_ok-attempt.ensures.holds in
    driven_holds (ph.plan x) c.args.world.now c.loop-site.world c.attempt.new.world c.requires.rest inv.1 here
