use Rattle.std.proofs.Common.{◌≡◌, ◌∙◌, sym, subst, ap}
use Rattle.block_world.specs.World.{setting_in, state_of}
use Rattle.phases.specs.Plans.{CanStart, GoesOn, after_next, steps_in}
use Rattle.world_heal.specs.Ways.{rest_of, IsHit}
use Rattle.loss_recovery.specs.Driven.{HasCarried}
use Rattle.loss_recovery.specs.Steps.{IfCarried}
use Rattle.loss_recovery.proofs.Running.{IsRunning, running_goes_on, running_hits, running_holds}
use Rattle.loss_recovery.proofs.driving.run_all.Goals as goal

pub loop-next-preserved : goal.loop-next-preserved
loop-next-preserved g c =
    let ph = g.H.Phase in
    let x = ph.task c.args.phase.now in
    let old = c.args.world.now in
    let inv = c.loop-next.invariant in
    let p = ph.progress c.loop-next.phase in
    let nx = c.in_ok-next.next in
    let pe = c.in_ok-next.ensures.progress ∙ ap (λ t. after_next (ph.plan t).mark.line p c.loop-next.taken nx) inv.0 in
    let go = subst (λ t. GoesOn (ph.plan t) (ph.stands c.next.new.self) (ph.progress c.next.new.self) (setting_in old) (rest_of old) (state_of c.loop-next.world) nx) inv.0
    (c.in_ok-next.ensures.goes_on (setting_in old) (rest_of old) (state_of c.loop-next.world) (subst (λ t. CanStart (ph.plan t) (setting_in old) (rest_of old)) (sym inv.0) c.requires.start) inv.1.stands inv.1.handed_over) in
    let here = subst (λ q. GoesOn (ph.plan x) (ph.stands c.next.new.self) q (setting_in old) (rest_of old) (state_of c.loop-next.world) nx) pe go in
    let carried = subst (λ d. IfCarried nx (HasCarried c.loop-next.world c.carry_out.new.world nx) (c.carry_out.new.world ≡ c.loop-next.world) (IsHit (steps_in nx) c.loop-next.world c.carry_out.new.world) d) c.in-On.is c.in_ok-tile.ensures.carried in
    let on = running_goes_on (ph.plan x) (ph.stands c.loop-next.phase) (ph.stands c.next.new.self) p c.loop-next.taken c.in-On.tile nx old c.loop-next.world c.carry_out.new.world inv.1 (g.met.H.Phase.mark_follows x (setting_in old) (rest_of old) c.requires.start) here carried in (
      c.in_ok-next.ensures.same_task ∙ inv.0,
      subst (λ q. IsRunning (ph.plan x) (ph.stands c.next.new.self) q c.in-On.tile old c.carry_out.new.world) (sym pe) on,
      running_holds (ph.plan x) (ph.stands c.loop-next.phase) (ph.stands c.next.new.self) p (after_next (ph.plan x).mark.line p c.loop-next.taken nx) c.loop-next.taken nx old c.loop-next.world c.carry_out.new.world inv.1 c.requires.start.rest (g.met.H.Phase.has_room x (setting_in old) (rest_of old) c.requires.start) here c.in_ok-tile.ensures.holds inv.2,
    )

pub returns-in-Hit-clause-runs : goal.returns-in-Hit-clause-runs
returns-in-Hit-clause-runs g c =
    let ph = g.H.Phase in
    let x = ph.task c.args.phase.now in
    let old = c.args.world.now in
    let inv = c.loop-next.invariant in
    let p = ph.progress c.loop-next.phase in
    let nx = c.in_ok-next.next in
    let pe = c.in_ok-next.ensures.progress ∙ ap (λ t. after_next (ph.plan t).mark.line p c.loop-next.taken nx) inv.0 in
    let go = subst (λ t. GoesOn (ph.plan t) (ph.stands c.next.new.self) (ph.progress c.next.new.self) (setting_in old) (rest_of old) (state_of c.loop-next.world) nx) inv.0
    (c.in_ok-next.ensures.goes_on (setting_in old) (rest_of old) (state_of c.loop-next.world) (subst (λ t. CanStart (ph.plan t) (setting_in old) (rest_of old)) (sym inv.0) c.requires.start) inv.1.stands inv.1.handed_over) in
    let here = subst (λ q. GoesOn (ph.plan x) (ph.stands c.next.new.self) q (setting_in old) (rest_of old) (state_of c.loop-next.world) nx) pe go in
    let hit = subst (λ d. IfCarried nx (HasCarried c.loop-next.world c.carry_out.new.world nx) (c.carry_out.new.world ≡ c.loop-next.world) (IsHit (steps_in nx) c.loop-next.world c.carry_out.new.world) d) c.in-Hit.is c.in_ok-tile.ensures.carried in
    running_hits (ph.plan x) (ph.stands c.loop-next.phase) (ph.stands c.next.new.self) p c.loop-next.taken nx old c.loop-next.world c.carry_out.new.world inv.1 here hit

pub returns-in-Ended-clause-holds : goal.returns-in-Ended-clause-holds
returns-in-Ended-clause-holds g c =
    let ph = g.H.Phase in
    let x = ph.task c.args.phase.now in
    let old = c.args.world.now in
    let inv = c.loop-next.invariant in
    let nx = c.in_ok-next.next in
    let go = subst (λ t. GoesOn (ph.plan t) (ph.stands c.next.new.self) (ph.progress c.next.new.self) (setting_in old) (rest_of old) (state_of c.loop-next.world) nx) inv.0
    (c.in_ok-next.ensures.goes_on (setting_in old) (rest_of old) (state_of c.loop-next.world) (subst (λ t. CanStart (ph.plan t) (setting_in old) (rest_of old)) (sym inv.0) c.requires.start) inv.1.stands inv.1.handed_over) in
    running_holds (ph.plan x) (ph.stands c.loop-next.phase) (ph.stands c.next.new.self) (ph.progress c.loop-next.phase) (ph.progress c.next.new.self) c.loop-next.taken nx old c.loop-next.world c.carry_out.new.world inv.1 c.requires.start.rest (g.met.H.Phase.has_room x (setting_in old) (rest_of old) c.requires.start) go c.in_ok-tile.ensures.holds inv.2

pub returns-in-Hit-clause-holds : goal.returns-in-Hit-clause-holds
returns-in-Hit-clause-holds g c =
    let ph = g.H.Phase in
    let x = ph.task c.args.phase.now in
    let old = c.args.world.now in
    let inv = c.loop-next.invariant in
    let nx = c.in_ok-next.next in
    let go = subst (λ t. GoesOn (ph.plan t) (ph.stands c.next.new.self) (ph.progress c.next.new.self) (setting_in old) (rest_of old) (state_of c.loop-next.world) nx) inv.0
    (c.in_ok-next.ensures.goes_on (setting_in old) (rest_of old) (state_of c.loop-next.world) (subst (λ t. CanStart (ph.plan t) (setting_in old) (rest_of old)) (sym inv.0) c.requires.start) inv.1.stands inv.1.handed_over) in
    running_holds (ph.plan x) (ph.stands c.loop-next.phase) (ph.stands c.next.new.self) (ph.progress c.loop-next.phase) (ph.progress c.next.new.self) c.loop-next.taken nx old c.loop-next.world c.carry_out.new.world inv.1 c.requires.start.rest (g.met.H.Phase.has_room x (setting_in old) (rest_of old) c.requires.start) go c.in_ok-tile.ensures.holds inv.2
