use Rattle.std.proofs.Common.{◌∙◌, sym, subst, arith}
use Rattle.rank_machine.specs.declared.record.Rec.TheVariants as r
use Rattle.block_world.specs.World.{setting_in, state_of}
use Rattle.block_world.specs.Did.{IsDid}
use Rattle.loss_recovery.proofs.Saving.{saving_legal, saving_goes_on, saving_ends, stopped_holds, below_length}
use Rattle.loss_recovery.proofs.driving.save_all.Goals as goal

pub save-requires : goal.save-requires
save-requires g c =
    let x = g.H.Phase.task c.args.phase.now in
    let legal = g.met.H.Phase.can_save x (setting_in c.args.world.now) (state_of c.args.world.now) c.requires.may in
    record { legal = saving_legal (g.H.Phase.plan x).listed c.loop-rank.i c.in-Some.rank c.in-Some.slot c.args.world.now c.loop-rank.world c.loop-rank.invariant legal (sym c.save_at.ensures ∙ c.in-Some.is) }

pub overflow_add-i : goal.overflow_add-i
overflow_add-i g c =
    let x = g.H.Phase.task c.args.phase.now in
    omega (arith, below_length (g.H.Phase.plan x).listed c.loop-rank.i (c.in-Some.rank, c.in-Some.slot) (sym c.save_at.ensures ∙ c.in-Some.is), g.met.H.Phase.few_saved x (setting_in c.args.world.now) (state_of c.args.world.now) c.requires.may)

pub loop-rank-smaller : goal.loop-rank-smaller
loop-rank-smaller g c =
    let x = g.H.Phase.task c.args.phase.now in
    omega (arith, below_length (g.H.Phase.plan x).listed c.loop-rank.i (c.in-Some.rank, c.in-Some.slot) (sym c.save_at.ensures ∙ c.in-Some.is))

pub loop-rank-preserved : goal.loop-rank-preserved
loop-rank-preserved g c =
    let x = g.H.Phase.task c.args.phase.now in
    let h = subst (λ d. IsDid d c.loop-rank.world c.save.new.self (r.Save c.in-Some.rank c.in-Some.slot)) c.in-Done.is c.in_ok-save.ensures.did in
    saving_goes_on (g.H.Phase.plan x).listed c.loop-rank.i c.in-Some.rank c.in-Some.slot c.args.world.now c.loop-rank.world c.save.new.self c.loop-rank.invariant (sym c.save_at.ensures ∙ c.in-Some.is) h

pub returns-clause-saves : goal.returns-clause-saves
returns-clause-saves g c =
    let x = g.H.Phase.task c.args.phase.now in
    saving_ends (g.H.Phase.plan x).listed c.loop-rank.i c.args.world.now c.loop-rank.world c.loop-rank.invariant (sym c.save_at.ensures ∙ c.in_default.is)

pub returns-clause-holds : goal.returns-clause-holds
returns-clause-holds g c = c.loop-rank.invariant.holds

pub returns-in-Hit-clause-holds : goal.returns-in-Hit-clause-holds
returns-in-Hit-clause-holds g c =
    let x = g.H.Phase.task c.args.phase.now in
    let stop = subst (λ d. IsDid d c.loop-rank.world c.save.new.self (r.Save c.in-Some.rank c.in-Some.slot)) c.in-Hit.is c.in_ok-save.ensures.did in
    stopped_holds (g.H.Phase.plan x).listed c.loop-rank.i c.args.world.now c.loop-rank.world c.save.new.self c.loop-rank.invariant stop
