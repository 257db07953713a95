use Rattle.std.proofs.Common.{◌-◌, ◌∙◌, sym, subst, ap, length}
use Rattle.rank_machine.specs.declared.record.Rec.TheVariants as r
use Rattle.rank_machine.specs.Effect.{replay}
use Rattle.rank_machine.specs.Legal.{IsCommit, some_lost}
use Rattle.block_world.specs.World.{setting_in, state_of}
use Rattle.block_world.specs.Did.{IsDid, IsMade}
use Rattle.world_heal.specs.Ways.{IfDone, IsHit}
use Rattle.world_heal.specs.Costs.{HoldsWords}
use Rattle.world_heal.proofs.Outcomes.{if_ok, if_did}
use Rattle.loss_recovery.specs.Driven.{HasCome, IsStraight, HoldsDriven}
use Rattle.phases.specs.Plans.{CanStart, saves}
use Rattle.loss_recovery.specs.Steps.{IsRunOut}
use Rattle.loss_recovery.proofs.Scripted.{IsScripted-sound}
use Rattle.loss_recovery.proofs.Attempting.{start_saved, stands_saved, begun_saved, commit_fits, straight, hit_saving, hit_running, hit_committing, saved_holds, commit_holds}
use Rattle.loss_recovery.proofs.Holding.{words_then}
use Rattle.loss_recovery.proofs.driving.attempt.Goals as goal

pub run_all-requires-clause-start : goal.run_all-requires-clause-start
run_all-requires-clause-start g c =
    let ph = g.H.Phase in
    let y = ph.task c.start.new.self in
    let old = c.args.world.now in
    let may = subst (λ t. CanStart (ph.plan t) (setting_in old) (state_of old)) (sym c.start.ensures.same_task) (record { rest = c.requires.rest.rest; may = c.requires.may }) in
    let come = subst (λ d. IfDone (HasCome (replay (setting_in old) (state_of old) (saves (ph.plan y).listed)) (length (ph.plan y).listed) old c.save_all.new.world) (IsHit (length (ph.plan y).listed) old c.save_all.new.world) d) c.in-Done.is c.in_ok-save_all.ensures.saves in
    start_saved (ph.plan y) old c.save_all.new.world (replay (setting_in old) (state_of old) (saves (ph.plan y).listed)) (length (ph.plan y).listed) c.requires.rest may come

pub run_all-requires-clause-stands : goal.run_all-requires-clause-stands
run_all-requires-clause-stands g c =
    let ph = g.H.Phase in
    let y = ph.task c.start.new.self in
    let old = c.args.world.now in
    let come = subst (λ d. IfDone (HasCome (replay (setting_in old) (state_of old) (saves (ph.plan y).listed)) (length (ph.plan y).listed) old c.save_all.new.world) (IsHit (length (ph.plan y).listed) old c.save_all.new.world) d) c.in-Done.is c.in_ok-save_all.ensures.saves in
    let stands = c.start.ensures.stands (setting_in old) (state_of old) (record { rest = c.requires.rest.rest; may = c.requires.may }) in
    stands_saved (ph.stands c.start.new.self) old c.save_all.new.world (replay (setting_in old) (state_of old) (saves (ph.plan y).listed)) (length (ph.plan y).listed) c.requires.rest come
    (subst (λ t. ph.stands c.start.new.self (setting_in old) (state_of old) (replay (setting_in old) (state_of old) (saves (ph.plan t).listed))) (sym c.start.ensures.same_task) stands)

pub run_all-requires-clause-begins : goal.run_all-requires-clause-begins
run_all-requires-clause-begins g c =
    let ph = g.H.Phase in
    let y = ph.task c.start.new.self in
    let old = c.args.world.now in
    let come = subst (λ d. IfDone (HasCome (replay (setting_in old) (state_of old) (saves (ph.plan y).listed)) (length (ph.plan y).listed) old c.save_all.new.world) (IsHit (length (ph.plan y).listed) old c.save_all.new.world) d) c.in-Done.is c.in_ok-save_all.ensures.saves in
    begun_saved (ph.plan y).listed old c.save_all.new.world (length (ph.plan y).listed) c.requires.rest come

pub returns-in-Hit-clause-driven : goal.returns-in-Hit-clause-driven
returns-in-Hit-clause-driven g c =
    let ph = g.H.Phase in
    let y = ph.task c.start.new.self in
    let old = c.args.world.now in
    let mid = c.save_all.new.world in
    let may = subst (λ t. CanStart (ph.plan t) (setting_in old) (state_of old)) (sym c.start.ensures.same_task) (record { rest = c.requires.rest.rest; may = c.requires.may }) in
    let hit = subst (λ d. IfDone (HasCome (replay (setting_in old) (state_of old) (saves (ph.plan y).listed)) (length (ph.plan y).listed) old mid) (IsHit (length (ph.plan y).listed) old mid) d) c.in-Hit.is c.in_ok-save_all.ensures.saves in
    subst (λ t. IsHit (ph.plan t).most_records old mid) c.start.ensures.same_task (hit_saving (ph.plan y) old mid (g.met.H.Phase.enough y (setting_in old) (state_of old) may) hit)

pub returns-in-Hit-2-clause-driven : goal.returns-in-Hit-2-clause-driven
returns-in-Hit-2-clause-driven g c =
    let ph = g.H.Phase in
    let y = ph.task c.start.new.self in
    let old = c.args.world.now in
    let mid = c.save_all.new.world in
    let may = subst (λ t. CanStart (ph.plan t) (setting_in old) (state_of old)) (sym c.start.ensures.same_task) (record { rest = c.requires.rest.rest; may = c.requires.may }) in
    let come = subst (λ d. IfDone (HasCome (replay (setting_in old) (state_of old) (saves (ph.plan y).listed)) (length (ph.plan y).listed) old mid) (IsHit (length (ph.plan y).listed) old mid) d) c.in-Done.is c.in_ok-save_all.ensures.saves in
    let hit = subst (λ d. IfDone (IsRunOut (ph.plan y) (ph.progress c.run_all.new.phase) mid c.run_all.new.world) (IsHit ((ph.plan y).most_records - length (ph.plan y).listed) mid c.run_all.new.world) d) c.in-Hit-2.is c.in_ok-run_all.ensures.runs in
    subst (λ t. IsHit (ph.plan t).most_records old c.run_all.new.world) c.start.ensures.same_task
    (hit_running (ph.plan y) old mid c.run_all.new.world (replay (setting_in old) (state_of old) (saves (ph.plan y).listed)) (g.met.H.Phase.enough y (setting_in old) (state_of old) may) come hit)

pub commit-requires : goal.commit-requires
commit-requires g c =
    let ph = g.H.Phase in
    let y = ph.task c.start.new.self in
    let old = c.args.world.now in
    let mid = c.save_all.new.world in
    let new = c.run_all.new.world in
    let may = subst (λ t. CanStart (ph.plan t) (setting_in old) (state_of old)) (sym c.start.ensures.same_task) (record { rest = c.requires.rest.rest; may = c.requires.may }) in
    let come = subst (λ d. IfDone (HasCome (replay (setting_in old) (state_of old) (saves (ph.plan y).listed)) (length (ph.plan y).listed) old mid) (IsHit (length (ph.plan y).listed) old mid) d) c.in-Done.is c.in_ok-save_all.ensures.saves in
    let out = subst (λ d. IfDone (IsRunOut (ph.plan y) (ph.progress c.run_all.new.phase) mid new) (IsHit ((ph.plan y).most_records - length (ph.plan y).listed) mid new) d) c.in-Done-2.is c.in_ok-run_all.ensures.runs in
    let mark = c.mark.ensures ∙ ap (λ t. (ph.plan t).mark) c.in_ok-run_all.ensures.same_task in
    record {
      legal = subst (λ m. IsCommit (setting_in new) (state_of new) m (some_lost (setting_in new) (state_of new))) (sym mark)
          (commit_fits (ph.plan y) (ph.progress c.run_all.new.phase) old mid new (replay (setting_in old) (state_of old) (saves (ph.plan y).listed)) (length (ph.plan y).listed) c.requires.rest come out (g.met.H.Phase.mark_follows y (setting_in old) (state_of old) may));
    }

pub returns-clause-driven : goal.returns-clause-driven
returns-clause-driven g c =
    let ph = g.H.Phase in
    let x = ph.task c.args.phase.now in
    let y = ph.task c.start.new.self in
    let old = c.args.world.now in
    let mid = c.save_all.new.world in
    let new = c.run_all.new.world in
    let fin = c.commit.new.self in
    let st = replay (setting_in old) (state_of old) (saves (ph.plan y).listed) in
    let come = subst (λ d. IfDone (HasCome st (length (ph.plan y).listed) old mid) (IsHit (length (ph.plan y).listed) old mid) d) c.in-Done.is c.in_ok-save_all.ensures.saves in
    let out = subst (λ d. IfDone (IsRunOut (ph.plan y) (ph.progress c.run_all.new.phase) mid new) (IsHit ((ph.plan y).most_records - length (ph.plan y).listed) mid new) d) c.in-Done-2.is c.in_ok-run_all.ensures.runs in
    let mark = c.mark.ensures ∙ ap (λ t. (ph.plan t).mark) c.in_ok-run_all.ensures.same_task in
    let lost = some_lost (setting_in new) (state_of new) in
    let x0 = r.Commit c.mark.result lost in
    if_ok (λ d. IsDid d new fin x0) (IfDone (IsStraight (ph.plan x) (ph.progress c.run_all.new.phase) old fin) (IsHit (ph.plan x).most_records old fin))
    (if_did new fin x0 (IsStraight (ph.plan x) (ph.progress c.run_all.new.phase) old fin) (IsHit (ph.plan x).most_records old fin)
    (λ h. subst (λ t. IsStraight (ph.plan t) (ph.progress c.run_all.new.phase) old fin) c.start.ensures.same_task (straight (ph.plan y) (ph.progress c.run_all.new.phase) old mid new fin st c.requires.rest come out (IsScripted-sound g.K.Field.MODULUS (setting_in new) c.journal-running.ensures.sound c.journal-running.ensures.no_line) (subst (λ m. IsMade new fin (r.Commit m lost)) mark h)))
    (λ h. subst (λ t. IsHit (ph.plan t).most_records old fin) c.start.ensures.same_task (hit_committing (ph.plan y) (ph.progress c.run_all.new.phase) old mid new fin st come out h)))
    c.commit.result c.commit.ensures.did

pub returns-in-Hit-clause-holds : goal.returns-in-Hit-clause-holds
returns-in-Hit-clause-holds g c =
    let ph = g.H.Phase in
    let y = ph.task c.start.new.self in
    let old = c.args.world.now in
    let mid = c.save_all.new.world in
    let may = subst (λ t. CanStart (ph.plan t) (setting_in old) (state_of old)) (sym c.start.ensures.same_task) (record { rest = c.requires.rest.rest; may = c.requires.may }) in
    let saved = saved_holds (ph.plan y) old mid c.requires.rest (g.met.H.Phase.has_room y (setting_in old) (state_of old) may) (g.met.H.Phase.saves_fit y (setting_in old) (state_of old) may) c.in_ok-save_all.ensures.holds in
    saved

pub returns-in-Hit-2-clause-holds : goal.returns-in-Hit-2-clause-holds
returns-in-Hit-2-clause-holds g c =
    let ph = g.H.Phase in
    let y = ph.task c.start.new.self in
    let old = c.args.world.now in
    let mid = c.save_all.new.world in
    let new = c.run_all.new.world in
    let may = subst (λ t. CanStart (ph.plan t) (setting_in old) (state_of old)) (sym c.start.ensures.same_task) (record { rest = c.requires.rest.rest; may = c.requires.may }) in
    let saved = saved_holds (ph.plan y) old mid c.requires.rest (g.met.H.Phase.has_room y (setting_in old) (state_of old) may) (g.met.H.Phase.saves_fit y (setting_in old) (state_of old) may) c.in_ok-save_all.ensures.holds in
    let st = replay (setting_in old) (state_of old) (saves (ph.plan y).listed) in
    let come = subst (λ d. IfDone (HasCome st (length (ph.plan y).listed) old mid) (IsHit (length (ph.plan y).listed) old mid) d) c.in-Done.is c.in_ok-save_all.ensures.saves in
    words_then old mid new come.under_way saved c.in_ok-run_all.ensures.holds

pub returns-clause-holds : goal.returns-clause-holds
returns-clause-holds g c =
    let ph = g.H.Phase in
    let y = ph.task c.start.new.self in
    let old = c.args.world.now in
    let mid = c.save_all.new.world in
    let new = c.run_all.new.world in
    let fin = c.commit.new.self in
    let may = subst (λ t. CanStart (ph.plan t) (setting_in old) (state_of old)) (sym c.start.ensures.same_task) (record { rest = c.requires.rest.rest; may = c.requires.may }) in
    let saved = saved_holds (ph.plan y) old mid c.requires.rest (g.met.H.Phase.has_room y (setting_in old) (state_of old) may) (g.met.H.Phase.saves_fit y (setting_in old) (state_of old) may) c.in_ok-save_all.ensures.holds in
    let st = replay (setting_in old) (state_of old) (saves (ph.plan y).listed) in
    let come = subst (λ d. IfDone (HasCome st (length (ph.plan y).listed) old mid) (IsHit (length (ph.plan y).listed) old mid) d) c.in-Done.is c.in_ok-save_all.ensures.saves in
    let out = subst (λ d. IfDone (IsRunOut (ph.plan y) (ph.progress c.run_all.new.phase) mid new) (IsHit ((ph.plan y).most_records - length (ph.plan y).listed) mid new) d) c.in-Done-2.is c.in_ok-run_all.ensures.runs in
    let mark = c.mark.ensures ∙ ap (λ t. (ph.plan t).mark) c.in_ok-run_all.ensures.same_task in
    let lost = some_lost (setting_in new) (state_of new) in
    let ran = words_then old mid new come.under_way saved c.in_ok-run_all.ensures.holds in
    if_ok (λ d. IsDid d new fin (r.Commit c.mark.result lost)) (IfDone (HoldsDriven old fin) (HoldsWords old fin))
    (if_did new fin (r.Commit c.mark.result lost) (HoldsDriven old fin) (HoldsWords old fin)
    (λ h. commit_holds (ph.plan y) (ph.progress c.run_all.new.phase) old mid new fin st (r.Commit c.mark.result lost) come out h.noted
    (straight (ph.plan y) (ph.progress c.run_all.new.phase) old mid new fin st c.requires.rest come out (IsScripted-sound g.K.Field.MODULUS (setting_in new) c.journal-running.ensures.sound c.journal-running.ensures.no_line) (subst (λ m. IsMade new fin (r.Commit m lost)) mark h)) ran)
    (λ h. subst (λ w. HoldsWords old w) (sym h.kept) ran))
    c.commit.result c.commit.ensures.did
