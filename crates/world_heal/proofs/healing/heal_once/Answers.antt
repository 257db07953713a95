use Rattle.std.proofs.Common.{◌∙◌, sym, subst, length}
use Rattle.rank_machine.specs.declared.record.Rec.TheVariants as r
use Rattle.rank_machine.specs.Setting.{ranks}
use Rattle.recovery_rounds.specs.Rows.{IsAllHealed}
use Rattle.recovery_counts.specs.Counted.{grids_so_far}
use Rattle.block_world.specs.World.{setting_in, state_of, is_hurt}
use Rattle.block_world.specs.Did.{IsDid}
use Rattle.world_heal.specs.Ways.{IfDone, rest_of}
use Rattle.world_heal.specs.Mended.{HasMended, IsHitMending}
use Rattle.world_heal.specs.Attempts.{attempt_most, HasRecovered, HasSpawned, IsStoppedWithin}
use Rattle.world_heal.proofs.Outcomes.{if_ok, if_did}
use Rattle.world_heal.proofs.Attempting.{restore-tried, restore-goes, stopped-restoring, ranks-tried, spawned-tried, stopped-spawning, spawned-mending, spawned-roomy, stopped-mending, all-mended, recovery-commits, stopped-committing, recovered}
use Rattle.world_heal.proofs.healing.heal_once.Goals as goal

pub spawn_all-requires-clause-ranks : goal.spawn_all-requires-clause-ranks
spawn_all-requires-clause-ranks g c =
    let made = subst (λ d. IsDid d c.args.world.now c.restore.new.self r.Restore) c.in-Done.is c.in_ok-restore.ensures.did in
    c.ranks_in-ranks.ensures.value ∙ sym (ranks-tried 1 c.args.world.now c.restore.new.self (restore-tried c.args.world.now c.restore.new.self c.requires.go made))

pub spawn_all-requires-clause-go : goal.spawn_all-requires-clause-go
spawn_all-requires-clause-go g c =
    let made = subst (λ d. IsDid d c.args.world.now c.restore.new.self r.Restore) c.in-Done.is c.in_ok-restore.ensures.did in
    restore-goes c.args.world.now c.restore.new.self c.requires.go made

pub mend_all-requires-clause-mending : goal.mend_all-requires-clause-mending
mend_all-requires-clause-mending g c =
    let old = c.args.world.now in
    let mid = c.restore.new.self in
    let new = c.spawn_all.new.world in
    let made = subst (λ d. IsDid d old mid r.Restore) c.in-Done.is c.in_ok-restore.ensures.did in
    let spawned = subst (λ d. IfDone (HasSpawned mid new) (IsStoppedWithin (ranks (setting_in mid)) mid new) d) c.in-Done-2.is c.in_ok-spawn_all.ensures in
    spawned-mending old mid new c.requires.go made spawned c.requires.mendable c.requires.lost c.journal-running.ensures.sound.some_messages c.journal-running.ensures.legal

pub commit-requires : goal.commit-requires
commit-requires g c =
    let old = c.args.world.now in
    let mid = c.restore.new.self in
    let new = c.spawn_all.new.world in
    let now = c.mend_all.new.world in
    let n = length c.args.grids.now in
    let made = subst (λ d. IsDid d old mid r.Restore) c.in-Done.is c.in_ok-restore.ensures.did in
    let spawned = subst (λ d. IfDone (HasSpawned mid new) (IsStoppedWithin (ranks (setting_in mid)) mid new) d) c.in-Done-2.is c.in_ok-spawn_all.ensures in
    let mending = spawned-mending old mid new c.requires.go made spawned c.requires.mendable c.requires.lost c.journal-running.ensures.sound.some_messages c.journal-running.ensures.legal in
    let roomy = spawned-roomy old mid new c.requires.go made spawned c.requires.mendable c.journal-running.ensures.legal in
    let most = grids_so_far (setting_in new) (rest_of new).mark n in
    let mended = subst (λ d. IfDone (HasMended most IsAllHealed new now) (IsHitMending most new now) d) c.in-Done-3.is c.in_ok-mend_all.ensures in
    record { legal = recovery-commits old now c.mark-mark.result (all-mended n old new now (spawned-tried old mid new (restore-tried old mid c.requires.go made) spawned) mending roomy mended) c.mark-mark.ensures }

pub returns-in-Hit : goal.returns-in-Hit
returns-in-Hit g c =
    let stop = subst (λ d. IsDid d c.args.world.now c.restore.new.self r.Restore) c.in-Hit.is c.in_ok-restore.ensures.did in
    stopped-restoring c.args.world.now c.restore.new.self stop

pub returns-in-Hit-2 : goal.returns-in-Hit-2
returns-in-Hit-2 g c =
    let old = c.args.world.now in
    let mid = c.restore.new.self in
    let new = c.spawn_all.new.world in
    let made = subst (λ d. IsDid d old mid r.Restore) c.in-Done.is c.in_ok-restore.ensures.did in
    let stop = subst (λ d. IfDone (HasSpawned mid new) (IsStoppedWithin (ranks (setting_in mid)) mid new) d) c.in-Hit-2.is c.in_ok-spawn_all.ensures in
    stopped-spawning old mid new (restore-tried old mid c.requires.go made) stop

pub returns-in-Hit-3 : goal.returns-in-Hit-3
returns-in-Hit-3 g c =
    let old = c.args.world.now in
    let mid = c.restore.new.self in
    let new = c.spawn_all.new.world in
    let now = c.mend_all.new.world in
    let n = length c.args.grids.now in
    let made = subst (λ d. IsDid d old mid r.Restore) c.in-Done.is c.in_ok-restore.ensures.did in
    let spawned = subst (λ d. IfDone (HasSpawned mid new) (IsStoppedWithin (ranks (setting_in mid)) mid new) d) c.in-Done-2.is c.in_ok-spawn_all.ensures in
    let mending = spawned-mending old mid new c.requires.go made spawned c.requires.mendable c.requires.lost c.journal-running.ensures.sound.some_messages c.journal-running.ensures.legal in
    let roomy = spawned-roomy old mid new c.requires.go made spawned c.requires.mendable c.journal-running.ensures.legal in
    let most = grids_so_far (setting_in new) (rest_of new).mark n in
    let hit = subst (λ d. IfDone (HasMended most IsAllHealed new now) (IsHitMending most new now) d) c.in-Hit-3.is c.in_ok-mend_all.ensures in
    stopped-mending n old new now (spawned-tried old mid new (restore-tried old mid c.requires.go made) spawned) mending roomy hit

pub returns : goal.returns
returns g c =
    let old = c.args.world.now in
    let mid = c.restore.new.self in
    let new = c.spawn_all.new.world in
    let now = c.mend_all.new.world in
    let fin = c.commit.new.self in
    let n = length c.args.grids.now in
    let made = subst (λ d. IsDid d old mid r.Restore) c.in-Done.is c.in_ok-restore.ensures.did in
    let spawned = subst (λ d. IfDone (HasSpawned mid new) (IsStoppedWithin (ranks (setting_in mid)) mid new) d) c.in-Done-2.is c.in_ok-spawn_all.ensures in
    let mending = spawned-mending old mid new c.requires.go made spawned c.requires.mendable c.requires.lost c.journal-running.ensures.sound.some_messages c.journal-running.ensures.legal in
    let roomy = spawned-roomy old mid new c.requires.go made spawned c.requires.mendable c.journal-running.ensures.legal in
    let most = grids_so_far (setting_in new) (rest_of new).mark n in
    let mended = subst (λ d. IfDone (HasMended most IsAllHealed new now) (IsHitMending most new now) d) c.in-Done-3.is c.in_ok-mend_all.ensures in
    let all = all-mended n old new now (spawned-tried old mid new (restore-tried old mid c.requires.go made) spawned) mending roomy mended in
    let commit = r.Commit c.mark-mark.result (is_hurt now) in
    let stopped = IsStoppedWithin (attempt_most (setting_in old) (state_of old).mark) old fin in
    if_ok (λ d. IsDid d now fin commit) (IfDone (HasRecovered old fin) stopped)
    (if_did now fin commit (HasRecovered old fin) stopped (recovered old now fin c.mark-mark.result all c.mark-mark.ensures) (stopped-committing old now fin all))
    c.commit.result c.commit.ensures.did
