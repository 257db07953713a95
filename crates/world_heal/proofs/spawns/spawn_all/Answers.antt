use Rattle.std.proofs.Common.{◌≡◌, ◌+◌, ◌∙◌, sym, subst, false, arith}
use Rattle.rank_machine.specs.declared.record.Rec.TheVariants as r
use Rattle.block_world.specs.World.{state_of}
use Rattle.block_world.specs.Did.{IsDid}
use Rattle.world_heal.proofs.Spawning.{IsSpawning, spawning-begins, spawning-legal, spawning-next, spawning-passes, spawning-stops, spawning-ends}
use Rattle.world_heal.proofs.spawns.spawn_all.Goals as goal
use Rattle.world_heal.proofs.spawns.spawn_all.Goals.{then-not-is_live+in_ok-spawn+in-Done, else-not-is_live}

pub loop-rank-init : goal.loop-rank-init
loop-rank-init g c = spawning-begins c.args.world.now c.requires.go

pub spawn-requires : goal.spawn-requires
spawn-requires g c = record {
  legal = spawning-legal c.loop-rank.rank c.args.world.now c.loop-rank.world c.loop-rank.invariant (omega (arith, c.loop-rank-test.true, c.requires.ranks)) (sym c.is_live.ensures ∙ c.if-not-is_live.true) c.journal-running.ensures.legal;
}

pub loop-rank-preserved : goal.loop-rank-preserved
loop-rank-preserved g c =
    elim c.if-not-is_live.branch [
      | then-not-is_live+in_ok-spawn+in-Done w ↦
          (let dead : (state_of c.loop-rank.world).live c.loop-rank.rank ≡ false = sym c.is_live.ensures ∙ w.if-not-is_live.true in
          let made = subst (λ d. IsDid d c.loop-rank.world w.spawn.new.self (r.Spawn c.loop-rank.rank)) w.in-Done.is w.in_ok-spawn.ensures.did in
          subst (λ v. IsSpawning (c.loop-rank.rank + 1) c.args.world.now v) (sym w.world-is) (spawning-next c.loop-rank.rank c.args.world.now c.loop-rank.world w.spawn.new.self c.loop-rank.invariant dead made))
      | else-not-is_live w ↦
          subst (λ v. IsSpawning (c.loop-rank.rank + 1) c.args.world.now v) (sym w.world-is)
          (spawning-passes c.loop-rank.rank c.args.world.now c.loop-rank.world c.loop-rank.invariant (sym c.is_live.ensures ∙ w.if-not-is_live.false))
    ]

pub returns : goal.returns
returns g c = spawning-ends c.loop-rank.rank c.args.world.now c.loop-rank.world c.loop-rank.invariant (omega (arith, c.loop-rank.auto.rank-end, c.loop-rank-test.false, c.requires.ranks))

pub returns-in-Hit : goal.returns-in-Hit
returns-in-Hit g c =
    let stop = subst (λ d. IsDid d c.loop-rank.world c.spawn.new.self (r.Spawn c.loop-rank.rank)) c.in-Hit.is c.in_ok-spawn.ensures.did in
    spawning-stops c.loop-rank.rank c.args.world.now c.loop-rank.world c.spawn.new.self c.loop-rank.invariant (omega (arith, c.loop-rank-test.true, c.requires.ranks)) stop
