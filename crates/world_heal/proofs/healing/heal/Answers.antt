use Rattle.std.proofs.Common.{◌∙◌, sym, ap, subst}
use Rattle.rank_machine.specs.Setting.{Setting}
use Rattle.block_world.specs.World.{setting_in, state_of}
use Rattle.world_heal.specs.Ways.{IfDone}
use Rattle.world_heal.specs.Outcomes.{IsHealed, IsCutAt, EndsOrGoesOn}
use Rattle.world_heal.specs.Mended.{IsMendable, IsTable}
use Rattle.world_heal.specs.Attempts.{attempt_most, HasRecovered, IsStoppedWithin}
use Rattle.world_heal.proofs.Later.{setting-later}
use Rattle.world_heal.proofs.Endings.{if_ending, lost_here, cut_here, cut-costs, cut-in_time, begins-then, then-fewer, healed_here, here-costs, here-goes, here-short, here-in_time, here-holds}
use Rattle.world_heal.proofs.healing.heal.Goals as goal

pub returns-in-Some : goal.returns-in-Some
returns-in-Some g c =
    let old = c.args.world.now in
    let now = c.loop-drove.world in
    let begins = c.loop-drove.invariant in
    let drove = c.in-Some.drove in
    let ends = subst (λ o. EndsOrGoesOn (setting_in now) now.journal o) c.in-Some.is c.ending.ensures in
    record {
      outcome = if_ending (IsHealed old now) (IsCutAt old now) (setting_in now) (state_of now) drove ends (cut_here old now begins drove ends);
      costs = cut-costs old now begins;
      in_time = cut-in_time old now begins drove ends;
      goes = begins.begins.goes;
      short = begins.begins.short;
      holds = begins.holds;
    }

pub heal_once-requires-clause-mendable : goal.heal_once-requires-clause-mendable
heal_once-requires-clause-mendable g c =
    subst IsMendable (sym (setting-later c.args.world.now c.loop-drove.world c.loop-drove.invariant.later)) c.requires.mendable

pub heal_once-requires-clause-table : goal.heal_once-requires-clause-table
heal_once-requires-clause-table g c =
    subst (λ s. IsTable s c.args.table.now) (sym (setting-later c.args.world.now c.loop-drove.world c.loop-drove.invariant.later)) c.requires.table

pub heal_once-requires-clause-grids : goal.heal_once-requires-clause-grids
heal_once-requires-clause-grids g c =
    c.requires.grids ∙ sym (ap (λ (s : Setting). s.grids) (setting-later c.args.world.now c.loop-drove.world c.loop-drove.invariant.later))

pub heal_once-requires-clause-lost : goal.heal_once-requires-clause-lost
heal_once-requires-clause-lost g c = lost_here c.args.world.now c.loop-drove.world c.loop-drove.invariant

pub returns-in-Done : goal.returns-in-Done
returns-in-Done g c =
    let old = c.args.world.now in
    let now = c.loop-drove.world in
    let new = c.heal_once.new.world in
    let begins = c.loop-drove.invariant in
    let recovered = subst (λ d. IfDone (HasRecovered now new) (IsStoppedWithin (attempt_most (setting_in now) (state_of now).mark) now new) d) c.in-Done.is c.in_ok-heal_once.ensures in
    record {
      outcome = healed_here old now begins new recovered;
      costs = here-costs old now begins new recovered;
      in_time = here-in_time old now begins new recovered;
      goes = here-goes old now begins new recovered;
      short = here-short old now begins new recovered;
      holds = here-holds old now begins new recovered;
    }

pub loop-drove-smaller : goal.loop-drove-smaller
loop-drove-smaller g c =
    let old = c.args.world.now in
    let now = c.loop-drove.world in
    let mid = c.heal_once.new.world in
    let stopped = subst (λ d. IfDone (HasRecovered now mid) (IsStoppedWithin (attempt_most (setting_in now) (state_of now).mark) now mid) d) c.in-Hit.is c.in_ok-heal_once.ensures in
    then-fewer old now c.loop-drove.invariant mid c.fall.new.self stopped c.fall.ensures

pub loop-drove-preserved : goal.loop-drove-preserved
loop-drove-preserved g c =
    let old = c.args.world.now in
    let now = c.loop-drove.world in
    let mid = c.heal_once.new.world in
    let stopped = subst (λ d. IfDone (HasRecovered now mid) (IsStoppedWithin (attempt_most (setting_in now) (state_of now).mark) now mid) d) c.in-Hit.is c.in_ok-heal_once.ensures in
    begins-then old now c.loop-drove.invariant mid c.fall.new.self stopped c.fall.ensures c.journal-running.ensures.legal
