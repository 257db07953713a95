use Rattle.std.proofs.Common.{◌∙◌, sym, ◌<◌, ℕ, arith}
use Rattle.run_laws.specs.Due.{ahead}
use Rattle.block_world.specs.World.{setting_in}
use Rattle.world_heal.specs.Outcomes.{IfDrove, IsCutAt, IsHealed}
use Rattle.world_heal.specs.Costs.{Heals, KeepsGoing, KeepsShort, HealsInTime, HoldsWords}
use Rattle.world_heal.proofs.Outcomes.{if_ok, on_ok, both_ok, if_drove, later_of}
use Rattle.loss_recovery.specs.Driven.{Recovers, RecoversInTime}
use Rattle.loss_recovery.proofs.Recovering.{now_fell, some_fell, mendable_fell, site_fell, site_table, site_grids, healed_from, cut_from, fewer_later, recovers_from, going_from, short_from, in_time_from, holds_from}
use Rattle.loss_recovery.proofs.driving.recover.Goals as goal

pub heal-requires : goal.heal-requires
heal-requires g c =
    let w = c.args.world.now in
    let f = c.fall.new.self in
    let site = c.requires.site_is ∙ sym (site_fell w f c.fall.ensures c.requires.due) in
    record {
      mendable = mendable_fell w f c.fall.ensures c.requires.due c.requires.mendable;
      table = site_table f c.args.site.now _ site c.table.ensures.value c.table.ensures.sound;
      grids = site_grids f c.args.site.now _ site c.grid_list.ensures.value;
      few_grids = omega (arith, c.grid_list.ensures.few);
      fell = now_fell w f c.fall.ensures c.requires.due;
      lost = some_fell w f c.fall.ensures c.requires.due c.journal-running.ensures.legal;
    }

pub returns-clause-outcome : goal.returns-clause-outcome
returns-clause-outcome g c =
    let w = c.args.world.now in
    let f = c.fall.new.self in
    let new = c.heal.new.world in
    if_ok (IfDrove (IsHealed f new) (IsCutAt f new)) (IfDrove (IsHealed w new) (IsCutAt w new))
    (if_drove (IsHealed f new) (IsHealed w new) (IsCutAt f new) (IsCutAt w new) (healed_from w f c.fall.ensures c.requires.due new) (cut_from w f c.fall.ensures c.requires.due new))
    c.heal.result c.heal.ensures.outcome

pub returns-clause-fewer : goal.returns-clause-fewer
returns-clause-fewer g c =
    let w = c.args.world.now in
    let f = c.fall.new.self in
    let new = c.heal.new.world in
    on_ok (IfDrove (IsHealed f new) (IsCutAt f new)) (ahead (setting_in w) new.journal < ahead (setting_in w) w.journal)
    (λ x h. fewer_later w f c.fall.ensures c.requires.due new (later_of f new x h))
    c.heal.result c.heal.ensures.outcome

pub returns-clause-costs : goal.returns-clause-costs
returns-clause-costs g c =
    let w = c.args.world.now in
    let f = c.fall.new.self in
    let new = c.heal.new.world in
    both_ok (Heals f new) (Recovers w new) (recovers_from w f c.fall.ensures c.requires.due new) c.heal.result c.heal.ensures.costs

pub returns-clause-goes : goal.returns-clause-goes
returns-clause-goes g c =
    let w = c.args.world.now in
    let f = c.fall.new.self in
    let new = c.heal.new.world in
    both_ok (KeepsGoing f new) (KeepsGoing w new) (going_from w f c.fall.ensures c.requires.due new) c.heal.result c.heal.ensures.goes

pub returns-clause-short : goal.returns-clause-short
returns-clause-short g c =
    let w = c.args.world.now in
    let f = c.fall.new.self in
    let new = c.heal.new.world in
    both_ok ((phase : ℕ) → KeepsShort phase f new) ((phase : ℕ) → KeepsShort phase w new) (short_from w f c.fall.ensures c.requires.due new) c.heal.result c.heal.ensures.short

pub returns-clause-in_time : goal.returns-clause-in_time
returns-clause-in_time g c =
    let w = c.args.world.now in
    let f = c.fall.new.self in
    let new = c.heal.new.world in
    both_ok (HealsInTime f new) (RecoversInTime w new) (in_time_from w f c.fall.ensures c.requires.due new) c.heal.result c.heal.ensures.in_time

pub returns-clause-holds : goal.returns-clause-holds
returns-clause-holds g c =
    let w = c.args.world.now in
    let f = c.fall.new.self in
    let new = c.heal.new.world in
    both_ok (HoldsWords f new) (HoldsWords w new) (holds_from w f c.fall.ensures c.requires.due new) c.heal.result c.heal.ensures.holds
