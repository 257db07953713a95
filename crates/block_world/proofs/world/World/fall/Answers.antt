use Rattle.std.proofs.Common.{◌<◌, ◌∙◌, ℕ, List, All, length, ap, sym, subst}
use Rattle.rank_run.specs.Machine.{machine}
use Rattle.rank_machine.specs.declared.record.Loss.{Loss}
use Rattle.rank_slots.proofs.Kept.{lent_back}
use Rattle.run_laws.specs.Due.{numbered}
use Rattle.block_world.specs.Log.{with_falls_next}
use Rattle.block_world.specs.Ranks.{mems_after, links_after, flags_after}
use Rattle.block_world.specs.Replay.{view_of, IsReplay}
use Rattle.block_world.specs.World.{is_due, fallen}
use Rattle.block_world.proofs.Replayed.{fields_are, due_here}
use Rattle.block_world.proofs.Fallen.{IsReplay-fallen, fallen_view}
use Rattle.block_world.proofs.world.World.fall.Goals as goal

pub lose_ranks-requires : goal.lose_ranks-requires
lose_ranks-requires g c =
    let i = c.self.invariant in
    record {
      mems = ap length c.deref_mut.ensures.value ∙ i.stands.count ∙ sym i.stands.sides;
      flags = ap length c.deref_mut-2.ensures.value ∙ i.flags.count ∙ sym i.stands.sides;
      ranks = subst (λ (y : List Loss × ℕ). All (λ (l : Loss). l.rank < y.1) y.0) (λ j. (sym (c.losses.ensures ∙ i.losses_are) j, sym i.stands.sides j)) i.sound.of_ranks;
    }

pub fall-requires : goal.fall-requires
fall-requires g c =
    let w = c.self.inside in
    due_here g.K.Field.MODULUS w.script.now w.files.now w.keeper (machine w.mems.items w.links) w.mark w.lost.items c.args.self.now c.self.invariant c.self.view_is ∙ c.requires

pub invariant_of-self : goal.invariant_of-self
invariant_of-self g c =
    let p = g.K.Field.MODULUS in
    let w = c.self.inside in
    let now = view_of w.script.now w.files.now w.keeper in
    let i = c.self.invariant in
    let x = machine w.mems.items w.links in
    let losses = w.keeper.losses in
    let n = numbered w.keeper.journal in
    let lost = c.lose_ranks.ensures in
    let ranks_back = lent_back c.lose_ranks.new.mems w.mems.items w.mems.len (c.lose_ranks.auto.mems ∙ c.deref_mut.ensures.len) in
    let flags_back = lent_back c.lose_ranks.new.lost w.lost.items w.lost.len (c.lose_ranks.auto.lost ∙ c.deref_mut-2.ensures.len) in
    let ms = ranks_back ∙ lost.mems ∙ (λ j. mems_after (c.losses.ensures j) (c.steps.ensures j) (c.deref_mut.ensures.value j)) in
    let bs = flags_back ∙ lost.flags ∙ (λ j. flags_after (c.losses.ensures j) (c.steps.ensures j) (c.deref_mut-2.ensures.value j)) in
    let links = lost.links ∙ (λ j. links_after (c.losses.ensures j) (c.steps.ensures j) w.links) in
    let due = ap is_due c.self.view_is ∙ c.requires in
    fields_are p w.script.now w.files.now w.mark (record { log = c.fall.new.self; mems = _; links = c.lose_ranks.new.links; lost = _ })
    (record { log = with_falls_next w.keeper; mems = mems_after losses n w.mems.items; links = links_after losses n w.links; lost = flags_after losses n w.lost.items })
    (λ j. record { log = c.fall.ensures j; mems = ms j; links = links j; lost = bs j })
    (subst (λ v. IsReplay p v losses (machine (mems_after losses n w.mems.items) (links_after losses n w.links)) w.mark (flags_after losses n w.lost.items)) (sym (fallen_view w.script.now w.files.now w.keeper i.losses_are))
    (IsReplay-fallen p now losses x w.mark w.lost.items due i))

pub returns : goal.returns
returns g c =
    let w = c.self.inside in
    ap (view_of w.script.now w.files.now) c.fall.ensures ∙ fallen_view w.script.now w.files.now w.keeper c.self.invariant.losses_are ∙ ap fallen c.self.view_is
