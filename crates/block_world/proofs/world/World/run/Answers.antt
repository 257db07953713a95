use Rattle.std.proofs.Common.{◌∙◌, ◌++◌, length, map, take, drop, refl, ap, sym, subst}
use Rattle.rank_link.specs.Traffic.{empty_traffic}
use Rattle.rank_run.specs.Machine.{machine}
use Rattle.rank_run.specs.Rounds.{MayRun}
use Rattle.rank_run.specs.Run.{IsRun}
use Rattle.rank_slots.specs.Rank.{memory, base_in}
use Rattle.rank_slots.proofs.Kept.{lent_back}
use Rattle.rank_slots.proofs.Worlds.{links_empty}
use Rattle.block_world.specs.Log.{is_due_next, empty_log}
use Rattle.block_world.specs.Replay.{view_of, IsReplay}
use Rattle.block_world.specs.Rounds.{IsRoundOf}
use Rattle.block_world.specs.World.{setting_in, state_of}
use Rattle.rank_machine.specs.Setting.{ranks}
use Rattle.std.proofs.lemmas.List.{length-map}
use Rattle.block_world.specs.Ranks.{empty_ranks, restarted, lowered}
use Rattle.block_world.proofs.Falling.{flag_at-lowered}
use Rattle.block_world.proofs.Replayed.{fields_are, IsReplay-opened}
use Rattle.block_world.proofs.Restarted.{all_restarted}
use Rattle.block_world.proofs.Rounds.{allowed_here, noting, may, replay_now, round_now}
use Rattle.block_world.proofs.world.World.run.Goals as goal

pub run_round-requires-clause-ranks : goal.run_round-requires-clause-ranks
run_round-requires-clause-ranks g c = let i = c.self.invariant in ap length c.deref_mut.ensures.value ∙ i.stands.count ∙ sym i.stands.sides

pub run_round-requires-clause-empty : goal.run_round-requires-clause-empty
run_round-requires-clause-empty g c =
    let w = c.self.inside in
    let now = view_of w.script.now w.files.now w.keeper in
    let i = c.self.invariant in
    links_empty (setting_in now) i.table (machine w.mems.items w.links) (state_of now) i.stands (λ from to. ap (λ v. (state_of v).links from to) c.self.view_is ∙ c.requires.links from to)

pub run_round-requires-clause-may : goal.run_round-requires-clause-may
run_round-requires-clause-may g c =
    let p = g.K.Field.MODULUS in
    let w = c.self.inside in
    let x = machine w.mems.items w.links in
    let i = c.self.invariant in
    let allowed = allowed_here p w.script.now w.files.now w.keeper x w.mark w.lost.items c.args.round.now i c.args.self.now c.self.view_is c.requires.links c.requires.ranks c.requires.legal in
    subst (λ ms. MayRun (memory p) ms c.args.round.now) (sym c.deref_mut.ensures.value) (may p w.script.now w.files.now w.keeper x w.mark w.lost.items c.args.round.now i g.met.K.Field.is_field allowed)

pub invariant_of-self : goal.invariant_of-self
invariant_of-self g c =
    let p = g.K.Field.MODULUS in
    let w = c.self.inside in
    let x = machine w.mems.items w.links in
    let i = c.self.invariant in
    let es = c.args.round.now in
    let ran = c.in-Ok.ensures.run in
    let after = machine c.run_round.new.ranks c.run_round.new.links in
    let allowed = allowed_here p w.script.now w.files.now w.keeper x w.mark w.lost.items es i c.args.self.now c.self.view_is c.requires.links c.requires.ranks c.requires.legal in
    let back = lent_back c.run_round.new.ranks w.mems.items w.mems.len (c.run_round.auto.ranks ∙ c.deref_mut.ensures.len) in
    let is = subst (λ ms. IsRun (memory p) base_in noting is_due_next es (machine ms w.links) after c.args.order.now c.run_round.new.order w.keeper c.run_round.new.notary c.in-Ok.ended ran.0) c.deref_mut.ensures.value ran.1 in
    subst (λ ms. IsReplay p (view_of w.script.now w.files.now c.run_round.new.notary) c.run_round.new.notary.losses (machine ms c.run_round.new.links) w.mark w.lost.items) (sym back)
    (replay_now p w.script.now w.files.now w.keeper x w.mark w.lost.items es i g.met.K.Field.is_field allowed c.run_round.new.notary after c.args.order.now c.run_round.new.order c.in-Ok.ended ran.0 is)

pub returns-in-Ok : goal.returns-in-Ok
returns-in-Ok g c =
    let p = g.K.Field.MODULUS in
    let w = c.self.inside in
    let x = machine w.mems.items w.links in
    let i = c.self.invariant in
    let es = c.args.round.now in
    let ran = c.in-Ok.ensures.run in
    let after = machine c.run_round.new.ranks c.run_round.new.links in
    let allowed = allowed_here p w.script.now w.files.now w.keeper x w.mark w.lost.items es i c.args.self.now c.self.view_is c.requires.links c.requires.ranks c.requires.legal in
    let is = subst (λ ms. IsRun (memory p) base_in noting is_due_next es (machine ms w.links) after c.args.order.now c.run_round.new.order w.keeper c.run_round.new.notary c.in-Ok.ended ran.0) c.deref_mut.ensures.value ran.1 in (
      ran.0,
      subst (λ v. IsRoundOf v (view_of w.script.now w.files.now c.run_round.new.notary) es c.args.order.now c.run_round.new.order c.in-Ok.ended ran.0) c.self.view_is
          (round_now p w.script.now w.files.now w.keeper x w.mark w.lost.items es i g.met.K.Field.is_field allowed c.run_round.new.notary after c.args.order.now c.run_round.new.order c.in-Ok.ended ran.0 is),
    )

pub invariant_of-self-in-Err : goal.invariant_of-self-in-Err
invariant_of-self-in-Err g c =
    let w = c.self.inside in
    let i = c.self.invariant in
    let now = view_of w.script.now w.files.now w.keeper in
    let s = setting_in now in
    let came = c.run_round.new.ranks in
    let out = lent_back came w.mems.items w.mems.len (c.run_round.auto.ranks ∙ c.deref_mut.ensures.len) in
    let mems = take w.mems.len (came ++ drop (length came) w.mems.items) in
    let back = lent_back c.restart_all.new.mems mems w.mems.len (c.restart_all.auto.mems ∙ c.deref_mut-in-Err.ensures.len) in
    let blank = c.restart_all.ensures ∙ ap (map restarted) (c.deref_mut-in-Err.ensures.value ∙ out) ∙ c.in-Err.ensures.blank ∙ ap (map restarted) c.deref_mut.ensures.value in
    let ranks_are = back ∙ blank ∙ all_restarted s i.table (machine w.mems.items w.links) (state_of now) i.stands in
    let links_are = c.clear.ensures ∙ (λ n. empty_traffic ((c.in-Err.ensures.kept.0 ∙ i.stands.sides) n) ((c.in-Err.ensures.kept.1 ∙ i.stands.capacity) n)) in
    let flags_back = lent_back c.lower_all.new.lost w.lost.items w.lost.len (c.lower_all.auto.lost ∙ c.deref_mut-in-Err-2.ensures.len) in
    let flags_are = flags_back ∙ c.lower_all.ensures ∙ ap (map lowered) c.deref_mut-in-Err-2.ensures.value in
    let log = c.restart.ensures ∙ c.in-Err.ensures.unheard in
    let mark = c.first-self-inside.result in
    fields_are g.K.Field.MODULUS w.script.now w.files.now mark (record { log = c.restart.new.self; mems = _; links = c.clear.new.self; lost = _ })
    (record { log = empty_log w.keeper.losses 0; mems = empty_ranks i.table (ranks s); links = empty_traffic (ranks s) s.capacity; lost = map lowered w.lost.items })
    (λ j. record { log = log j; mems = ranks_are j; links = links_are j; lost = flags_are j })
    (IsReplay-opened g.K.Field.MODULUS w.script.now w.files.now i.table w.keeper.losses 0 (machine (empty_ranks i.table (ranks s)) (empty_traffic (ranks s) s.capacity)) mark (map lowered w.lost.items)
    i.sound i.losses_are i.lines refl c.first-self-inside.ensures (length-map w.lost.items lowered ∙ i.flags.count) (flag_at-lowered w.lost.items))
