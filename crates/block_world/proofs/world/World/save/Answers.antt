use Rattle.std.proofs.Common.{◌<◌, ◌∙◌, length, refl, ap, sym, subst}
use Rattle.std.proofs.lemmas.Option.{slice_get_within}
use Rattle.rank_run.specs.Machine.{machine}
use Rattle.rank_machine.specs.Effect.{after}
use Rattle.rank_run.specs.Rounds.{on_rank}
use Rattle.rank_machine.specs.declared.record.Rec.TheVariants.{Save}
use Rattle.rank_slots.specs.Rank.{Rank, with_save}
use Rattle.block_world.specs.Log.{recorded}
use Rattle.block_world.specs.Replay.{view_of}
use Rattle.block_world.specs.World.{setting_in, state_of}
use Rattle.block_world.proofs.Replayed.{IsReplay-noted, fields_are, legal_here, due_is, hit_here, made_here, take_back_here, flags_stay}
use Rattle.rank_slots.proofs.Kept.{lent_back}
use Rattle.rank_slots.proofs.Worlds.{live_is_there, stands-saved, residues-saved}
use Rattle.block_world.proofs.world.World.save.Goals as goal

pub save_on-requires-clause-rank : goal.save_on-requires-clause-rank
save_on-requires-clause-rank g c =
    let w = c.self.inside in
    let now = view_of w.script.now w.files.now w.keeper in
    let legal = legal_here now c.args.self.now (Save c.args.rank c.args.slot) c.self.view_is c.requires.legal in
    let there = live_is_there w.mems.items c.args.rank (c.self.invariant.stands.live c.args.rank ∙ legal.live) in
    subst (λ ms. c.args.rank < length ms) (sym c.deref_mut.ensures.value) (slice_get_within w.mems.items c.args.rank there.0 there.1)

pub invariant_of-self-in-Ok : goal.invariant_of-self-in-Ok
invariant_of-self-in-Ok g c =
    let p = g.K.Field.MODULUS in
    let w = c.self.inside in
    let now = view_of w.script.now w.files.now w.keeper in
    let rank = c.args.rank in
    let slot = c.args.slot in
    let r = Save rank slot in
    let i = c.self.invariant in
    let x = machine w.mems.items w.links in
    let f : Rank → Rank = λ m. with_save m slot in
    let back = lent_back c.save_on.new.mems w.mems.items w.mems.len (c.save_on.auto.mems ∙ c.deref_mut.ensures.len) in
    let mems = back ∙ c.in-Ok.ensures.done ∙ ap (λ ms. on_rank ms rank f) c.deref_mut.ensures.value in
    fields_are p w.script.now w.files.now w.mark (record { log = c.note.new.self; mems = _; links = w.links; lost = w.lost.items })
    (record { log = recorded w.keeper r; mems = on_rank w.mems.items rank f; links = w.links; lost = w.lost.items })
    (λ j. record { log = c.in_ok-note.ensures.noted j; mems = mems j; links = w.links; lost = w.lost.items })
    (IsReplay-noted p now w.keeper.losses x (machine (on_rank w.mems.items rank f) w.links) w.mark w.mark w.lost.items w.lost.items r i
    (record {
      legal = legal_here now c.args.self.now r c.self.view_is c.requires.legal;
      one = refl;
      due = sym (due_is p w.script.now w.files.now w.keeper x w.mark w.lost.items i) ∙ sym c.due.ensures ∙ c.if-due.false;
      stands = stands-saved (setting_in now) i.table x (state_of now) rank slot i.stands;
      residues = residues-saved p x rank slot i.residues;
      mark_is = i.mark_is;
      flags = flags_stay (setting_in now) (state_of now) (after (setting_in now) (state_of now) r) w.lost.items refl i.flags;
    }))

pub invariant_of-self-in-Err : goal.invariant_of-self-in-Err
invariant_of-self-in-Err g c =
    let w = c.self.inside in
    let back = lent_back c.save_on.new.mems w.mems.items w.mems.len (c.save_on.auto.mems ∙ c.deref_mut.ensures.len) in
    let mems = back ∙ c.in-Err.ensures.kept ∙ c.deref_mut.ensures.value in
    let log = c.take_back.ensures w.keeper (Save c.args.rank c.args.slot) c.in_ok-note.ensures.noted c.room-room.ensures in
    fields_are g.K.Field.MODULUS w.script.now w.files.now w.mark (record { log = c.take_back.new.self; mems = _; links = w.links; lost = w.lost.items })
    (record { log = w.keeper; mems = w.mems.items; links = w.links; lost = w.lost.items })
    (λ j. record { log = log j; mems = mems j; links = w.links; lost = w.lost.items })
    c.self.invariant

pub take_back-requires : goal.take_back-requires
take_back-requires g c =
    let w = c.self.inside in
    let may = take_back_here w.keeper c.note.new.self (Save c.args.rank c.args.slot) c.room-room.result refl (sym c.due.ensures ∙ c.if-due.false) c.in_ok-note.ensures.noted c.room-room.ensures in
    record { some = may.some; numbered = may.numbered; due = may.due; room = may.room_is }

pub returns-then-due : goal.returns-then-due
returns-then-due g c =
    let w = c.self.inside in
    record {
      did = hit_here g.K.Field.MODULUS w.script.now w.files.now w.keeper (machine w.mems.items w.links) w.mark w.lost.items c.args.self.now c.self.invariant c.self.view_is (sym c.due.ensures ∙ c.if-due.true);
      kept = tt;
    }

pub returns-in-Ok : goal.returns-in-Ok
returns-in-Ok g c =
    let w = c.self.inside in
    record {
      did = made_here g.K.Field.MODULUS w.script.now w.files.now w.keeper c.note.new.self (machine w.mems.items w.links) w.mark w.lost.items c.args.self.now (Save c.args.rank c.args.slot) c.self.invariant c.self.view_is (sym c.due.ensures ∙ c.if-due.false) c.in_ok-note.ensures.noted;
      kept = tt;
    }
