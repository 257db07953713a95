use Rattle.std.proofs.Common.{refl, ap, sym, subst, map, All, ◌∙◌}
use Rattle.rank_run.specs.Machine.{machine}
use Rattle.rank_machine.specs.Effect.{after}
use Rattle.block_world.specs.Log.{recorded}
use Rattle.block_world.specs.Replay.{view_of}
use Rattle.block_world.specs.World.{setting_in, state_of}
use Rattle.block_world.proofs.Replayed.{IsReplay-noted, fields_are, due_is, hit_here, made_here, flags_stay}
use Rattle.rank_slots.proofs.Kept.{lent_back}
use Rattle.rank_link.specs.Traffic.{empty_traffic}
use Rattle.rank_machine.specs.declared.record.Rec.TheVariants.{Restore}
use Rattle.rank_slots.specs.Cells.{AreOrdered}
use Rattle.rank_slots.specs.Rank.{Rank}
use Rattle.rank_slots.specs.Lost.{restored}
use Rattle.rank_slots.proofs.Losses.{stands-restored, residues-restored}
use Rattle.block_world.proofs.Bare.{lost_are_bare}
use Rattle.block_world.proofs.world.World.restore.Goals as goal

pub invariant_of-self-2 : goal.invariant_of-self-2
invariant_of-self-2 g c =
    let p = g.K.Field.MODULUS in
    let w = c.self.inside in
    let now = view_of w.script.now w.files.now w.keeper in
    let s = setting_in now in
    let i = c.self.invariant in
    let x = machine w.mems.items w.links in
    let none = empty_traffic w.links.ranks w.links.capacity in
    let back = lent_back c.restore_all.new.mems w.mems.items w.mems.len (c.restore_all.auto.mems ∙ c.deref_mut.ensures.len) in
    let mems = back ∙ c.restore_all.ensures.restored ∙ ap (map restored) c.deref_mut.ensures.value in
    let ordered = subst (λ ms. All (λ (m : Rank). AreOrdered m.cells) ms) c.deref_mut.ensures.value c.restore_all.ensures.ordered in
    fields_are p w.script.now w.files.now w.mark (record { log = c.note.new.self; mems = _; links = c.clear.new.self; lost = w.lost.items })
    (record { log = recorded w.keeper Restore; mems = map restored w.mems.items; links = none; lost = w.lost.items })
    (λ j. record { log = c.in_ok-note.ensures.noted j; mems = mems j; links = c.clear.ensures j; lost = w.lost.items })
    (IsReplay-noted p now w.keeper.losses x (machine (map restored w.mems.items) none) w.mark w.mark w.lost.items w.lost.items Restore i
    (record {
      legal = tt;
      one = refl;
      due = sym (due_is p w.script.now w.files.now w.keeper x w.mark w.lost.items i) ∙ sym c.due.ensures ∙ c.if-due.false;
      stands = stands-restored s i.table x (state_of now) (lost_are_bare s w.keeper.journal i.legal) ordered i.stands;
      residues = residues-restored p x i.residues;
      mark_is = i.mark_is;
      flags = flags_stay s (state_of now) (after s (state_of now) Restore) w.lost.items refl i.flags;
    }))

pub returns-then-due : goal.returns-then-due
returns-then-due g c =
    let w = c.self.inside in
    record {
      did = hit_here g.K.Field.MODULUS w.script.now w.files.now w.keeper (machine w.mems.items w.links) w.mark w.lost.items c.args.self.now c.self.invariant c.self.view_is (sym c.due.ensures ∙ c.if-due.true);
      kept = tt;
      memory = λ _. refl;
    }

pub returns : goal.returns
returns g c =
    let w = c.self.inside in
    record {
      did = made_here g.K.Field.MODULUS w.script.now w.files.now w.keeper c.note.new.self (machine w.mems.items w.links) w.mark w.lost.items c.args.self.now (Restore) c.self.invariant c.self.view_is (sym c.due.ensures ∙ c.if-due.false) c.in_ok-note.ensures.noted;
      kept = tt;
      memory = λ _. refl;
    }
