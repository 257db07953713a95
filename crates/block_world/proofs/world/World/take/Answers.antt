use Rattle.std.proofs.Common.{Some, refl, ap, sym, ◌∙◌}
use Rattle.rank_run.specs.Machine.{machine}
use Rattle.rank_machine.specs.Effect.{after}
use Rattle.rank_machine.specs.declared.record.Rec.TheVariants.{Take}
use Rattle.block_world.specs.Log.{recorded}
use Rattle.block_world.specs.Replay.{view_of}
use Rattle.block_world.specs.World.{setting_in, state_of}
use Rattle.block_world.proofs.Replayed.{IsReplay-noted, fields_are, legal_here, due_is, hit_here, made_here, flags_stay}
use Rattle.rank_slots.specs.Stands.{tiles_at}
use Rattle.rank_slots.proofs.Worlds.{stands-taken}
use Rattle.block_world.proofs.world.World.take.Goals as goal

pub invariant_of-self-2 : goal.invariant_of-self-2
invariant_of-self-2 g c =
    let p = g.K.Field.MODULUS in
    let w = c.self.inside in
    let now = view_of w.script.now w.files.now w.keeper in
    let r = Take c.args.rank c.args.slot in
    let i = c.self.invariant in
    let x = machine w.mems.items w.links in
    fields_are p w.script.now w.files.now w.mark (record { log = c.note.new.self; mems = w.mems.items; links = w.links; lost = w.lost.items })
    (record { log = recorded w.keeper r; mems = w.mems.items; links = w.links; lost = w.lost.items })
    (λ j. record { log = c.in_ok-note.ensures.noted j; mems = w.mems.items; links = w.links; lost = w.lost.items })
    (IsReplay-noted p now w.keeper.losses x x w.mark w.mark w.lost.items w.lost.items r i
    (record {
      legal = legal_here now c.args.self.now r c.self.view_is c.requires.legal;
      one = refl;
      due = sym (due_is p w.script.now w.files.now w.keeper x w.mark w.lost.items i) ∙ sym c.due.ensures ∙ c.if-due.false;
      stands = stands-taken (setting_in now) i.table x (state_of now) c.args.rank c.args.slot i.stands;
      residues = i.residues;
      mark_is = i.mark_is;
      flags = flags_stay (setting_in now) (state_of now) (after (setting_in now) (state_of now) r) w.lost.items refl i.flags;
    }))

pub returns-then-due : goal.returns-then-due
returns-then-due g c =
    let w = c.self.inside in
    record {
      taken = hit_here g.K.Field.MODULUS w.script.now w.files.now w.keeper (machine w.mems.items w.links) w.mark w.lost.items c.args.self.now c.self.invariant c.self.view_is (sym c.due.ensures ∙ c.if-due.true);
      kept = tt;
    }

pub returns : goal.returns
returns g c =
    let w = c.self.inside in
    let i = c.self.invariant in
    let now = view_of w.script.now w.files.now w.keeper in
    let made = made_here g.K.Field.MODULUS w.script.now w.files.now w.keeper c.note.new.self (machine w.mems.items w.links) w.mark w.lost.items c.args.self.now (Take c.args.rank c.args.slot) i c.self.view_is (sym c.due.ensures ∙ c.if-due.false) c.in_ok-note.ensures.noted in
    record {
      taken = record {
        due = made.due;
        tile =
            sym (ap (λ v. (state_of v).tiles c.args.rank c.args.slot) c.self.view_is)
            ∙ sym (i.stands.tiles c.args.rank c.args.slot)
            ∙ sym (ap (λ ms. tiles_at ms c.args.rank c.args.slot) c.deref.ensures.value)
            ∙ sym c.in-Some.ensures
            ∙ sym (ap Some c.in_ok-tile-in-Some.ensures);
        noted = made.noted;
      };
      kept = tt;
    }
