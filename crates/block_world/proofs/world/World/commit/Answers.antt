use Rattle.std.proofs.Common.{map, refl, ap, sym, subst, ◌∙◌}
use Rattle.rank_run.specs.Machine.{machine}
use Rattle.rank_machine.specs.Effect.{after}
use Rattle.block_world.specs.Log.{recorded}
use Rattle.block_world.specs.Replay.{view_of}
use Rattle.block_world.specs.World.{setting_in, state_of, is_hurt}
use Rattle.block_world.proofs.Replayed.{IsReplay-noted, fields_are, due_is, hit_here, made_here}
use Rattle.rank_slots.proofs.Kept.{lent_back}
use Rattle.rank_machine.specs.Legal.{IsLegalRec}
use Rattle.rank_machine.specs.declared.record.Rec.TheVariants.{Commit}
use Rattle.rank_slots.proofs.Worlds.{stands-committed, residues-committed}
use Rattle.block_world.specs.Ranks.{committed, some_flag, lowered}
use Rattle.block_world.proofs.Falling.{hurt_is, flags_lowered}
use Rattle.block_world.proofs.world.World.commit.Goals as goal

pub invariant_of-self-2 : goal.invariant_of-self-2
invariant_of-self-2 g c =
    let p = g.K.Field.MODULUS in
    let w = c.self.inside in
    let now = view_of w.script.now w.files.now w.keeper in
    let s = setting_in now in
    let mark = c.args.mark in
    let r = Commit mark (is_hurt now) in
    let i = c.self.invariant in
    let x = machine w.mems.items w.links in
    let healed = c.has_flag-healed.ensures ∙ ap some_flag c.deref.ensures.value ∙ hurt_is s (state_of now) w.lost.items i.flags in
    let back = lent_back c.commit_all.new.mems w.mems.items w.mems.len (c.commit_all.auto.mems ∙ c.deref_mut.ensures.len) in
    let mems = back ∙ c.commit_all.ensures ∙ ap (map (committed mark)) c.deref_mut.ensures.value in
    let flags_back = lent_back c.lower_all.new.lost w.lost.items w.lost.len (c.lower_all.auto.lost ∙ c.deref_mut-2.ensures.len) in
    let flags = flags_back ∙ c.lower_all.ensures ∙ ap (map lowered) c.deref_mut-2.ensures.value in
    fields_are p w.script.now w.files.now mark (record { log = c.note.new.self; mems = _; links = w.links; lost = _ })
    (record { log = recorded w.keeper r; mems = map (committed mark) w.mems.items; links = w.links; lost = map lowered w.lost.items })
    (λ j. record { log = (c.in_ok-note.ensures.noted ∙ ap (λ b. recorded w.keeper (Commit mark b)) healed) j; mems = mems j; links = w.links; lost = flags j })
    (IsReplay-noted p now w.keeper.losses x (machine (map (committed mark) w.mems.items) w.links) w.mark mark w.lost.items (map lowered w.lost.items) r i
    (record {
      legal = subst (λ v. IsLegalRec (setting_in v) (state_of v) (Commit mark (is_hurt v))) (sym c.self.view_is) c.requires.legal;
      one = refl;
      due = sym (due_is p w.script.now w.files.now w.keeper x w.mark w.lost.items i) ∙ sym c.due.ensures ∙ c.if-due.false;
      stands = stands-committed s i.table x (state_of now) mark (is_hurt now) i.lines i.stands;
      residues = residues-committed p x mark i.residues;
      mark_is = refl;
      flags = flags_lowered s (state_of now) (after s (state_of now) r) w.lost.items (λ rank. refl) i.flags;
    }))

pub returns-then-due : goal.returns-then-due
returns-then-due g c =
    let w = c.self.inside in
    record {
      did = hit_here g.K.Field.MODULUS w.script.now w.files.now w.keeper (machine w.mems.items w.links) w.mark w.lost.items c.args.self.now c.self.invariant c.self.view_is (sym c.due.ensures ∙ c.if-due.true);
      kept = tt;
      memory = λ _. refl;
    }

pub returns : goal.returns
returns g c =
    let w = c.self.inside in
    let now = view_of w.script.now w.files.now w.keeper in
    let healed = c.has_flag-healed.ensures ∙ ap some_flag c.deref.ensures.value ∙ hurt_is (setting_in now) (state_of now) w.lost.items c.self.invariant.flags in
    record {
      did = made_here g.K.Field.MODULUS w.script.now w.files.now w.keeper c.note.new.self (machine w.mems.items w.links) w.mark w.lost.items c.args.self.now (Commit c.args.mark (is_hurt c.args.self.now)) c.self.invariant c.self.view_is (sym c.due.ensures ∙ c.if-due.false)
          (c.in_ok-note.ensures.noted ∙ ap (λ b. recorded w.keeper (Commit c.args.mark b)) (healed ∙ ap is_hurt c.self.view_is));
      kept = tt;
      memory = λ _. refl;
    }
