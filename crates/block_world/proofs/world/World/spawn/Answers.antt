use Rattle.std.proofs.Common.{◌<◌, length, refl, ap, sym, subst, ◌∙◌, arith}
use Rattle.rank_run.specs.Machine.{machine}
use Rattle.rank_machine.specs.Effect.{after}
use Rattle.block_world.specs.Log.{recorded}
use Rattle.block_world.specs.Replay.{view_of}
use Rattle.block_world.specs.World.{setting_in, state_of}
use Rattle.block_world.proofs.Replayed.{IsReplay-noted, fields_are, legal_here, due_is, hit_here, made_here, flags_stay}
use Rattle.rank_slots.proofs.Kept.{lent_back}
use Rattle.std.proofs.lemmas.Bool.{ltb-true}
use Rattle.rank_run.specs.Rounds.{on_rank}
use Rattle.rank_machine.specs.Setting.{ranks}
use Rattle.rank_machine.specs.declared.record.Rec.TheVariants.{Spawn}
use Rattle.rank_slots.specs.Lost.{spawned}
use Rattle.rank_slots.proofs.Losses.{stands-spawned, residues-spawned}
use Rattle.block_world.proofs.Falling.{rank_there}
use Rattle.block_world.proofs.world.World.spawn.Goals as goal

pub spawn_on-requires : goal.spawn_on-requires
spawn_on-requires g c =
    let w = c.self.inside in
    let now = view_of w.script.now w.files.now w.keeper in
    let i = c.self.invariant in
    let legal = legal_here now c.args.self.now (Spawn c.args.rank) c.self.view_is c.requires.legal in
    let lt = ltb-true c.args.rank (ranks (setting_in now)) legal.there in
    let lent = ap length c.deref_mut.ensures.value in
    let count = i.stands.count in
    omega (arith, lt, lent, count)

pub invariant_of-self-2 : goal.invariant_of-self-2
invariant_of-self-2 g c =
    let p = g.K.Field.MODULUS in
    let w = c.self.inside in
    let now = view_of w.script.now w.files.now w.keeper in
    let s = setting_in now in
    let r = Spawn c.args.rank in
    let i = c.self.invariant in
    let x = machine w.mems.items w.links in
    let back = lent_back c.spawn_on.new.mems w.mems.items w.mems.len (c.spawn_on.auto.mems ∙ c.deref_mut.ensures.len) in
    let mems = back ∙ c.spawn_on.ensures ∙ ap (λ ms. on_rank ms c.args.rank spawned) c.deref_mut.ensures.value in
    let legal = legal_here now c.args.self.now r c.self.view_is c.requires.legal in
    let there = rank_there w.mems.items c.args.rank (subst (λ n. c.args.rank < n) (sym i.stands.count) (ltb-true c.args.rank (ranks s) legal.there)) in
    fields_are p w.script.now w.files.now w.mark (record { log = c.note.new.self; mems = _; links = w.links; lost = w.lost.items })
    (record { log = recorded w.keeper r; mems = on_rank w.mems.items c.args.rank spawned; links = w.links; lost = w.lost.items })
    (λ j. record { log = c.in_ok-note.ensures.noted j; mems = mems j; links = w.links; lost = w.lost.items })
    (IsReplay-noted p now w.keeper.losses x (machine (on_rank w.mems.items c.args.rank spawned) w.links) w.mark w.mark w.lost.items w.lost.items r i
    (record {
      legal = legal;
      one = refl;
      due = sym (due_is p w.script.now w.files.now w.keeper x w.mark w.lost.items i) ∙ sym c.due.ensures ∙ c.if-due.false;
      stands = stands-spawned s i.table x (state_of now) c.args.rank there.0 there.1 i.stands;
      residues = residues-spawned p x c.args.rank i.residues;
      mark_is = i.mark_is;
      flags = flags_stay s (state_of now) (after s (state_of now) r) w.lost.items refl i.flags;
    }))

pub returns-then-due : goal.returns-then-due
returns-then-due g c =
    let w = c.self.inside in
    record {
      did = hit_here g.K.Field.MODULUS w.script.now w.files.now w.keeper (machine w.mems.items w.links) w.mark w.lost.items c.args.self.now c.self.invariant c.self.view_is (sym c.due.ensures ∙ c.if-due.true);
      kept = tt;
      memory = λ _. refl;
    }

pub returns : goal.returns
returns g c =
    let w = c.self.inside in
    record {
      did = made_here g.K.Field.MODULUS w.script.now w.files.now w.keeper c.note.new.self (machine w.mems.items w.links) w.mark w.lost.items c.args.self.now (Spawn c.args.rank) c.self.invariant c.self.view_is (sym c.due.ensures ∙ c.if-due.false) c.in_ok-note.ensures.noted;
      kept = tt;
      memory = λ _. refl;
    }
