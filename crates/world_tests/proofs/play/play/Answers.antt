use Rattle.std.proofs.Common.{◌≡◌, ◌+◌, ◌++◌, ◌∷◌, [], List, true, drop, slice_index_or, ap, sym, subst, ◌∙◌, arith}
use Rattle.rank_machine.specs.declared.slot.SlotKind.TheVariants.{Data}
use Rattle.rank_machine.specs.declared.record.Rec.{Rec}
use Rattle.rank_machine.specs.declared.record.Rec.TheVariants.{Feed}
use Rattle.rank_machine.specs.Setting.{Setting}
use Rattle.block_world.specs.World.{WorldView, setting_in, noted}
use Rattle.world_tests.specs.Play.{ready, may_play}
use Rattle.world_tests.proofs.Turns.{turn_at, legal_there, made_is}
use Rattle.world_tests.proofs.play.play.Goals as goal

abbrev other : Rec
other = Feed 0 (record { kind = Data; id = 0; group = 0 })

pub make-requires-clause-one_call : goal.make-requires-clause-one_call
make-requires-clause-one_call c = (turn_at (setting_in c.args.world.now) c.loop-i.world.journal c.args.records.now c.loop-i.i other (omega arith) c.loop-i.invariant.legal).one_call

pub make-requires-clause-legal : goal.make-requires-clause-legal
make-requires-clause-legal c =
    legal_there (setting_in c.args.world.now) (setting_in c.loop-i.world) (setting_in c.settle.new.world) c.loop-i.world.journal c.settle.new.world.journal (slice_index_or c.args.records.now c.loop-i.i other)
    c.settle.ensures.setting c.loop-i.invariant.setting c.settle.ensures.journal
    (turn_at (setting_in c.args.world.now) c.loop-i.world.journal c.args.records.now c.loop-i.i other (omega arith) c.loop-i.invariant.legal).legal

pub loop-i-preserved : goal.loop-i-preserved
loop-i-preserved c =
    let s = setting_in c.args.world.now in
    let x = slice_index_or c.args.records.now c.loop-i.i other in
    let made : c.make.new.world ≡ noted c.settle.new.world x = made_is c.in_ok-make.field-0 c.settle.new.world c.make.new.world x c.in-Done.is c.in_ok-make.ensures in
    let settled : c.settle.new.world.journal ≡ ready s c.loop-i.world.journal = c.settle.ensures.journal ∙ ap (λ (t : Setting). ready t c.loop-i.world.journal) c.loop-i.invariant.setting in
    let grown : c.make.new.world.journal ≡ ready s c.loop-i.world.journal ++ x ∷ [] = ap (λ (w : WorldView). w.journal) made ∙ ap (λ (j : List Rec). j ++ x ∷ []) settled in
    record {
      setting = ap setting_in made ∙ c.settle.ensures.setting ∙ c.loop-i.invariant.setting;
      legal = subst (λ (j : List Rec). may_play s j (drop (c.loop-i.i + 1) c.args.records.now) ≡ true) (sym grown) (turn_at s c.loop-i.world.journal c.args.records.now c.loop-i.i other (omega arith) c.loop-i.invariant.legal).rest;
    }
