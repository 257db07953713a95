use Rattle.std.proofs.Common.{◌≡◌, ◌∙◌, ◌++◌, ◌∷◌, [], List, ap, sym}
use Rattle.rank_machine.specs.declared.record.Rec.{Rec}
use Rattle.rank_machine.specs.declared.record.Rec.TheVariants.{Feed}
use Rattle.rank_machine.specs.Setting.{Setting}
use Rattle.rank_machine.specs.Scripts.{setting_of}
use Rattle.block_world.specs.World.{WorldView, setting_in, noted}
use Rattle.world_tests.specs.FedStrips.{setting, data_slot, fed}
use Rattle.world_tests.proofs.FedStrips.{setting-of, sound-of, only-of, made, legal_in, first_feed, second_feed, can_look}
use Rattle.world_tests.proofs.fed_strips.number_after.Goals as goal

pub open-requires : goal.open-requires
open-requires c =
    let s = setting_of c.in_ok-script.script c.in_ok-files.files in
    let e : s ≡ setting = setting-of c.in_ok-script.script c.in_ok-files.files c.in_ok-script.ensures c.in_ok-files.ensures in
    record { sound = sound-of s e; losses = sym (ap (λ (t : Setting). t.losses) e) }

pub feed-requires : goal.feed-requires
feed-requires c =
    let w = c.in_ok-world.world in
    let e : setting_in w ≡ setting = ap setting_in c.in_ok-world.ensures ∙ setting-of c.in_ok-script.script c.in_ok-files.files c.in_ok-script.ensures c.in_ok-files.ensures in
    record {
      only = only-of (setting_in w) c.fixture_layout.result c.in_ok-m.m e c.fixture_layout.ensures c.in_ok-m.ensures;
      legal = legal_in w [] (Feed 0 data_slot) e (ap (λ (v : WorldView). v.journal) c.in_ok-world.ensures) first_feed;
    }

pub feed-requires-2 : goal.feed-requires-2
feed-requires-2 c =
    let w = c.in_ok-world.world in
    let x : Rec = Feed 0 data_slot in
    let e : setting_in w ≡ setting = ap setting_in c.in_ok-world.ensures ∙ setting-of c.in_ok-script.script c.in_ok-files.files c.in_ok-script.ensures c.in_ok-files.ensures in
    let one : c.feed.new.world ≡ noted w x = made c.in_ok-feed.field-0 w c.feed.new.world x (ap (λ (t : Setting). t.losses) e) c.in_ok-feed.ensures in
    let e1 : setting_in c.feed.new.world ≡ setting = ap setting_in one ∙ e in
    let j1 : c.feed.new.world.journal ≡ x ∷ [] = ap (λ (v : WorldView). v.journal) one ∙ ap (λ (v : WorldView). v.journal ++ x ∷ []) c.in_ok-world.ensures in
    record {
      only = only-of (setting_in c.feed.new.world) c.fixture_layout-2.result c.in_ok-m.m e1 c.fixture_layout-2.ensures c.in_ok-m.ensures;
      legal = legal_in c.feed.new.world (x ∷ []) (Feed 2 data_slot) e1 j1 second_feed;
    }

pub run_and_look-requires : goal.run_and_look-requires
run_and_look-requires c =
    let w = c.in_ok-world.world in
    let x : Rec = Feed 0 data_slot in
    let y : Rec = Feed 2 data_slot in
    let e : setting_in w ≡ setting = ap setting_in c.in_ok-world.ensures ∙ setting-of c.in_ok-script.script c.in_ok-files.files c.in_ok-script.ensures c.in_ok-files.ensures in
    let one : c.feed.new.world ≡ noted w x = made c.in_ok-feed.field-0 w c.feed.new.world x (ap (λ (t : Setting). t.losses) e) c.in_ok-feed.ensures in
    let e1 : setting_in c.feed.new.world ≡ setting = ap setting_in one ∙ e in
    let j1 : c.feed.new.world.journal ≡ x ∷ [] = ap (λ (v : WorldView). v.journal) one ∙ ap (λ (v : WorldView). v.journal ++ x ∷ []) c.in_ok-world.ensures in
    let two : c.feed-2.new.world ≡ noted c.feed.new.world y = made c.in_ok-feed-2.field-0 c.feed.new.world c.feed-2.new.world y (ap (λ (t : Setting). t.losses) e1) c.in_ok-feed-2.ensures in
    let e2 : setting_in c.feed-2.new.world ≡ setting = ap setting_in two ∙ e1 in
    let j2 : c.feed-2.new.world.journal ≡ fed = ap (λ (v : WorldView). v.journal) two ∙ ap (λ (j : List Rec). j ++ y ∷ []) j1 in
    let h = can_look c.feed-2.new.world c.args.round.now c.args.rank c.args.slot e2 j2 c.requires in
    record { links = h.links; within = h.within; legal = h.legal; look = h.look }
