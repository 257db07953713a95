use Rattle.std.proofs.Common.{◌≡◌, ◌∙◌, ap}
use Rattle.rank_machine.specs.Scripts.{setting_of}
use Rattle.block_world.specs.World.{WorldView, setting_in}
use Rattle.world_tests.specs.OneWord.{setting}
use Rattle.world_tests.proofs.OneWord.{setting-of, sound-of, losses-of, only-of, may_play-of}
use Rattle.world_tests.proofs.word.played_word.Goals as goal

pub open-requires : goal.open-requires
open-requires c =
    let s = setting_of c.in_ok-script.script c.in_ok-files.files in
    let e : s ≡ setting = setting-of c.in_ok-script.script c.in_ok-files.files c.in_ok-script.ensures c.in_ok-files.ensures in
    record { sound = sound-of s e; losses = losses-of s e }

pub play-requires : goal.play-requires
play-requires c =
    let w = c.in_ok-world.world in
    let e : setting_in w ≡ setting = ap setting_in c.in_ok-world.ensures ∙ setting-of c.in_ok-script.script c.in_ok-files.files c.in_ok-script.ensures c.in_ok-files.ensures in
    record {
      only = only-of (setting_in w) c.fixture_layout.result c.in_ok-m.m e c.fixture_layout.ensures c.in_ok-m.ensures;
      legal = may_play-of (setting_in w) w.journal c.args.records.now e (ap (λ (v : WorldView). v.journal) c.in_ok-world.ensures) c.requires.legal;
    }
