use Rattle.std.proofs.Common.{refl}
use Rattle.run_data.specs.Matrix.{tabulate}
use Rattle.world_tests.specs.OneWord.{setting}
use Rattle.world_tests.specs.Play.{may_make, may_play}
use Rattle.world_tests.proofs.tests.one_word.Goals as goal

pub played_word-requires : goal.played_word-requires
unfolding tabulate setting may_make may_play
played_word-requires g c = record { legal = refl }

pub played_word-requires-2 : goal.played_word-requires-2
unfolding tabulate setting may_make may_play
played_word-requires-2 g c = record { legal = refl }
