use Rattle.std.proofs.Common.{refl}
use Rattle.run_data.specs.Matrix.{tabulate}
use Rattle.world_tests.specs.OneMatrix.{setting}
use Rattle.world_tests.specs.Play.{may_make, may_play}
use Rattle.world_tests.proofs.tests.a_loss_after_a_commit.Goals as goal

pub played-requires-clause-legal : goal.played-requires-clause-legal
unfolding tabulate setting may_make may_play
played-requires-clause-legal g c = refl
