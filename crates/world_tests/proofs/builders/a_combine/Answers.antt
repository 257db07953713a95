use Rattle.std.proofs.Common.{refl}
use Rattle.run_data.specs.Matrix.{tabulate, entry}
use Rattle.world_tests.specs.FedStrips.{matrix, files, work, least_round}
use Rattle.world_tests.proofs.FedStrips.{may_look-of}
use Rattle.world_tests.proofs.builders.a_combine.Goals as goal

pub number_after-requires : goal.number_after-requires
unfolding tabulate entry matrix files
number_after-requires g c = may_look-of least_round c.in_ok-round.round 0 (work 0) c.in_ok-round.ensures refl

pub number_after-requires-2 : goal.number_after-requires-2
unfolding tabulate entry matrix files
number_after-requires-2 g c = may_look-of least_round c.in_ok-round.round 2 (work 0) c.in_ok-round.ensures refl
