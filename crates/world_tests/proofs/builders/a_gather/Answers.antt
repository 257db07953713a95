use Rattle.std.proofs.Common.{refl}
use Rattle.run_data.specs.Matrix.{tabulate, entry}
use Rattle.world_tests.specs.FedStrips.{matrix, files, work, gather_round}
use Rattle.world_tests.proofs.FedStrips.{may_look-of}
use Rattle.world_tests.proofs.builders.a_gather.Goals as goal

pub number_after-requires : goal.number_after-requires
unfolding tabulate entry matrix files
number_after-requires g c = may_look-of gather_round c.in_ok-round.round 3 (work 1) c.in_ok-round.ensures refl
