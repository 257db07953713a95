use Rattle.std.proofs.Common.{refl}
use Rattle.run_data.specs.Matrix.{tabulate, entry}
use Rattle.world_tests.specs.FedStrips.{matrix, files, work, exchange_round}
use Rattle.world_tests.proofs.FedStrips.{may_look-of}
use Rattle.world_tests.proofs.builders.an_exchange.Goals as goal

pub number_after-requires : goal.number_after-requires
unfolding tabulate entry matrix files
number_after-requires g c = may_look-of (exchange_round 0) c.in_ok-one.one 0 (work 0) c.in_ok-one.ensures refl

pub number_after-requires-2 : goal.number_after-requires-2
unfolding tabulate entry matrix files
number_after-requires-2 g c = may_look-of (exchange_round 2) c.in_ok-other.other 2 (work 0) c.in_ok-other.ensures refl
