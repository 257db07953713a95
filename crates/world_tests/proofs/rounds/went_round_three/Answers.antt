use Rattle.world_tests.proofs.FourRanks.{trip_wide}
use Rattle.world_tests.proofs.rounds.went_round_three.Goals as goal

pub run_of-requires : goal.run_of-requires
run_of-requires g c = trip_wide c.four_ranks-script.result c.new-files.result c.round_trip-round.result c.four_ranks-script.ensures c.round_trip-round.ensures
