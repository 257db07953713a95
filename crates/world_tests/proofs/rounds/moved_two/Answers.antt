use Rattle.world_tests.proofs.FourRanks.{moves_wide}
use Rattle.world_tests.proofs.rounds.moved_two.Goals as goal

pub run_of-requires : goal.run_of-requires
run_of-requires g c = moves_wide c.four_ranks-script.result c.new-files.result c.two_moves-round.result c.four_ranks-script.ensures c.two_moves-round.ensures
