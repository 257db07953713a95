use Rattle.world_tests.proofs.FedStrips.{grids-within, laid-out}
use Rattle.world_tests.proofs.fed_strips.encoded.Goals as goal

pub new-requires : goal.new-requires
new-requires c = record {
  grids = grids-within c.in_ok-script.script c.in_ok-script.ensures;
  laid_out = laid-out c.in_ok-script.script c.in_ok-script.ensures;
}
