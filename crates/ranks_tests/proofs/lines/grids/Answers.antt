use Rattle.ranks_tests.proofs.Factored.{grids-within}
use Rattle.ranks_tests.proofs.lines.grids.Goals as goal

pub grids_of-requires : goal.grids_of-requires
grids_of-requires g c = grids-within c.args.script.now c.requires
