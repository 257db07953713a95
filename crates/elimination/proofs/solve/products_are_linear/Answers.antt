use Rattle.elimination.proofs.UpperLaws.{gained-weighted}
use Rattle.elimination.proofs.solve.products_are_linear.Goals as goal

pub returns : goal.returns
returns c = gained-weighted
