use Rattle.elimination.proofs.StripColumns.{weighted-strips}
use Rattle.elimination.proofs.strip.weighted_sums_are_in_strips.Goals as goal

pub returns : goal.returns
returns c = weighted-strips
