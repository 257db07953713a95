use Rattle.elimination.proofs.StripColumns.{weighted-held}
use Rattle.elimination.proofs.strip.strips_give_weighted_sums.Goals as goal

pub returns : goal.returns
returns c = weighted-held
