use Rattle.elimination.proofs.StripLaws.{gain-held}
use Rattle.elimination.proofs.strip.strips_gain_a_product.Goals as goal

pub returns : goal.returns
returns c = gain-held
