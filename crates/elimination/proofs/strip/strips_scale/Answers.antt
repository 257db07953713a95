use Rattle.elimination.proofs.StripLaws.{scale-held}
use Rattle.elimination.proofs.strip.strips_scale.Goals as goal

pub returns : goal.returns
returns c = scale-held
