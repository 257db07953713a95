use Rattle.elimination.proofs.StripLaws.{add-held}
use Rattle.elimination.proofs.strip.strips_add.Goals as goal

pub returns : goal.returns
returns c = add-held
