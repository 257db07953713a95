use Rattle.elimination.proofs.StripColumns.{exchanged-held}
use Rattle.elimination.proofs.strip.strips_are_exchanged.Goals as goal

pub returns : goal.returns
returns c = exchanged-held
