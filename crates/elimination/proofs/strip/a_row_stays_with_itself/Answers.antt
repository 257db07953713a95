use Rattle.elimination.proofs.StripLaws.{exchanged-itself}
use Rattle.elimination.proofs.strip.a_row_stays_with_itself.Goals as goal

pub returns : goal.returns
returns c = exchanged-itself
