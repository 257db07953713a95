use Rattle.elimination.proofs.StripLaws.{column-held}
use Rattle.elimination.proofs.strip.strips_eliminate_a_column.Goals as goal

pub returns : goal.returns
returns c = column-held
