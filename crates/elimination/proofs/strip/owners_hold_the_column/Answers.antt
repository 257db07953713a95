use Rattle.elimination.proofs.StripColumns.{held-at}
use Rattle.elimination.proofs.strip.owners_hold_the_column.Goals as goal

pub returns : goal.returns
returns c = held-at
