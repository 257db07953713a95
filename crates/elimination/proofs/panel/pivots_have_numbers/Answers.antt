use Rattle.elimination.proofs.Numbers.{columns-in_range}
use Rattle.elimination.proofs.panel.pivots_have_numbers.Goals as goal

pub returns : goal.returns
returns c = columns-in_range
