use Rattle.elimination.proofs.StripLaws.{upper_block_row-held}
use Rattle.elimination.proofs.strip.upper_block_row_solves.Goals as goal

pub returns : goal.returns
returns c = upper_block_row-held
