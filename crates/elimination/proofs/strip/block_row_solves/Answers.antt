use Rattle.elimination.proofs.StripLaws.{block_row-held}
use Rattle.elimination.proofs.strip.block_row_solves.Goals as goal

pub returns : goal.returns
returns c = block_row-held
