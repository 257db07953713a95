use Rattle.elimination.proofs.StripColumns.{zeros-held}
use Rattle.elimination.proofs.strip.process_rows_see_the_column.Goals as goal

pub returns : goal.returns
returns c = zeros-held
