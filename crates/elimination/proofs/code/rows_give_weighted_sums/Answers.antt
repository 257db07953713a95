use Rattle.elimination.proofs.RowsLaws.{weighted-rows}
use Rattle.elimination.proofs.code.rows_give_weighted_sums.Goals as goal

pub returns : goal.returns
returns c = weighted-rows
