use Rattle.elimination.proofs.RowsLaws.{coded-rows}
use Rattle.elimination.proofs.code.rows_give_the_code.Goals as goal

pub returns : goal.returns
returns c = coded-rows
