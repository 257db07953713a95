use Rattle.elimination.proofs.StripLaws.{column-without_pivot}
use Rattle.elimination.proofs.strip.column_without_pivot_stays.Goals as goal

pub returns : goal.returns
returns c = column-without_pivot
