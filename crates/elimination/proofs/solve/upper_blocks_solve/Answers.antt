use Rattle.elimination.proofs.UpperLaws.{upper_reduced-block}
use Rattle.elimination.proofs.solve.upper_blocks_solve.Goals as goal

pub returns : goal.returns
returns c = upper_reduced-block
