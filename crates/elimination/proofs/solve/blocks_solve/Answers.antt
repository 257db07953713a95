use Rattle.elimination.proofs.SolveLaws.{reduced-block}
use Rattle.elimination.proofs.solve.blocks_solve.Goals as goal

pub returns : goal.returns
returns c = reduced-block
