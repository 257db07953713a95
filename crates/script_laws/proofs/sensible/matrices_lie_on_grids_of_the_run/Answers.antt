use Rattle.script_laws.proofs.GridLines.{matrix-lies}
use Rattle.script_laws.proofs.sensible.matrices_lie_on_grids_of_the_run.Goals as goal

pub returns : goal.returns
returns c = matrix-lies
