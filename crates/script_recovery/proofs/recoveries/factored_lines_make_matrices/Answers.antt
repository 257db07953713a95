use Rattle.script_recovery.proofs.FactoredLines.{factors-matrix}
use Rattle.script_recovery.proofs.recoveries.factored_lines_make_matrices.Goals as goal

pub returns : goal.returns
returns c = factors-matrix
