use Rattle.run_data.proofs.Matrices.{rows_of, shaped_of}
use Rattle.run_data.proofs.matrix.Mat.rows.Goals as goal

pub returns-clause-value : goal.returns-clause-value
returns-clause-value c = rows_of _ _ _ _ c.self.view_is

pub returns-clause-shaped : goal.returns-clause-shaped
returns-clause-shaped c = shaped_of _ _ _ _ c.self.view_is
