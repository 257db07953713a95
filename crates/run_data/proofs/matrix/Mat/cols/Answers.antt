use Rattle.run_data.proofs.Matrices.{cols_of}
use Rattle.run_data.proofs.matrix.Mat.cols.Goals as goal

pub returns : goal.returns
returns c = cols_of _ _ _ _ c.self.view_is
