use Rattle.std.proofs.Common.{◌∙◌, length, ap}
use Rattle.run_data.proofs.Matrices.{shaped_of, words_of, size_of}
use Rattle.run_data.proofs.matrix.Mat.words.Goals as goal

pub returns : goal.returns
returns c = record {
  size = size_of _ _ _ _ c.self.view_is _ (ap length c.as_slice.ensures.value ∙ c.self.invariant.1);
  words = words_of _ _ _ _ c.self.view_is _ c.as_slice.ensures.value;
  shaped = shaped_of _ _ _ _ c.self.view_is;
}
