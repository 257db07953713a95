use Rattle.std.proofs.Common.{◌∙◌, length, refl, ap}
use Rattle.run_data.proofs.Matrices.{overlaid_is, shaped_of, words_of, size_of}
use Rattle.run_data.proofs.matrix.Mat.words_mut.Goals as goal

pub returns : goal.returns
returns c = (
  (refl, λ w. overlaid_is _ _ _ _ _ c.self.view_is c.self.invariant.0 c.self.invariant.1 w),
  record {
    writes_back = tt;
    size = size_of _ _ _ _ c.self.view_is _ (ap length c.as_mut_slice.ensures.value ∙ c.self.invariant.1);
    words = words_of _ _ _ _ c.self.view_is _ c.as_mut_slice.ensures.value;
    shaped = shaped_of _ _ _ _ c.self.view_is;
  },
)
