use Rattle.blas_lanes.proofs.Gains.{widened, products_fit, sums_fit, gained}
use Rattle.blas_lanes.proofs.lanes.gain.Goals as goal

pub overflow_mul-result : goal.overflow_mul-result
overflow_mul-result c = rw (widened c.args.words) (products_fit c.args.words c.args.factor c.requires.words.0 c.requires.words.1 c.requires.factor)

pub overflow_add-result : goal.overflow_add-result
overflow_add-result c =
    rw (widened c.args.words) (sums_fit c.args.sums c.args.words c.args.factor c.requires.sums.0 c.requires.words.0 c.requires.sums.1 c.requires.words.1 c.requires.factor)

pub returns : goal.returns
returns c = rw (widened c.args.words) (gained c.args.sums c.args.words c.args.factor c.requires.sums.0 c.requires.words.0)
