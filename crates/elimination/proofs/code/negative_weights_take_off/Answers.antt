use Rattle.elimination.proofs.Words.{negative_weight}
use Rattle.elimination.proofs.code.negative_weights_take_off.Goals as goal

pub returns : goal.returns
returns c = negative_weight
