use Rattle.elimination.proofs.CodeLaws.{exchanged-weighted}
use Rattle.elimination.proofs.code.exchanges_are_linear.Goals as goal

pub returns : goal.returns
returns c = exchanged-weighted
