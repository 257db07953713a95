use Rattle.elimination.proofs.Info.{info-is_test}
use Rattle.elimination.proofs.panel.info_is_first_zero.Goals as goal

pub returns : goal.returns
returns c = info-is_test
