use Rattle.recovery_code.proofs.Copying.{all-reached}
use Rattle.recovery_code.proofs.copies.copies_reach_all_lost.Goals as goal

pub returns : goal.returns
returns c = all-reached
