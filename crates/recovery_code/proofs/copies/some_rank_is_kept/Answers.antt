use Rattle.recovery_code.proofs.Copying.{row-kept}
use Rattle.recovery_code.proofs.copies.some_rank_is_kept.Goals as goal

pub returns : goal.returns
returns c = row-kept
