use Rattle.loss_bursts.proofs.NeverCut.{never-beyond}
use Rattle.loss_bursts.proofs.completing.no_row_is_beyond.Goals as goal

pub returns : goal.returns
returns c = never-beyond
