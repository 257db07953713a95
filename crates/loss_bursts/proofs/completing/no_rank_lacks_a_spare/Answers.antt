use Rattle.loss_bursts.proofs.NeverCut.{never-lacks}
use Rattle.loss_bursts.proofs.completing.no_rank_lacks_a_spare.Goals as goal

pub returns : goal.returns
returns c s cut journal rank legal due enough lacks = never-lacks s cut journal rank s.spares legal due enough lacks
