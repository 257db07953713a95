use Rattle.elimination.proofs.StripColumns.{stages-by_block}
use Rattle.elimination.proofs.code.stages_follow_blocks.Goals as goal

pub returns : goal.returns
returns c = stages-by_block
