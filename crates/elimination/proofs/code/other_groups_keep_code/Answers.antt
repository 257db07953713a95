use Rattle.elimination.proofs.Stages.{other_group-law}
use Rattle.elimination.proofs.code.other_groups_keep_code.Goals as goal

pub returns : goal.returns
returns c = other_group-law
