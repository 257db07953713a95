use Rattle.elimination.proofs.CodeLaws.{coded-from_whole}
use Rattle.elimination.proofs.code.parts_give_the_code.Goals as goal

pub returns : goal.returns
returns c = coded-from_whole
