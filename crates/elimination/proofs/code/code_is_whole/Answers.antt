use Rattle.elimination.proofs.CodeLaws.{coded-whole}
use Rattle.elimination.proofs.code.code_is_whole.Goals as goal

pub returns : goal.returns
returns c = coded-whole
