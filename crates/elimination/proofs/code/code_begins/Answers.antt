use Rattle.elimination.proofs.CodeLaws.{coded-start}
use Rattle.elimination.proofs.code.code_begins.Goals as goal

pub returns : goal.returns
returns c = coded-start
