use Rattle.elimination.proofs.CodeLaws.{merge-coded}
use Rattle.elimination.proofs.code.merge_keeps_code.Goals as goal

pub returns : goal.returns
returns c = merge-coded
