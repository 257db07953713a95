use Rattle.phase_laws.proofs.CodeLaws.{merge-summed}
use Rattle.phase_laws.proofs.code_law.merge_gives_the_sum.Goals as goal

pub returns : goal.returns
returns c = merge-summed
