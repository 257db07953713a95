use Rattle.phase_laws.proofs.KernelLaws.{elim-made}
use Rattle.phase_laws.proofs.kernels.elim_eliminates_a_column.Goals as goal

pub returns : goal.returns
returns c = elim-made
