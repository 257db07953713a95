use Rattle.phase_laws.proofs.KernelLaws.{swap-made}
use Rattle.phase_laws.proofs.kernels.swap_exchanges_rows.Goals as goal

pub returns : goal.returns
returns c = swap-made
