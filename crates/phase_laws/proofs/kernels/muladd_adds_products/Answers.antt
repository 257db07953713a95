use Rattle.phase_laws.proofs.KernelLaws.{update-made}
use Rattle.phase_laws.proofs.kernels.muladd_adds_products.Goals as goal

pub returns : goal.returns
returns c = update-made
