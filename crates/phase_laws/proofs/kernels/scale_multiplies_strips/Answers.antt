use Rattle.phase_laws.proofs.KernelLaws.{scale-made}
use Rattle.phase_laws.proofs.kernels.scale_multiplies_strips.Goals as goal

pub returns : goal.returns
returns c = scale-made
