use Rattle.phase_laws.proofs.KernelLaws.{add-made}
use Rattle.phase_laws.proofs.kernels.add_adds_strips.Goals as goal

pub returns : goal.returns
returns c = add-made
