use Rattle.phase_laws.proofs.KernelLaws.{all-added}
use Rattle.phase_laws.proofs.kernels.all_is_added.Goals as goal

pub returns : goal.returns
returns c = all-added
