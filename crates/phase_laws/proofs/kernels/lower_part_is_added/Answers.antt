use Rattle.phase_laws.proofs.KernelLaws.{lower-added}
use Rattle.phase_laws.proofs.kernels.lower_part_is_added.Goals as goal

pub returns : goal.returns
returns c = lower-added
