use Rattle.phase_laws.proofs.KernelLaws.{upper-added}
use Rattle.phase_laws.proofs.kernels.upper_part_is_added.Goals as goal

pub returns : goal.returns
returns c = upper-added
