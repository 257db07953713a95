use Rattle.phase_laws.proofs.KernelLaws.{lower-made}
use Rattle.phase_laws.proofs.kernels.lower_solves_a_block_row.Goals as goal

pub returns : goal.returns
returns c = lower-made
