use Rattle.phase_laws.proofs.KernelLaws.{upper-made}
use Rattle.phase_laws.proofs.kernels.upper_solves_a_block_row.Goals as goal

pub returns : goal.returns
returns c = upper-made
