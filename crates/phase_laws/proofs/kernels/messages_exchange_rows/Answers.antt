use Rattle.phase_laws.proofs.KernelLaws.{rows-sent}
use Rattle.phase_laws.proofs.kernels.messages_exchange_rows.Goals as goal

pub returns : goal.returns
returns c = rows-sent
