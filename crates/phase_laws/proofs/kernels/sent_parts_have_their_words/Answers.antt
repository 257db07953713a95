use Rattle.phase_laws.proofs.KernelLaws.{part-sent}
use Rattle.phase_laws.proofs.kernels.sent_parts_have_their_words.Goals as goal

pub returns : goal.returns
returns c = part-sent
