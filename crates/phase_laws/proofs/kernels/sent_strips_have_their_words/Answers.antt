use Rattle.phase_laws.proofs.KernelLaws.{strips-sent}
use Rattle.phase_laws.proofs.kernels.sent_strips_have_their_words.Goals as goal

pub returns : goal.returns
returns c = strips-sent
