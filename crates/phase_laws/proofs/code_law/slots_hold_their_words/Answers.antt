use Rattle.phase_laws.proofs.Columns.{strips-hold}
use Rattle.phase_laws.proofs.code_law.slots_hold_their_words.Goals as goal

pub returns : goal.returns
returns c = strips-hold
