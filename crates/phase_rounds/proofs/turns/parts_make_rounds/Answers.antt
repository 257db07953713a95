use Rattle.round_laws.proofs.Laws.{turns_each}
use Rattle.phase_rounds.proofs.turns.parts_make_rounds.Goals as goal

pub returns : goal.returns
returns c = turns_each
