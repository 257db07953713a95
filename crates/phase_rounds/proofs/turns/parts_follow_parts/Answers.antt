use Rattle.round_laws.proofs.Laws.{turns_then}
use Rattle.phase_rounds.proofs.turns.parts_follow_parts.Goals as goal

pub returns : goal.returns
returns c = turns_then
