use Rattle.round_laws.proofs.Legal.{turns_replay}
use Rattle.phase_rounds.proofs.turns.rounds_that_turn_are_legal.Goals as goal

pub returns : goal.returns
returns c = turns_replay
