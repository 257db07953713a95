use Rattle.elimination.proofs.StripLaws.{held-holds}
use Rattle.elimination.proofs.strip.strips_hold_their_words.Goals as goal

pub returns : goal.returns
returns c = held-holds
