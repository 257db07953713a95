use Rattle.elimination.proofs.StripLaws.{held-is}
use Rattle.elimination.proofs.strip.strips_hold_no_other_words.Goals as goal

pub returns : goal.returns
returns c = held-is
