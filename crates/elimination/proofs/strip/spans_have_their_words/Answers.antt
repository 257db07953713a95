use Rattle.elimination.proofs.StripColumns.{span-words}
use Rattle.elimination.proofs.strip.spans_have_their_words.Goals as goal

pub returns : goal.returns
returns c = span-words
