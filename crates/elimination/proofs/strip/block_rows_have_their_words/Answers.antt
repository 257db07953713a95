use Rattle.elimination.proofs.StripColumns.{block-words}
use Rattle.elimination.proofs.strip.block_rows_have_their_words.Goals as goal

pub returns : goal.returns
returns c = block-words
