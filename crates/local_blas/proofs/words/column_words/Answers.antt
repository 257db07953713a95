use Rattle.run_data.proofs.ColumnWords.{part_small, words_small}
use Rattle.local_blas.proofs.words.column_words.Goals as goal

pub returns-clause-small : goal.returns-clause-small
returns-clause-small c p positive le are =
    part_small c.words.result.now _ _ (words_small p c.args.m.now c.words.result.now c.words.ensures.shaped c.words.ensures.size c.words.ensures.words positive le are)
