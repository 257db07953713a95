use Rattle.product_rounds.proofs.Words.{product_group_word}
use Rattle.product_rounds.proofs.laws.blocks_make_the_product.Goals as goal

pub returns : goal.returns
returns c s x a b words some some_columns col i k row_in = product_group_word s x a b words some some_columns col i k row_in
