use Rattle.std.proofs.Common.{◌≡◌, ◌++◌}
use Rattle.round_laws.specs.Turns.{each_below}
use Rattle.phase_rounds.specs.Products.{product_column}
use Rattle.product_rounds.specs.Rounds.{block_product}
use Rattle.product_rounds.proofs.rounds.multiply_block.Given as goal

abbrev pub invariant-loop-col : goal.invariant-loop-col
invariant-loop-col g l = l.round ≡ l.initial.round ++ each_below l.col (product_column (block_product l.x l.block))
