use Rattle.std.proofs.Common.{◌≡◌, ◌++◌}
use Rattle.round_laws.specs.Turns.{each_below}
use Rattle.phase_rounds.specs.Products.{product_events}
use Rattle.product_rounds.specs.Rounds.{block_product}
use Rattle.product_rounds.proofs.rounds.multiply_group.Given as goal

abbrev pub invariant-loop-block : goal.invariant-loop-block
invariant-loop-block g l = l.round ≡ l.initial.round ++ each_below l.block (λ block. product_events (block_product l.x block))
