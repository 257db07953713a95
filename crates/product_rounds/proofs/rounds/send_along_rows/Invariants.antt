use Rattle.std.proofs.Common.{◌≡◌, ◌++◌}
use Rattle.round_laws.specs.Turns.{each_below}
use Rattle.phase_rounds.specs.Products.{product_row}
use Rattle.product_rounds.specs.Rounds.{block_product}
use Rattle.product_rounds.proofs.rounds.send_along_rows.Given as goal

abbrev pub invariant-loop-row : goal.invariant-loop-row
invariant-loop-row g l = l.round ≡ l.initial.round ++ each_below l.row (product_row (block_product l.x l.block))
