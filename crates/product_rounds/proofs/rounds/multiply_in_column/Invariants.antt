use Rattle.std.proofs.Common.{◌≡◌, ◌++◌, ◌∷◌, []}
use Rattle.rank_run.specs.declared.round.Event.TheVariants.{Local}
use Rattle.blacs_grid.specs.Places.{rank_at}
use Rattle.round_laws.specs.Turns.{each_below}
use Rattle.phase_rounds.specs.Products.{product_kernel}
use Rattle.product_rounds.specs.Rounds.{block_product}
use Rattle.product_rounds.proofs.rounds.multiply_in_column.Given as goal

abbrev pub invariant-loop-row : goal.invariant-loop-row
invariant-loop-row g l = l.round ≡ l.initial.round ++ each_below l.row (λ row. Local (rank_at l.x.grid row l.col) (product_kernel (block_product l.x l.block) row l.col) ∷ [])
