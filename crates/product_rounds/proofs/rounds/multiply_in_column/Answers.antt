use Rattle.std.proofs.Common.{◌+◌, ◌∷◌, [], refl}
use Rattle.rank_run.specs.declared.round.Event.TheVariants.{Local}
use Rattle.blacs_grid.specs.Places.{rank_at}
use Rattle.round_laws.proofs.Laws.{each_more}
use Rattle.phase_rounds.specs.Products.{product_kernel}
use Rattle.product_rounds.specs.Rounds.{block_product}
use Rattle.product_rounds.proofs.rounds.multiply_in_column.Goals as goal

pub loop-row-preserved : goal.loop-row-preserved
loop-row-preserved g c =
    each_more c.loop-row.row (c.loop-row.row + 1) (λ row. Local (rank_at c.args.x.now.grid row c.args.col) (product_kernel (block_product c.args.x.now c.args.block) row c.args.col) ∷ []) c.send_down_column.new.round c.loop-row.round c.multiply_on.new.round refl
    c.loop-row.invariant c.in_ok-multiply_on.ensures
