use Rattle.std.proofs.Common.{◌+◌, refl}
use Rattle.round_laws.proofs.Laws.{each_more}
use Rattle.phase_rounds.specs.Products.{product_column}
use Rattle.product_rounds.specs.Rounds.{block_product}
use Rattle.product_rounds.proofs.rounds.multiply_block.Goals as goal

pub loop-col-preserved : goal.loop-col-preserved
loop-col-preserved g c =
    each_more c.loop-col.col (c.loop-col.col + 1) (product_column (block_product c.args.x.now c.args.block)) c.send_along_rows.new.round c.loop-col.round c.multiply_in_column.new.round refl c.loop-col.invariant c.in_ok-multiply_in_column.ensures
