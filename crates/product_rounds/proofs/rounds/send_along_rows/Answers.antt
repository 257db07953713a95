use Rattle.std.proofs.Common.{◌+◌, refl}
use Rattle.round_laws.proofs.Laws.{each_more}
use Rattle.phase_rounds.specs.Products.{product_row}
use Rattle.product_rounds.specs.Rounds.{block_product}
use Rattle.product_rounds.proofs.rounds.send_along_rows.Goals as goal

pub loop-row-preserved : goal.loop-row-preserved
loop-row-preserved g c =
    each_more c.loop-row.row (c.loop-row.row + 1) (product_row (block_product c.args.x.now c.args.block)) c.args.round.now c.loop-row.round c.send_along_row.new.round refl c.loop-row.invariant c.in_ok-send_along_row.ensures
