use Rattle.std.proofs.Common.{◌+◌, refl}
use Rattle.round_laws.proofs.Laws.{each_more}
use Rattle.product_rounds.specs.Rounds.{scale_column}
use Rattle.product_rounds.proofs.rounds.scale_strips.Goals as goal

pub loop-col-preserved : goal.loop-col-preserved
loop-col-preserved g c =
    each_more c.loop-col.col (c.loop-col.col + 1) (scale_column c.args.x.now) c.args.round.now c.loop-col.round c.scale_in_column.new.round refl c.loop-col.invariant c.in_ok-scale_in_column.ensures
