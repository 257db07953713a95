use Rattle.recovery_code.specs.Spots.{spot_seen}
use Rattle.recovery_code.proofs.Seams.{one_more}
use Rattle.recovery_code.proofs.mending.gain_helpers.Goals as goal

pub loop-col-preserved : goal.loop-col-preserved
loop-col-preserved g c = one_more c.args.round.now c.loop-col.round c.gain_one.new.round c.loop-col.col (spot_seen c.args.place) c.args.which c.args.helping.now c.args.coefs.now c.get.result c.loop-col.invariant c.get.ensures c.in_ok-gain_one.ensures
