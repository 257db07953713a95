use Rattle.field_core.specs.Residue.{inverse}
use Rattle.recovery_code.specs.Spots.{spot_seen}
use Rattle.recovery_code.proofs.Seams.{one_strip, no_strip}
use Rattle.recovery_code.proofs.mending.mend_strips.Goals as goal

pub loop-which-init : goal.loop-which-init
loop-which-init g c = no_strip c.args.round.now g.K.Field.MODULUS (inverse g.K.Field.MODULUS) (spot_seen c.args.place) c.args.lost.now

pub loop-which-preserved : goal.loop-which-preserved
loop-which-preserved g c = one_strip c.args.round.now c.loop-which.round c.decode_if.new.round g.K.Field.MODULUS (inverse g.K.Field.MODULUS) (spot_seen c.args.place) c.args.lost.now c.loop-which.which c.loop-which.invariant c.in_ok-decode_if.ensures
