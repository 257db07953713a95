use Rattle.std.proofs.Common.{refl, take}
use Rattle.serial_machine.proofs.Errors.{words-errors, errors-none, errors-more}
use Rattle.serial_machine.proofs.Whole.{some_modulus}
use Rattle.serial_machine.proofs.wrong.errors_of.Goals as goal

pub loop-flip-init : goal.loop-flip-init
loop-flip-init g c = errors-none g.K.Field.MODULUS _ _ _ c.in_ok-errors.ensures

pub add_error-requires : goal.add_error-requires
add_error-requires g c =
    words-errors g.K.Field.MODULUS c.args.rows c.args.cols (take c.loop-flip.flip-index c.args.flips.now) c.loop-flip.errors (some_modulus _ g.met.K.Field.at_least) c.loop-flip.invariant

pub loop-flip-preserved : goal.loop-flip-preserved
loop-flip-preserved g c = errors-more _ _ _ c.args.flips.now c.loop-flip.flip-index _ _ _ _ c.loop-flip-test.true refl c.loop-flip.invariant c.add_error.ensures
