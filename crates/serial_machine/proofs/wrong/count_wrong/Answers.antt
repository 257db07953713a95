use Rattle.serial_machine.proofs.Errors.{wrong-counted}
use Rattle.serial_machine.proofs.wrong.count_wrong.Goals as goal

pub returns : goal.returns
returns g c = wrong-counted g.K.Field.MODULUS c.args.rows c.args.cols c.args.flips.now _ _ c.in_ok-errors.ensures c.count_words.ensures
