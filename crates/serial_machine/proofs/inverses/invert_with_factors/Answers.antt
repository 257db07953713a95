use Rattle.serial_machine.proofs.Inverting.{ones_rows, ones_words}
use Rattle.serial_machine.proofs.inverses.invert_with_factors.Goals as goal

pub solve_with_factors-info-requires-clause-same_rows : goal.solve_with_factors-info-requires-clause-same_rows
solve_with_factors-info-requires-clause-same_rows g c = ones_rows _ _ _ c.in_ok-ones.ensures c.rows.ensures.value

pub solve_with_factors-info-requires-clause-b_words : goal.solve_with_factors-info-requires-clause-b_words
solve_with_factors-info-requires-clause-b_words g c = ones_words _ _ _ g.met.K.Field.at_least c.in_ok-ones.ensures
