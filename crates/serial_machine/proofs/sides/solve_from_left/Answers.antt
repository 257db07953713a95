use Rattle.std.proofs.Common.{sym, ◌∙◌}
use Rattle.serial_machine.proofs.Turned.{turned_rows, turned_cols, turned_words}
use Rattle.serial_machine.proofs.sides.solve_from_left.Goals as goal

pub solve_triangle-requires-clause-square : goal.solve_triangle-requires-clause-square
solve_triangle-requires-clause-square g c =
    turned_cols _ _ _ _ c.in_ok-turned.ensures ∙ sym (turned_rows _ _ _ _ c.in_ok-turned.ensures ∙ c.requires.square)

pub solve_triangle-requires-clause-rows : goal.solve_triangle-requires-clause-rows
solve_triangle-requires-clause-rows g c = c.requires.rows ∙ sym (turned_rows _ _ _ _ c.in_ok-turned.ensures ∙ c.requires.square)

pub solve_triangle-requires-clause-a_words : goal.solve_triangle-requires-clause-a_words
solve_triangle-requires-clause-a_words g c = turned_words _ _ _ g.met.K.Field.at_least c.requires.a_words c.in_ok-turned.ensures
