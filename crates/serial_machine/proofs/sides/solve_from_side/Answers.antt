use Rattle.std.proofs.Common.{if◌then◌else◌, sym, ap, ◌∙◌}
use Rattle.run_data.specs.Matrix.{cols}
use Rattle.serial_machine.proofs.Turned.{turned_rows, turned_words}
use Rattle.serial_machine.proofs.sides.solve_from_side.Goals as goal

pub solve_from_left-requires-else-is_left-clause-rows : goal.solve_from_left-requires-else-is_left-clause-rows
solve_from_left-requires-else-is_left-clause-rows g c =
    turned_rows _ _ _ _ c.in_ok-turned.ensures ∙ ap (λ b. if b then c.args.b.now.rows else cols c.args.b.now) (sym c.if-is_left.false) ∙ c.requires.size

pub solve_from_left-requires-else-is_left-clause-b_words : goal.solve_from_left-requires-else-is_left-clause-b_words
solve_from_left-requires-else-is_left-clause-b_words g c = turned_words _ _ _ g.met.K.Field.at_least c.requires.b_words c.in_ok-turned.ensures
