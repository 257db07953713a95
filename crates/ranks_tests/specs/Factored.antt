-- A script of two grids with a matrix on each: the first is factored and dropped, and then its list of pivots.
use Rattle.std.specs.Prelude.{List, [], ◌∷◌, Option, Some, None, codes}
use Rattle.run_data.specs.declared.command.Command.{Command}
use Rattle.run_data.specs.declared.command.Command.TheVariants as c

-- lines 1 and 2 make the grids, lines 3 and 6 the matrices in blocks of 2 rows and 1 column, line 5 factors the first; line 4 has no words
unfoldable pub lines : List (Option Command)
lines =
    Some (c.Grid (codes "g") 1 2 1) ∷ Some (c.Grid (codes "h") 2 1 0) ∷ Some (c.Matrix (codes "A") (codes "g") 4 5 2 1 0 0 (codes "A")) ∷ None
    ∷ Some (c.Pgetrf 4 5 (codes "A") 1 1 (codes "V")) ∷ Some (c.Matrix (codes "B") (codes "h") 5 3 2 1 0 0 (codes "B")) ∷ Some (c.Discard (codes "A")) ∷ Some (c.Discard (codes "V")) ∷ []
