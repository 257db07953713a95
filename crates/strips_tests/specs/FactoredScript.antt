-- A script of two grids, a matrix on the second, its factors, and drops of both.
use Rattle.std.specs.Prelude.{List, [], ◌∷◌, Option, Some, None, codes}
use Rattle.run_data.specs.declared.command.Command.{Command}
use Rattle.run_data.specs.declared.command.Command.TheVariants as c

-- lines 1 and 2 make the grids g and h, line 3 the matrix A on h, line 4 its factors and the pivots v; line 5 has no words, and lines 6 and 7
-- drop A and v
unfoldable pub lines : List (Option Command)
lines =
    Some (c.Grid (codes "g") 3 1 0) ∷ Some (c.Grid (codes "h") 1 2 2) ∷ Some (c.Matrix (codes "A") (codes "h") 3 2 1 1 0 0 (codes "a"))
    ∷ Some (c.Pgetrf 3 2 (codes "A") 1 1 (codes "v")) ∷ None ∷ Some (c.Discard (codes "A")) ∷ Some (c.Discard (codes "v")) ∷ []
