use Rattle.scalapack_top.proofs.Files.{AreRead}
use Rattle.scalapack_top.proofs.input.files_of.Given as goal

abbrev pub invariant-loop-i : goal.invariant-loop-i
invariant-loop-i g l =
    AreRead l.lines l.i (g.F.Shelf.told l.fn.shelf) (g.F.Shelf.told l.shelf) (g.F.Shelf.faults l.fn.shelf) (g.F.Shelf.faults l.shelf) (g.F.Shelf.longs l.fn.shelf) (g.F.Shelf.longs l.shelf) l.files
