use Rattle.std.proofs.Common.{◌≡◌, ◌++◌, map, take, drop}
use Rattle.rank_slots.specs.Undone.{undone}
use Rattle.rank_slots.proofs.cells.undo.Given as goal

abbrev pub invariant-loop-cell : goal.invariant-loop-cell
invariant-loop-cell l = l.cell-items ≡ map undone (take l.cell-index l.initial.cell-items) ++ drop l.cell-index l.initial.cell-items
