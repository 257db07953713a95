use Rattle.std.proofs.Common.{◌≡◌, ◌+◌, ◌-◌, ◌^◌, ◌<◌, min, drop}
use Rattle.rank_slots.specs.Cells.{words_of_cells}
use Rattle.rank_slots.proofs.cells.words.Given as goal

abbrev pub invariant-loop-cell : goal.invariant-loop-cell
invariant-loop-cell l = record { fits : l.count < 2 ^ 64; counted : min (l.count + words_of_cells (drop l.cell-index l.cells)) (2 ^ 64 - 1) ≡ min (words_of_cells l.cells) (2 ^ 64 - 1) }
