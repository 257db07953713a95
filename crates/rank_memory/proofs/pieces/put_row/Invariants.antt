use Rattle.std.proofs.Common.{◌≡◌}
use Rattle.run_data.specs.Parts.{part_entry}
use Rattle.run_data.proofs.Fills.{with_filled}
use Rattle.rank_memory.specs.Places.{column}
use Rattle.rank_memory.proofs.pieces.put_row.Given as goal

abbrev pub invariant-loop-i : goal.invariant-loop-i
invariant-loop-i l = l.dst ≡ with_filled l.fn.dst (column l.fn.dst l.row) (λ i j. part_entry l.src l.at j i) l.i l.row
