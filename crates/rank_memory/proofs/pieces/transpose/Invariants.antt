use Rattle.std.proofs.Common.{◌≡◌}
use Rattle.run_data.specs.Parts.{part_entry}
use Rattle.rank_memory.proofs.Transposes.{with_columns}
use Rattle.rank_memory.proofs.pieces.transpose.Given as goal

abbrev pub invariant-loop-j : goal.invariant-loop-j
invariant-loop-j l = l.result ≡ with_columns l.rows l.cols (λ i j. part_entry l.m l.at j i) l.j
