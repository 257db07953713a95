use Rattle.std.proofs.Common.{◌≡◌, ◌+◌}
use Rattle.run_data.specs.Matrix.{entry, zero_matrix}
use Rattle.run_data.proofs.Fills.{with_filled, all_of}
use Rattle.array_desc.specs.Maps.{global}
use Rattle.dist_matrix.proofs.strips.strip.Given as goal

abbrev pub invariant-loop-j : goal.invariant-loop-j
invariant-loop-j l =
    l.result ≡ with_filled (zero_matrix l.at.rows l.d.nb) (all_of l.at.rows l.at.columns) (λ i j. entry l.m (global i l.d.mb l.at.process_row l.d.rsrc l.grid.p) (l.at.first_column + j)) 0 l.j

abbrev pub invariant-loop-i : goal.invariant-loop-i
invariant-loop-i l =
    l.result ≡ with_filled (zero_matrix l.at.rows l.d.nb) (all_of l.at.rows l.at.columns) (λ i j. entry l.m (global i l.d.mb l.at.process_row l.d.rsrc l.grid.p) (l.at.first_column + j)) l.i l.j
