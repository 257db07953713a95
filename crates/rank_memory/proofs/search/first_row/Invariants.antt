use Rattle.std.proofs.Common.{◌≡◌, ◌+◌, ◌≤◌, ◌==◌, ◌&&◌, not, nat_lt}
use Rattle.run_data.specs.Matrix.{entry}
use Rattle.rank_machine.specs.Setting.{global_row}
use Rattle.rank_machine.specs.Effect.{least_of, number_if}
use Rattle.rank_memory.proofs.search.first_row.Given as goal

abbrev pub invariant-loop-i : goal.invariant-loop-i
invariant-loop-i l = record {
  least : l.best ≡ least_of l.i (λ i. number_if (not (entry l.m (l.at.r0 + i) (l.at.c0 + l.j) == 0) && nat_lt l.above (global_row l.placed l.rank (l.at.r0 + i) + 1)) (global_row l.placed l.rank (l.at.r0 + i) + 1));
  small : l.best ≤ 2048;
}
