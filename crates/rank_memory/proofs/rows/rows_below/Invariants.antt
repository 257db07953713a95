use Rattle.std.proofs.Common.{ℕ, ◌-◌, ◌<◌, ◌≤◌}
use Rattle.rank_machine.specs.Setting.{global_row}
use Rattle.rank_memory.proofs.rows.rows_below.Given as goal

abbrev pub invariant-loop-count : goal.invariant-loop-count
invariant-loop-count l = record { most : l.count ≤ l.rows; below : (i : ℕ) → i < l.count → global_row l.placed l.rank i < l.limit }

abbrev pub decreases-loop-count : goal.decreases-loop-count
decreases-loop-count l = l.rows - l.count
