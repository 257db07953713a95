use Rattle.std.proofs.Common.{◌≡◌, ◌+◌, ◌≤◌}
use Rattle.rank_machine.specs.Setting.{Setting, layout}
use Rattle.rank_machine.specs.Effect.{least_of, number_if, is_zero_here}
use Rattle.rank_slots.specs.Cells.{tiles_in}
use Rattle.rank_memory.proofs.search.first_zero.Given as goal

abbrev pub invariant-loop-i : goal.invariant-loop-i
invariant-loop-i l = record {
  least : (s : Setting) → layout s l.line ≡ l.placed → l.best ≡ least_of l.i (λ i. number_if (is_zero_here s l.rank (tiles_in l.cells) l.line i) (i + 1));
  small : l.best ≤ 2048;
}
