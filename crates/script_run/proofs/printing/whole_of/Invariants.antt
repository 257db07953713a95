use Rattle.std.proofs.Common.{◌≡◌}
use Rattle.std.specs.Prelude.{drop}
use Rattle.run_data.specs.Matrix.{zero_matrix}
use Rattle.dist_matrix.specs.Strips.{HasShape}
use Rattle.script_run.proofs.Placed.{with_each}
use Rattle.script_run.proofs.printing.whole_of.Given as goal

abbrev pub invariant-loop-i : goal.invariant-loop-i
invariant-loop-i l = record {
  shape : HasShape l.layout l.whole;
  placed : with_each l.layout l.whole (drop l.i l.got) ≡ with_each l.layout (zero_matrix l.layout.desc.m l.layout.desc.n) l.got;
}
