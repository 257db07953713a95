use Rattle.std.proofs.Common.{◌≡◌, ◌+◌, ◌-◌, ◌*◌, ◌%◌}
use Rattle.std.specs.Prelude.{if◌then◌else◌}
use Rattle.run_data.specs.Matrix.{entry}
use Rattle.run_data.specs.Parts.{part_entry}
use Rattle.run_data.proofs.Fills.{with_filled}
use Rattle.rank_slots.specs.Shapes.{is_in_triangle}
use Rattle.rank_memory.proofs.kernels.add_triangle.Given as goal

abbrev pub invariant-loop-j : goal.invariant-loop-j
invariant-loop-j g l =
    l.dst ≡ with_filled l.fn.dst l.at (λ i j. if is_in_triangle l.placed l.rank l.upper l.block (l.at.r0 + (i - l.at.r0)) (l.at.c0 + (j - l.at.c0)) then (entry l.fn.dst i j + l.a * part_entry l.src l.sp (i - l.at.r0) (j - l.at.c0)) % g.K.Field.MODULUS else entry l.fn.dst i j) l.at.r0 l.j
