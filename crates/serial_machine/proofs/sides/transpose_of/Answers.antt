use Rattle.std.proofs.Common.{ℕ, ◌∙◌, ap, arith}
use Rattle.run_data.specs.Matrix.{cols, entry, tabulate}
use Rattle.run_data.proofs.Matrices.{IsShaped-tabulate, rows-tabulate, cols-tabulate}
use Rattle.run_data.proofs.Fills.{rows-with_done, cols-with_done, fill_starts, fill_goes_on, fill_ends_column, fill_ends, with_part-all_of}
use Rattle.serial_machine.proofs.sides.transpose_of.Goals as goal

pub set-requires-clause-row : goal.set-requires-clause-row
set-requires-clause-row c = rw (c.loop-i.invariant, rows-with_done, rows-tabulate) (omega arith)

pub set-requires-clause-column : goal.set-requires-clause-column
set-requires-clause-column c = rw (c.loop-i.invariant, cols-with_done, cols-tabulate) (omega arith)

pub loop-j-init : goal.loop-j-init
loop-j-init c = c.in_ok-turned.ensures ∙ fill_starts _ _ _ (IsShaped-tabulate _ _ _)

pub loop-i-preserved : goal.loop-i-preserved
loop-i-preserved c = fill_goes_on _ _ _ _ _ _ _ _ c.loop-i.invariant c.set.ensures (omega arith) (omega arith) (omega arith) (omega arith) c.get-word.ensures

pub loop-j-preserved : goal.loop-j-preserved
loop-j-preserved c = c.loop-i.invariant ∙ fill_ends_column _ _ _ _ _ (omega arith)

pub returns : goal.returns
returns c =
    let word : ℕ → ℕ → ℕ = λ i j. entry c.args.a.now j i in
    c.loop-j.invariant ∙ fill_ends _ _ _ _ _ (omega arith) ∙ with_part-all_of _ _ _ _
    ∙ ap (λ m. tabulate m c.rows-cols.result word) c.cols-rows.ensures ∙ ap (λ n. tabulate (cols c.args.a.now) n word) c.rows-cols.ensures.value
