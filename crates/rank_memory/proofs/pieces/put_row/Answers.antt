use Rattle.std.proofs.Common.{◌∙◌, arith}
use Rattle.run_data.proofs.Fills.{rows-with_done, cols-with_done, fill_starts, fill_goes_on, fill_ends_column, fill_ends}
use Rattle.rank_memory.proofs.pieces.put_row.Goals as goal

pub loop-i-init : goal.loop-i-init
loop-i-init c = fill_starts _ _ _ c.rows-i-end.ensures.shaped

pub set-requires-clause-row : goal.set-requires-clause-row
set-requires-clause-row c = rw (c.loop-i.invariant, rows-with_done) (omega (arith, c.rows-i-end.ensures.value))

pub set-requires-clause-column : goal.set-requires-clause-column
set-requires-clause-column c = rw (c.loop-i.invariant, cols-with_done) (omega arith)

pub loop-i-preserved : goal.loop-i-preserved
loop-i-preserved c =
    fill_goes_on _ _ _ _ _ _ _ _ c.loop-i.invariant c.set.ensures (omega arith) (omega (arith, c.rows-i-end.ensures.value)) (omega arith) (omega arith) c.get.ensures

pub returns : goal.returns
returns c = c.loop-i.invariant ∙ fill_ends_column _ _ _ _ _ (omega (arith, c.rows-i-end.ensures.value)) ∙ fill_ends _ _ _ _ _ (omega arith)
