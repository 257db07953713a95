use Rattle.std.proofs.Common.{◌+◌, ◌<◌, ◌≤◌, slice_index, arith}
use Rattle.elimination.proofs.WholeExchanges.{exchange_starts, exchange_goes_on, rows-exchanged, row_of_pivot}
use Rattle.elimination.proofs.whole.exchange_rows.Goals as goal

pub loop-j-init : goal.loop-j-init
loop-j-init c = exchange_starts _ _ _ c.rows-shaped.ensures.shaped

pub swap_rows-requires-clause-first : goal.swap_rows-requires-clause-first
swap_rows-requires-clause-first c = rw (c.loop-j.invariant, rows-exchanged) (omega (arith, c.requires.inside))

pub swap_rows-requires-clause-second : goal.swap_rows-requires-clause-second
swap_rows-requires-clause-second c =
    let from : 0 < slice_index c.args.pivots.now (c.args.first + c.loop-j.j) = c.requires.rows.from (c.args.first + c.loop-j.j) (omega arith) (omega arith) in
    let to : slice_index c.args.pivots.now (c.args.first + c.loop-j.j) ≤ c.args.x.now.rows = c.requires.rows.to (c.args.first + c.loop-j.j) (omega arith) (omega arith) in
    rw (c.loop-j.invariant, rows-exchanged) (omega arith)

pub loop-j-preserved : goal.loop-j-preserved
loop-j-preserved c =
    let from : 0 < slice_index c.args.pivots.now (c.args.first + c.loop-j.j) = c.requires.rows.from (c.args.first + c.loop-j.j) (omega arith) (omega arith) in
    let to : slice_index c.args.pivots.now (c.args.first + c.loop-j.j) ≤ c.args.x.now.rows = c.requires.rows.to (c.args.first + c.loop-j.j) (omega arith) (omega arith) in
    exchange_goes_on _ _ _ _ _ _ _ c.loop-j.invariant (omega (arith, c.requires.inside)) (omega arith) (row_of_pivot _ _ (omega (arith, c.requires.list))) c.swap_rows.ensures
