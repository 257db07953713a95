use Rattle.std.proofs.Common.{◌-◌, ◌<◌, ◌≤◌, arith, refl, slice_index}
use Rattle.serial_machine.proofs.Backward.{back_starts, back_rows, back_goes_on, back_ends, row_of_pivot}
use Rattle.serial_machine.proofs.turned_factors.exchange_rows_back.Goals as goal

pub loop-k-init : goal.loop-k-init
loop-k-init c = back_starts _ _ _ c.rows-shaped.ensures.shaped

pub swap_rows-requires-clause-first : goal.swap_rows-requires-clause-first
swap_rows-requires-clause-first c = omega (arith, back_rows _ _ _ _ _ c.loop-k.invariant, c.requires.inside, c.loop-k-test.true)

pub swap_rows-requires-clause-second : goal.swap_rows-requires-clause-second
swap_rows-requires-clause-second c =
    let j = c.args.n - 1 - c.loop-k.k in
    let from : 0 < slice_index c.args.pivots.now j = c.requires.rows.from j (omega arith) (omega arith) in
    let to : slice_index c.args.pivots.now j ≤ c.args.x.now.rows = c.requires.rows.to j (omega arith) (omega arith) in
    omega (arith, back_rows _ _ _ _ _ c.loop-k.invariant, from, to)

pub loop-k-preserved : goal.loop-k-preserved
loop-k-preserved c =
    let j = c.args.n - 1 - c.loop-k.k in
    let from : 0 < slice_index c.args.pivots.now j = c.requires.rows.from j (omega arith) (omega arith) in
    let to : slice_index c.args.pivots.now j ≤ c.args.x.now.rows = c.requires.rows.to j (omega arith) (omega arith) in
    back_goes_on _ _ _ _ _ _ _ _ c.loop-k.invariant c.loop-k-test.true refl c.requires.inside (omega arith) (row_of_pivot _ _ (omega (arith, c.requires.list))) c.swap_rows.ensures

pub returns : goal.returns
returns c =
    let end = c.loop-k-test.false in
    back_ends _ _ _ _ _ c.loop-k.invariant (omega arith)
