use Rattle.std.proofs.Common.{ℕ, ◌<◌, arith, slice_index_or}
use Rattle.array_desc.specs.Maps.{global}
use Rattle.base_tests.proofs.maps.compare_maps.Goals as goal

-- the index at a local place below the count is below n, which is a word
pub global-requires-clause-fits : goal.global-requires-clause-fits
global-requires-clause-fits g c =
    let at : ℕ → ℕ = λ k. slice_index_or c.args.row.now k 0 in
    let below : global (at 9) (at 1) (at 2) (at 3) (at 4) < at 0 = (c.numroc-size.ensures.reached (at 9)).0 (omega arith) in
    let fits = c.fits-row 0 in
    omega (arith, below, fits)
