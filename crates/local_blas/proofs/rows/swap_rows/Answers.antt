use Rattle.std.proofs.Common.{◌∙◌, arith}
use Rattle.local_blas.proofs.Swaps.{swap_starts, swap_goes_on, swap_ends}
use Rattle.local_blas.proofs.rows.swap_rows.Goals as goal

pub loop-k-init : goal.loop-k-init
loop-k-init c = swap_starts _ _ _ c.rows-shaped.ensures.shaped

pub loop-k-preserved : goal.loop-k-preserved
loop-k-preserved c = swap_goes_on _ _ _ _ _ _ _ _ _ c.loop-k.invariant c.requires.first c.requires.second (omega arith) c.get-x.ensures c.get-y.ensures c.set.ensures c.set-in-loop-k.ensures

pub returns : goal.returns
returns c = c.loop-k.invariant ∙ swap_ends _ _ _ _ (omega arith)
