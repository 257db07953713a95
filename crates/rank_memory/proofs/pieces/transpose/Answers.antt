use Rattle.std.proofs.Common.{◌∙◌, ap, arith}
use Rattle.run_data.specs.Matrix.{cols}
use Rattle.run_data.proofs.Matrices.{rows-tabulate, cols-tabulate}
use Rattle.rank_memory.proofs.Transposes.{columns_go_on, columns_end}
use Rattle.rank_memory.proofs.pieces.transpose.Goals as goal

pub put_row-requires-clause-rows : goal.put_row-requires-clause-rows
put_row-requires-clause-rows c = ap (λ m. m.rows) c.loop-j.invariant ∙ rows-tabulate _ _ _

pub put_row-requires-clause-columns : goal.put_row-requires-clause-columns
put_row-requires-clause-columns c = ap cols c.loop-j.invariant ∙ cols-tabulate _ _ _

pub loop-j-preserved : goal.loop-j-preserved
loop-j-preserved c = columns_go_on _ _ _ _ _ _ c.loop-j.invariant c.put_row.ensures

pub returns : goal.returns
returns c = c.loop-j.invariant ∙ columns_end c.args.m.now c.args.at _ (omega arith)
