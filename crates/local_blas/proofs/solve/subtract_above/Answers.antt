use Rattle.std.proofs.Common.{◌-◌, inl, arith}
use Rattle.std.proofs.Math.Nat.{mod-lt}
use Rattle.run_data.specs.Matrix.{entry}
use Rattle.run_data.proofs.Columns.{columns_start, columns_left, columns_go_on, columns_end, AreWords-columns}
use Rattle.local_blas.proofs.Halves.{gained_word, product_word-beside}
use Rattle.local_blas.proofs.solve.subtract_above.Goals as goal

pub loop-j-init : goal.loop-j-init
loop-j-init g c = columns_start _ _ _ c.rows-shaped.ensures.shaped

pub subtract_above_column-requires-clause-dst_words : goal.subtract_above_column-requires-clause-dst_words
subtract_above_column-requires-clause-dst_words g c =
    AreWords-columns _ _ _ _ _ _ c.loop-j.invariant (omega (arith, g.met.K.Field.at_least)) c.requires.dst_words (λ i j. mod-lt _ (omega (arith, g.met.K.Field.at_least)))

pub loop-j-preserved : goal.loop-j-preserved
loop-j-preserved g c =
    columns_go_on _ _ _ _ _ _ _ c.loop-j.invariant (rw (c.column_of.ensures, c.column_of-column.ensures) at c.subtract_above_column.ensures) c.requires.dst_part (omega arith) (omega arith)
    (λ r h1 h2. gained_word g.K.Field.MODULUS (g.K.Field.MODULUS - 1) (entry c.args.dst.now r c.loop-j.j) _ _ _
    (columns_left _ _ _ _ _ _ c.loop-j.invariant c.requires.dst_part h1 h2 (omega arith))
    (product_word-beside c.args.block.now _ _ c.args.lp _ c.args.above _ (r - c.args.at.r0) c.loop-j.j c.loop-j.invariant c.requires.above_part c.requires.same (omega arith) (omega (arith, c.requires.shapes.columns, c.requires.same, c.requires.above_part.columns_ordered, c.requires.dst_part.columns_ordered))
    c.requires.shapes.inner (inl c.requires.above)))

pub returns : goal.returns
returns g c = columns_end _ _ _ _ _ c.loop-j.invariant (omega arith)
