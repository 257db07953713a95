use Rattle.std.proofs.Common.{◌*◌, ◌%◌, ap, arith}
use Rattle.std.proofs.Math.Nat.{mod-lt}
use Rattle.run_data.proofs.Columns.{columns_start, columns_left, columns_go_on, columns_end, AreWords-columns}
use Rattle.local_blas.proofs.scaling.scale.Goals as goal

pub loop-j-init : goal.loop-j-init
loop-j-init g c = columns_start _ _ _ c.rows-shaped.ensures.shaped

pub scale_column-requires-clause-dst_words : goal.scale_column-requires-clause-dst_words
scale_column-requires-clause-dst_words g c =
    AreWords-columns _ _ _ _ _ _ c.loop-j.invariant (omega (arith, g.met.K.Field.at_least)) c.requires.dst_words (λ i j. mod-lt _ (omega (arith, g.met.K.Field.at_least)))

pub loop-j-preserved : goal.loop-j-preserved
loop-j-preserved g c =
    columns_go_on _ _ _ _ _ _ _ c.loop-j.invariant (rw c.column_of.ensures at c.scale_column.ensures) c.requires.dst_part (omega arith) (omega arith)
    (λ r h1 h2. ap (λ x. (x * c.args.a) % g.K.Field.MODULUS) (columns_left _ _ _ _ _ _ c.loop-j.invariant c.requires.dst_part h1 h2 (omega arith)))

pub returns : goal.returns
returns g c = columns_end _ _ _ _ _ c.loop-j.invariant (omega arith)
