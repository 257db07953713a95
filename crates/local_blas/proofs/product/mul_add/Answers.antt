use Rattle.std.proofs.Common.{◌+◌, ◌-◌, ◌*◌, ◌%◌, ap, arith}
use Rattle.std.proofs.Math.Nat.{mod-lt}
use Rattle.run_data.specs.Matrix.{entry}
use Rattle.run_data.proofs.Columns.{columns_start, columns_left, columns_go_on, columns_end, AreWords-columns}
use Rattle.local_blas.proofs.Products.{product_word-at}
use Rattle.local_blas.proofs.product.mul_add.Goals as goal

pub loop-j-init : goal.loop-j-init
loop-j-init g c = columns_start _ _ _ c.rows-shaped.ensures.shaped

pub mul_add_column-requires-clause-dst_words : goal.mul_add_column-requires-clause-dst_words
mul_add_column-requires-clause-dst_words g c =
    AreWords-columns _ _ _ _ _ _ c.loop-j.invariant (omega (arith, g.met.K.Field.at_least)) c.requires.dst_words (λ i j. mod-lt _ (omega (arith, g.met.K.Field.at_least)))

pub loop-j-preserved : goal.loop-j-preserved
loop-j-preserved g c =
    columns_go_on _ _ _ _ _ _ _ c.loop-j.invariant (rw (c.column_of.ensures, c.column_of-column.ensures) at c.mul_add_column.ensures) c.requires.dst_part (omega arith) (omega arith)
    (λ r h1 h2. rw (columns_left _ _ _ _ _ _ c.loop-j.invariant c.requires.dst_part h1 h2 (omega arith)) (ap (λ s. (entry c.args.dst.now r c.loop-j.j + c.args.a * s) % g.K.Field.MODULUS)
    (product_word-at c.args.left.now c.args.lp c.args.right.now c.args.rp (r - c.args.at.r0) (c.loop-j.j - c.args.at.c0) (c.args.rp.c0 + (c.loop-j.j - c.args.at.c0) + (c.loop-j.j - c.loop-j.j)) (omega arith))))

pub returns : goal.returns
returns g c = columns_end _ _ _ _ _ c.loop-j.invariant (omega arith)
