use Rattle.std.proofs.Common.{◌≡◌, ◌+◌, ◌-◌, ◌*◌, ◌%◌, ap, arith}
use Rattle.std.proofs.Math.Nat.{mod-lt}
use Rattle.run_data.specs.Matrix.{entry}
use Rattle.run_data.proofs.Columns.{columns_start, columns_left, columns_go_on, columns_end, AreWords-columns}
use Rattle.local_blas.proofs.scaling.add_scaled.Goals as goal

pub loop-j-init : goal.loop-j-init
loop-j-init g c = columns_start _ _ _ c.rows-shaped.ensures.shaped

pub add_scaled_column-requires-clause-dst_words : goal.add_scaled_column-requires-clause-dst_words
add_scaled_column-requires-clause-dst_words g c =
    AreWords-columns _ _ _ _ _ _ c.loop-j.invariant (omega (arith, g.met.K.Field.at_least)) c.requires.dst_words (λ i j. mod-lt _ (omega (arith, g.met.K.Field.at_least)))

pub loop-j-preserved : goal.loop-j-preserved
loop-j-preserved g c =
    let j = c.loop-j.j in
    let sp = c.args.sp in
    columns_go_on _ _ _ _ _ _ _ c.loop-j.invariant (rw (c.column_of.ensures, c.column_of-column.ensures) at c.add_scaled_column.ensures) c.requires.dst_part (omega arith) (omega arith)
    (λ r h1 h2. rw (columns_left _ _ _ _ _ _ c.loop-j.invariant c.requires.dst_part h1 h2 (omega arith)) (ap (λ k. (entry c.args.dst.now r j + c.args.a * entry c.args.src.now (sp.r0 + (r - c.args.at.r0)) k) % g.K.Field.MODULUS)
    (let e : sp.c0 + (j - c.args.at.c0) + (j - j) ≡ sp.c0 + (j - c.args.at.c0) = omega arith in e)))

pub returns : goal.returns
returns g c = columns_end _ _ _ _ _ c.loop-j.invariant (omega arith)
