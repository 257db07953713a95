use Rattle.std.proofs.Common.{◌≡◌, ◌+◌, ◌-◌, ap, arith}
use Rattle.run_data.specs.Matrix.{entry}
use Rattle.run_data.proofs.Columns.{columns_start, columns_go_on, columns_end}
use Rattle.run_data.proofs.matrix.put_part.Goals as goal

pub loop-j-init : goal.loop-j-init
loop-j-init c = columns_start _ _ _ c.rows-shaped.ensures.shaped

pub loop-j-preserved : goal.loop-j-preserved
loop-j-preserved c =
    columns_go_on _ _ _ _ _ _ _ c.loop-j.invariant (rw (c.column_of.ensures, c.column_of-column.ensures) at c.put_column.ensures) c.requires.dst_part (omega arith) (omega arith)
    (λ r h1 h2. ap (entry c.args.src.now (c.args.sp.r0 + (r - c.args.at.r0))) (let e : c.args.sp.c0 + (c.loop-j.j - c.args.at.c0) + (c.loop-j.j - c.loop-j.j) ≡ c.args.sp.c0 + (c.loop-j.j - c.args.at.c0) = omega arith in e))

pub returns : goal.returns
returns c = columns_end _ _ _ _ _ c.loop-j.invariant (omega arith)
