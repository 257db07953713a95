use Rattle.std.proofs.Common.{◌≡◌, ◌≤◌, ◌+◌, ◌-◌, ap, arith}
use Rattle.field_core.specs.Residue.{inverse}
use Rattle.local_blas.specs.Kernels.{with_product, with_solved_lower}
use Rattle.local_blas.proofs.Halves.{top_rows, bottom_rows, first_square, last_square, block_below, first_of_top, first_of_bottom, last_of_bottom, within-top, within-bottom, within-written, within-last_square, shapes-last_square, nonzero-last_square, solved_words, reduced_words, lower_row, lower_joined}
use Rattle.local_blas.proofs.solve.+solve_lower.Goals as goal

pub returns-then-rows-le1 : goal.returns-then-rows-le1
returns-then-rows-le1 g t c = lower_row g.K.Field.MODULUS (inverse g.K.Field.MODULUS) c.args.unit c.args.block.now c.args.dst.now c.divide_row.new.dst c.args.at c.args.bp c.requires.dst_words (omega (arith, c.if-rows-le1.true)) c.divide_row.ensures

pub subtract_above-requires-clause-dst_part : goal.subtract_above-requires-clause-dst_part
subtract_above-requires-clause-dst_part g t c =
    let dst = c.args.dst.now in
    let at = c.args.at in
    let bp = c.args.bp in
    let block = c.args.block.now in
    let m = c.half_of-half.result in
    let le : at.r0 + m ≤ at.r1 = omega (arith, c.half_of-half.ensures.rest) in
    let e_top : c.top_rows-top.result ≡ top_rows at m = c.top_rows-top.ensures in
    let e_bottom : c.bottom_rows-bottom.result ≡ bottom_rows at m = c.bottom_rows-bottom.ensures in
    let e_first : c.first_columns-first.result ≡ first_square bp m = first_of_top c.args.bp c.top_rows.result c.first_columns-first.result m c.top_rows.ensures c.first_columns-first.ensures in
    let solved : c.solve_lower.new.dst ≡ with_solved_lower g.K.Field.MODULUS (inverse g.K.Field.MODULUS) dst (top_rows at m) block (first_square bp m) c.args.unit = rw (e_top, e_first) at c.solve_lower.ensures in
    rw e_bottom (within-written _ _ _ _ _ solved (within-bottom dst at m c.requires.dst_part le))

pub subtract_above-requires-clause-above_part : goal.subtract_above-requires-clause-above_part
subtract_above-requires-clause-above_part g t c =
    let dst = c.args.dst.now in
    let at = c.args.at in
    let bp = c.args.bp in
    let block = c.args.block.now in
    let m = c.half_of-half.result in
    let le : at.r0 + m ≤ at.r1 = omega (arith, c.half_of-half.ensures.rest) in
    let e_top : c.top_rows-top.result ≡ top_rows at m = c.top_rows-top.ensures in
    let e_bottom : c.bottom_rows-bottom.result ≡ bottom_rows at m = c.bottom_rows-bottom.ensures in
    let e_first : c.first_columns-first.result ≡ first_square bp m = first_of_top c.args.bp c.top_rows.result c.first_columns-first.result m c.top_rows.ensures c.first_columns-first.ensures in
    let solved : c.solve_lower.new.dst ≡ with_solved_lower g.K.Field.MODULUS (inverse g.K.Field.MODULUS) dst (top_rows at m) block (first_square bp m) c.args.unit = rw (e_top, e_first) at c.solve_lower.ensures in
    rw e_top (within-written _ _ _ _ _ solved (within-top dst at m c.requires.dst_part le))

pub subtract_above-requires-clause-dst_words : goal.subtract_above-requires-clause-dst_words
subtract_above-requires-clause-dst_words g t c =
    let dst = c.args.dst.now in
    let at = c.args.at in
    let bp = c.args.bp in
    let block = c.args.block.now in
    let m = c.half_of-half.result in
    let le : at.r0 + m ≤ at.r1 = omega (arith, c.half_of-half.ensures.rest) in
    let e_top : c.top_rows-top.result ≡ top_rows at m = c.top_rows-top.ensures in
    let e_bottom : c.bottom_rows-bottom.result ≡ bottom_rows at m = c.bottom_rows-bottom.ensures in
    let e_first : c.first_columns-first.result ≡ first_square bp m = first_of_top c.args.bp c.top_rows.result c.first_columns-first.result m c.top_rows.ensures c.first_columns-first.ensures in
    let solved : c.solve_lower.new.dst ≡ with_solved_lower g.K.Field.MODULUS (inverse g.K.Field.MODULUS) dst (top_rows at m) block (first_square bp m) c.args.unit = rw (e_top, e_first) at c.solve_lower.ensures in
    solved_words g.K.Field.MODULUS (inverse g.K.Field.MODULUS) c.args.unit block dst c.solve_lower.new.dst (top_rows at m) (first_square bp m) (omega (arith, g.met.K.Field.at_least)) c.requires.dst_words solved

pub solve_lower-requires-2 : goal.solve_lower-requires-2
solve_lower-requires-2 g t c κs within =
    let dst = c.args.dst.now in
    let at = c.args.at in
    let bp = c.args.bp in
    let block = c.args.block.now in
    let m = c.half_of-half.result in
    let le : at.r0 + m ≤ at.r1 = omega (arith, c.half_of-half.ensures.rest) in
    let e_top : c.top_rows-top.result ≡ top_rows at m = c.top_rows-top.ensures in
    let e_bottom : c.bottom_rows-bottom.result ≡ bottom_rows at m = c.bottom_rows-bottom.ensures in
    let e_first : c.first_columns-first.result ≡ first_square bp m = first_of_top c.args.bp c.top_rows.result c.first_columns-first.result m c.top_rows.ensures c.first_columns-first.ensures in
    let solved : c.solve_lower.new.dst ≡ with_solved_lower g.K.Field.MODULUS (inverse g.K.Field.MODULUS) dst (top_rows at m) block (first_square bp m) c.args.unit = rw (e_top, e_first) at c.solve_lower.ensures in
    let e_below : c.first_columns-below.result ≡ block_below bp m = first_of_bottom c.args.bp c.bottom_rows.result c.first_columns-below.result m c.bottom_rows.ensures c.first_columns-below.ensures in
    let e_last : c.last_columns-last.result ≡ last_square bp m = last_of_bottom c.args.bp c.bottom_rows-2.result c.last_columns-last.result m c.bottom_rows-2.ensures c.last_columns-last.ensures in
    let reduced : c.subtract_above.new.dst ≡ with_product g.K.Field.MODULUS c.solve_lower.new.dst (bottom_rows at m) (g.K.Field.MODULUS - 1) block (block_below bp m) c.solve_lower.new.dst (top_rows at m) = rw (e_bottom, e_below, e_top) at c.subtract_above.ensures in (
      omega (arith, c.decreases, ap (λ p. p.r0) e_bottom, ap (λ p. p.r1) e_bottom, c.half_of-half.ensures.some, c.half_of-half.ensures.rest),
      (
        within,
        (
          rw e_bottom (within-written _ _ _ _ _ reduced (within-written _ _ _ _ _ solved (within-bottom dst at m c.requires.dst_part le))),
          (
            rw e_last (within-last_square block at bp m c.requires.block_part c.requires.shape le),
            (
              rw (e_bottom, e_last) (shapes-last_square at bp m c.requires.shape le),
              (
                reduced_words g.K.Field.MODULUS (g.K.Field.MODULUS - 1) block c.solve_lower.new.dst c.solve_lower.new.dst c.subtract_above.new.dst (bottom_rows at m) (block_below bp m) (top_rows at m) (omega (arith, g.met.K.Field.at_least))
                    (solved_words g.K.Field.MODULUS (inverse g.K.Field.MODULUS) c.args.unit block dst c.solve_lower.new.dst (top_rows at m) (first_square bp m) (omega (arith, g.met.K.Field.at_least)) c.requires.dst_words solved) reduced,
                (
                  c.requires.block_words,
                  rw e_last (nonzero-last_square block bp c.args.unit m c.requires.nonzero),
                ),
              ),
            ),
          ),
        ),
      ),
    )

pub returns : goal.returns
returns g t c =
    let dst = c.args.dst.now in
    let at = c.args.at in
    let bp = c.args.bp in
    let block = c.args.block.now in
    let m = c.half_of-half.result in
    let le : at.r0 + m ≤ at.r1 = omega (arith, c.half_of-half.ensures.rest) in
    let e_top : c.top_rows-top.result ≡ top_rows at m = c.top_rows-top.ensures in
    let e_bottom : c.bottom_rows-bottom.result ≡ bottom_rows at m = c.bottom_rows-bottom.ensures in
    let e_first : c.first_columns-first.result ≡ first_square bp m = first_of_top c.args.bp c.top_rows.result c.first_columns-first.result m c.top_rows.ensures c.first_columns-first.ensures in
    let solved : c.solve_lower.new.dst ≡ with_solved_lower g.K.Field.MODULUS (inverse g.K.Field.MODULUS) dst (top_rows at m) block (first_square bp m) c.args.unit = rw (e_top, e_first) at c.solve_lower.ensures in
    let e_below : c.first_columns-below.result ≡ block_below bp m = first_of_bottom c.args.bp c.bottom_rows.result c.first_columns-below.result m c.bottom_rows.ensures c.first_columns-below.ensures in
    let e_last : c.last_columns-last.result ≡ last_square bp m = last_of_bottom c.args.bp c.bottom_rows-2.result c.last_columns-last.result m c.bottom_rows-2.ensures c.last_columns-last.ensures in
    let reduced : c.subtract_above.new.dst ≡ with_product g.K.Field.MODULUS c.solve_lower.new.dst (bottom_rows at m) (g.K.Field.MODULUS - 1) block (block_below bp m) c.solve_lower.new.dst (top_rows at m) = rw (e_bottom, e_below, e_top) at c.subtract_above.ensures in
    lower_joined g.K.Field.MODULUS (inverse g.K.Field.MODULUS) c.args.unit block dst c.solve_lower.new.dst c.subtract_above.new.dst c.solve_lower-2.new.dst at bp m c.requires.dst_part c.requires.shape le solved reduced (rw (e_bottom, e_last) at c.solve_lower-2.ensures)
