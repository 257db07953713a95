use Rattle.std.proofs.Common.{◌≡◌, ◌≤◌, ◌+◌, ◌-◌, ap, arith}
use Rattle.field_core.specs.Residue.{inverse}
use Rattle.local_blas.specs.Kernels.{with_product, with_solved_upper}
use Rattle.local_blas.proofs.Halves.{top_rows, bottom_rows, first_square, last_square, block_above, first_of_top, last_of_top, last_of_bottom, within-top, within-bottom, within-written, within-first_square, within-last_square, shapes-first_square, shapes-last_square, nonzero-first_square, nonzero-last_square, upper_solved_words, reduced_words, upper_row, upper_joined}
use Rattle.local_blas.proofs.solve.+solve_upper.Goals as goal

pub returns-then-rows-le1 : goal.returns-then-rows-le1
returns-then-rows-le1 g t c = upper_row g.K.Field.MODULUS (inverse g.K.Field.MODULUS) c.args.unit c.args.block.now c.args.dst.now c.divide_row.new.dst c.args.at c.args.bp c.requires.dst_words (omega (arith, c.if-rows-le1.true)) c.divide_row.ensures

pub solve_upper-requires : goal.solve_upper-requires
solve_upper-requires g t c κs within =
    let dst = c.args.dst.now in
    let at = c.args.at in
    let bp = c.args.bp in
    let block = c.args.block.now in
    let m = c.half_of-half.result in
    let le : at.r0 + m ≤ at.r1 = omega (arith, c.half_of-half.ensures.rest) in
    let e_bottom : c.bottom_rows-bottom.result ≡ bottom_rows at m = c.bottom_rows-bottom.ensures in
    let e_last : c.last_columns-last.result ≡ last_square bp m = last_of_bottom c.args.bp c.bottom_rows.result c.last_columns-last.result m c.bottom_rows.ensures c.last_columns-last.ensures in (
      omega (arith, c.decreases, ap (λ p. p.r0) e_bottom, ap (λ p. p.r1) e_bottom, c.half_of-half.ensures.some, c.half_of-half.ensures.rest),
      (
        within,
        (
          rw e_bottom (within-bottom dst at m c.requires.dst_part le),
          (
            rw e_last (within-last_square block at bp m c.requires.block_part c.requires.shape le),
            (
              rw (e_bottom, e_last) (shapes-last_square at bp m c.requires.shape le),
              (c.requires.dst_words, (c.requires.block_words, rw e_last (nonzero-last_square block bp c.args.unit m c.requires.nonzero))),
            ),
          ),
        ),
      ),
    )

pub subtract_below-requires-clause-dst_part : goal.subtract_below-requires-clause-dst_part
subtract_below-requires-clause-dst_part g t c =
    let dst = c.args.dst.now in
    let at = c.args.at in
    let bp = c.args.bp in
    let block = c.args.block.now in
    let m = c.half_of-half.result in
    let le : at.r0 + m ≤ at.r1 = omega (arith, c.half_of-half.ensures.rest) in
    let e_bottom : c.bottom_rows-bottom.result ≡ bottom_rows at m = c.bottom_rows-bottom.ensures in
    let e_top : c.top_rows-top.result ≡ top_rows at m = c.top_rows-top.ensures in
    let e_last : c.last_columns-last.result ≡ last_square bp m = last_of_bottom c.args.bp c.bottom_rows.result c.last_columns-last.result m c.bottom_rows.ensures c.last_columns-last.ensures in
    let solved : c.solve_upper.new.dst ≡ with_solved_upper g.K.Field.MODULUS (inverse g.K.Field.MODULUS) dst (bottom_rows at m) block (last_square bp m) c.args.unit = rw (e_bottom, e_last) at c.solve_upper.ensures in
    rw e_top (within-written _ _ _ _ _ solved (within-top dst at m c.requires.dst_part le))

pub subtract_below-requires-clause-below_part : goal.subtract_below-requires-clause-below_part
subtract_below-requires-clause-below_part g t c =
    let dst = c.args.dst.now in
    let at = c.args.at in
    let bp = c.args.bp in
    let block = c.args.block.now in
    let m = c.half_of-half.result in
    let le : at.r0 + m ≤ at.r1 = omega (arith, c.half_of-half.ensures.rest) in
    let e_bottom : c.bottom_rows-bottom.result ≡ bottom_rows at m = c.bottom_rows-bottom.ensures in
    let e_top : c.top_rows-top.result ≡ top_rows at m = c.top_rows-top.ensures in
    let e_last : c.last_columns-last.result ≡ last_square bp m = last_of_bottom c.args.bp c.bottom_rows.result c.last_columns-last.result m c.bottom_rows.ensures c.last_columns-last.ensures in
    let solved : c.solve_upper.new.dst ≡ with_solved_upper g.K.Field.MODULUS (inverse g.K.Field.MODULUS) dst (bottom_rows at m) block (last_square bp m) c.args.unit = rw (e_bottom, e_last) at c.solve_upper.ensures in
    rw e_bottom (within-written _ _ _ _ _ solved (within-bottom dst at m c.requires.dst_part le))

pub subtract_below-requires-clause-dst_words : goal.subtract_below-requires-clause-dst_words
subtract_below-requires-clause-dst_words g t c =
    let dst = c.args.dst.now in
    let at = c.args.at in
    let bp = c.args.bp in
    let block = c.args.block.now in
    let m = c.half_of-half.result in
    let le : at.r0 + m ≤ at.r1 = omega (arith, c.half_of-half.ensures.rest) in
    let e_bottom : c.bottom_rows-bottom.result ≡ bottom_rows at m = c.bottom_rows-bottom.ensures in
    let e_top : c.top_rows-top.result ≡ top_rows at m = c.top_rows-top.ensures in
    let e_last : c.last_columns-last.result ≡ last_square bp m = last_of_bottom c.args.bp c.bottom_rows.result c.last_columns-last.result m c.bottom_rows.ensures c.last_columns-last.ensures in
    let solved : c.solve_upper.new.dst ≡ with_solved_upper g.K.Field.MODULUS (inverse g.K.Field.MODULUS) dst (bottom_rows at m) block (last_square bp m) c.args.unit = rw (e_bottom, e_last) at c.solve_upper.ensures in
    upper_solved_words g.K.Field.MODULUS (inverse g.K.Field.MODULUS) c.args.unit block dst c.solve_upper.new.dst (bottom_rows at m) (last_square bp m) (omega (arith, g.met.K.Field.at_least)) c.requires.dst_words solved

pub solve_upper-requires-2 : goal.solve_upper-requires-2
solve_upper-requires-2 g t c κs within =
    let dst = c.args.dst.now in
    let at = c.args.at in
    let bp = c.args.bp in
    let block = c.args.block.now in
    let m = c.half_of-half.result in
    let le : at.r0 + m ≤ at.r1 = omega (arith, c.half_of-half.ensures.rest) in
    let e_bottom : c.bottom_rows-bottom.result ≡ bottom_rows at m = c.bottom_rows-bottom.ensures in
    let e_top : c.top_rows-top.result ≡ top_rows at m = c.top_rows-top.ensures in
    let e_last : c.last_columns-last.result ≡ last_square bp m = last_of_bottom c.args.bp c.bottom_rows.result c.last_columns-last.result m c.bottom_rows.ensures c.last_columns-last.ensures in
    let solved : c.solve_upper.new.dst ≡ with_solved_upper g.K.Field.MODULUS (inverse g.K.Field.MODULUS) dst (bottom_rows at m) block (last_square bp m) c.args.unit = rw (e_bottom, e_last) at c.solve_upper.ensures in
    let e_above : c.last_columns-above.result ≡ block_above bp m = last_of_top c.args.bp c.top_rows-2.result c.last_columns-above.result m c.top_rows-2.ensures c.last_columns-above.ensures in
    let e_first : c.first_columns-first.result ≡ first_square bp m = first_of_top c.args.bp c.top_rows.result c.first_columns-first.result m c.top_rows.ensures c.first_columns-first.ensures in
    let reduced : c.subtract_below.new.dst ≡ with_product g.K.Field.MODULUS c.solve_upper.new.dst (top_rows at m) (g.K.Field.MODULUS - 1) block (block_above bp m) c.solve_upper.new.dst (bottom_rows at m) = rw (e_top, e_above, e_bottom) at c.subtract_below.ensures in (
      omega (arith, c.decreases, ap (λ p. p.r0) e_top, ap (λ p. p.r1) e_top, c.half_of-half.ensures.some, c.half_of-half.ensures.rest),
      (
        within,
        (
          rw e_top (within-written _ _ _ _ _ reduced (within-written _ _ _ _ _ solved (within-top dst at m c.requires.dst_part le))),
          (
            rw e_first (within-first_square block at bp m c.requires.block_part c.requires.shape le),
            (
              rw (e_top, e_first) (shapes-first_square at bp m),
              (
                reduced_words g.K.Field.MODULUS (g.K.Field.MODULUS - 1) block c.solve_upper.new.dst c.solve_upper.new.dst c.subtract_below.new.dst (top_rows at m) (block_above bp m) (bottom_rows at m) (omega (arith, g.met.K.Field.at_least))
                    (upper_solved_words g.K.Field.MODULUS (inverse g.K.Field.MODULUS) c.args.unit block dst c.solve_upper.new.dst (bottom_rows at m) (last_square bp m) (omega (arith, g.met.K.Field.at_least)) c.requires.dst_words solved) reduced,
                (
                  c.requires.block_words,
                  rw e_first (nonzero-first_square block at bp c.args.unit m c.requires.shape le c.requires.nonzero),
                ),
              ),
            ),
          ),
        ),
      ),
    )

pub returns : goal.returns
returns g t c =
    let dst = c.args.dst.now in
    let at = c.args.at in
    let bp = c.args.bp in
    let block = c.args.block.now in
    let m = c.half_of-half.result in
    let le : at.r0 + m ≤ at.r1 = omega (arith, c.half_of-half.ensures.rest) in
    let e_bottom : c.bottom_rows-bottom.result ≡ bottom_rows at m = c.bottom_rows-bottom.ensures in
    let e_top : c.top_rows-top.result ≡ top_rows at m = c.top_rows-top.ensures in
    let e_last : c.last_columns-last.result ≡ last_square bp m = last_of_bottom c.args.bp c.bottom_rows.result c.last_columns-last.result m c.bottom_rows.ensures c.last_columns-last.ensures in
    let solved : c.solve_upper.new.dst ≡ with_solved_upper g.K.Field.MODULUS (inverse g.K.Field.MODULUS) dst (bottom_rows at m) block (last_square bp m) c.args.unit = rw (e_bottom, e_last) at c.solve_upper.ensures in
    let e_above : c.last_columns-above.result ≡ block_above bp m = last_of_top c.args.bp c.top_rows-2.result c.last_columns-above.result m c.top_rows-2.ensures c.last_columns-above.ensures in
    let e_first : c.first_columns-first.result ≡ first_square bp m = first_of_top c.args.bp c.top_rows.result c.first_columns-first.result m c.top_rows.ensures c.first_columns-first.ensures in
    let reduced : c.subtract_below.new.dst ≡ with_product g.K.Field.MODULUS c.solve_upper.new.dst (top_rows at m) (g.K.Field.MODULUS - 1) block (block_above bp m) c.solve_upper.new.dst (bottom_rows at m) = rw (e_top, e_above, e_bottom) at c.subtract_below.ensures in
    upper_joined g.K.Field.MODULUS (inverse g.K.Field.MODULUS) c.args.unit block dst c.solve_upper.new.dst c.subtract_below.new.dst c.solve_upper-2.new.dst at bp m c.requires.dst_part c.requires.shape le solved reduced (rw (e_top, e_first) at c.solve_upper-2.ensures)
