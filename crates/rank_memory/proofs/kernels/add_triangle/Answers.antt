use Rattle.std.proofs.Common.{◌+◌, ◌*◌, ◌∙◌, arith, refl, sym, ap, subst}
use Rattle.run_data.specs.Matrix.{Matrix, entry, AreWords}
use Rattle.run_data.specs.Parts.{IsWithin}
use Rattle.run_data.proofs.Fills.{fill_starts, fill_ends, AreWords-with_done}
use Rattle.rank_memory.proofs.RowLaws.{gains_where, is_reached, filled_within, column_filled, column_left, below_if}
use Rattle.rank_memory.proofs.kernels.add_triangle.Goals as goal

pub loop-j-init : goal.loop-j-init
loop-j-init g c = fill_starts _ _ _ c.rows-shaped.ensures.shaped

pub add_column-requires-clause-dst_part : goal.add_column-requires-clause-dst_part
add_column-requires-clause-dst_part g c = subst (IsWithin c.args.at) (sym c.loop-j.invariant) (filled_within c.args.dst.now c.args.at _ _ _ c.requires.dst_part)

pub add_column-requires-clause-dst_words : goal.add_column-requires-clause-dst_words
add_column-requires-clause-dst_words g c =
    subst (AreWords g.K.Field.MODULUS) (sym c.loop-j.invariant)
    (AreWords-with_done g.K.Field.MODULUS c.args.dst.now c.args.at _ _ (omega (arith, c.requires.dst_words.below 0 0)) c.requires.dst_words
    (λ i k. below_if g.K.Field.MODULUS (entry c.args.dst.now i k) _ _ (c.requires.dst_words.below i k)))

pub loop-j-preserved : goal.loop-j-preserved
loop-j-preserved g c =
    column_filled c.args.dst.now c.loop-j.dst c.add_column.new.dst c.args.at _ _ c.loop-j.j c.loop-j.invariant c.add_column.ensures c.requires.dst_part (omega arith) (omega arith)
    (λ i low high.
    gains_where g.K.Field.MODULUS _ _ _ _ _ _ _ _ refl
    (is_reached c.args.placed.now c.args.rank c.args.upper c.args.block i c.loop-j.j c.rows_below-end.result c.args.at.r1 (c.from.result * c.from-2.result + c.from-in-loop-j.result + 1) c.args.at.r0 c.args.at.c0 (λ n. c.from.ensures n * c.from-2.ensures n + c.from-in-loop-j.ensures n + 1) high low (omega arith) c.rows_below-end.ensures.below c.rows_below-end.ensures.above)
    (ap (λ (m : Matrix). entry m i c.loop-j.j) c.loop-j.invariant ∙ column_left c.args.dst.now c.args.at _ i c.loop-j.j c.requires.dst_part low high (omega arith))
    refl)

pub returns : goal.returns
returns g c = c.loop-j.invariant ∙ fill_ends _ _ _ _ _ (omega arith)
