use Rattle.std.proofs.Common.{◌≡◌, ◌+◌, ◌-◌, ◌*◌, ◌∙◌, length, slice_index, refl, ap, arith}
use Rattle.run_data.specs.Matrix.{entry}
use Rattle.run_data.specs.Parts.{part_entry}
use Rattle.run_data.proofs.ColumnWords.{column_in, column_read, column_written, part_long}
use Rattle.run_data.proofs.matrix.put_column.Goals as goal

pub returns : goal.returns
returns c =
    let dst = c.args.dst.now in
    let src = c.args.src.now in
    let at = c.args.at in
    let sp = c.args.sp in
    let ws = c.words_mut-place.result.now in
    let lo = at.c0 * c.rows-2.result + at.r0 in
    let n = at.c0 * c.rows-2.result + at.r1 - lo in
    let from = sp.c0 * c.rows.result + sp.r0 in
    let count = sp.c0 * c.rows.result + sp.r1 - from in
    let e_n : n ≡ at.r1 - at.r0 = omega arith in
    let e_count : count ≡ sp.r1 - sp.r0 = omega arith in
    let one : sp.c1 ≡ sp.c0 + 1 = omega (arith, c.requires.shape.columns, c.requires.column, c.requires.src_part.columns_ordered) in
    let inside = column_in src sp c.rows.result (length c.words.result.now) c.requires.src_part one c.rows.ensures.value c.words.ensures.size in
    let long : length c.copy_from_slice.new.self ≡ n = ap length c.copy_from_slice.ensures.after ∙ part_long c.words.result.now from count (omega (arith, inside, c.requires.src_part.rows_ordered)) ∙ (let e : count ≡ n = omega (arith, e_n, e_count, c.requires.shape.rows) in e) in
    column_written dst at ws c.copy_from_slice.new.self c.rows-2.result lo n (λ i j. part_entry src sp (i - at.r0) (j - at.c0)) c.requires.dst_part c.requires.column c.rows-2.ensures.value refl e_n c.words_mut-place.ensures.size
    c.words_mut-place.ensures.words long
    (λ m lt. ap (λ l. slice_index l m) c.copy_from_slice.ensures.after
    ∙ column_read src sp c.words.result.now c.rows.result from count m c.requires.src_part one c.rows.ensures.value refl e_count c.words.ensures.words (omega (arith, lt, e_n, e_count, c.requires.shape.rows))
    ∙ ap (λ r. entry src r sp.c0) (let e : sp.r0 + m ≡ sp.r0 + (at.r0 + m - at.r0) = omega arith in e) ∙ ap (entry src (sp.r0 + (at.r0 + m - at.r0))) (let e : sp.c0 ≡ sp.c0 + (at.c0 - at.c0) = omega arith in e))
