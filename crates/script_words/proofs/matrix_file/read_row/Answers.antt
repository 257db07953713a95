use Rattle.std.proofs.Common.{◌≡◌, ◌<◌, ◌+◌, suc, [], length, drop, refl, sym, ap, subst, ◌∙◌, arith}
use Rattle.std.specs.List.{list_all}
use Rattle.run_data.specs.Matrix.{cols}
use Rattle.script_words.specs.Lines.{words_of}
use Rattle.script_words.specs.MatrixFile.{is_residue_word, row_number}
use Rattle.script_words.proofs.Cuts.{drop_whole}
use Rattle.script_words.proofs.Filling.{drop_tail, none_left, rows-row_done, cols-row_done, row_start, row_more, row_end, residues_more, residues_stop, row_word, row_kept, row_fifteen}
use Rattle.script_words.proofs.matrix_file.read_row.Goals as goal

pub loop-j-init : goal.loop-j-init
loop-j-init c = (row_start c.args.modulus c.args.matrix.now c.args.i (words_of c.args.text.now) c.rows.ensures.shaped, refl, refl)

pub returns-in_default : goal.returns-in_default
returns-in_default c =
    let words = words_of c.args.text.now in
    let lt : c.loop-j.j < length words = omega (arith, c.if-count-cols.false, c.loop-j-test.true, c.requires) in
    absurd (none_left words c.loop-j.j lt (c.loop-j.invariant.2 ∙ c.in_default.ensures.none))

pub loop-j-preserved : goal.loop-j-preserved
loop-j-preserved c =
    let words = words_of c.args.text.now in
    let word = c.in-Some.word.now in
    let tail = drop_tail words c.loop-j.j word [] (words_of c.in-Some.after.now) (c.loop-j.invariant.2 ∙ c.in-Some.ensures.some) in
    let next : suc c.loop-j.j ≡ c.loop-j.j + 1 = omega arith in
    let lt : c.loop-j.j < length words = omega (arith, c.if-count-cols.false, c.loop-j-test.true, c.requires) in
    let number : c.in-Some-residue_of.number ≡ row_number c.args.modulus words c.loop-j.j =
    row_word c.args.modulus words c.loop-j.j word [] c.in-Some-residue_of.number lt tail.1 c.in-Some-residue_of.ensures.value in (
      row_more c.args.modulus c.args.matrix.now c.set.new.self c.loop-j.matrix c.args.i c.loop-j.j c.in-Some-residue_of.number words c.loop-j.invariant.0 number c.set.ensures,
      residues_more c.args.modulus words c.loop-j.j word [] _ lt tail.1 (sym c.in-Some-residue_of.ensures.test) c.loop-j.invariant.1,
      subst (λ n. drop n words ≡ words_of c.in-Some.after.now) next tail.0,
    )

pub set-requires-clause-row : goal.set-requires-clause-row
set-requires-clause-row c =
    let rows = ap (λ m. m.rows) c.loop-j.invariant.0 ∙ rows-row_done c.args.modulus c.args.matrix.now c.args.i (words_of c.args.text.now) c.loop-j.j in
    omega (arith, rows, c.rows.ensures.value, c.if-i-rows.false)

pub set-requires-clause-column : goal.set-requires-clause-column
set-requires-clause-column c =
    let columns = ap cols c.loop-j.invariant.0 ∙ cols-row_done c.args.modulus c.args.matrix.now c.args.i (words_of c.args.text.now) c.loop-j.j in
    omega (arith, columns, c.cols-cols.ensures, c.loop-j-test.true)

pub returns-in-None : goal.returns-in-None
returns-in-None c =
    let words = words_of c.args.text.now in
    let word = c.in-Some.word.now in
    let tail = drop_tail words c.loop-j.j word [] (words_of c.in-Some.after.now) (c.loop-j.invariant.2 ∙ c.in-Some.ensures.some) in
    let lt : c.loop-j.j < length words = omega (arith, c.if-count-cols.false, c.loop-j-test.true, c.requires) in
    let row : c.args.i < c.args.matrix.now.rows = omega (arith, c.rows.ensures.value, c.if-i-rows.false) in
    let count : length words ≡ cols c.args.matrix.now = omega (arith, c.if-count-cols.false, c.cols-cols.ensures, c.requires) in
    let bad = residues_stop c.args.modulus words c.loop-j.j word [] _ lt tail.1 (sym c.in-None.ensures.test) c.loop-j.invariant.1 in
    record { code = sym (row_fifteen c.args.modulus c.args.matrix.now.rows (cols c.args.matrix.now) c.args.i words row count bad); few = tt; fits = tt; row = tt }

pub returns : goal.returns
returns c =
    let a = c.args.matrix.now in
    let words = words_of c.args.text.now in
    let whole : c.loop-j.j ≡ cols a = omega (arith, c.loop-j-test.false, c.loop-j.auto.j-end, c.cols-cols.ensures) in
    let all : c.loop-j.j ≡ length words = omega (arith, whole, c.if-count-cols.false, c.cols-cols.ensures, c.requires) in
    let residues = sym c.loop-j.invariant.1 ∙ ap (list_all (is_residue_word c.args.modulus)) (drop_whole words c.loop-j.j all) in
    let lt : c.args.i < a.rows = omega (arith, c.rows.ensures.value, c.if-i-rows.false) in
    let count : length words ≡ cols a = omega (arith, whole, all) in
    record {
      code = sym (row_kept c.args.modulus a.rows (cols a) c.args.i words lt count residues);
      few = lt;
      fits = omega (arith, lt, c.rows.ensures.value, c.rows.type_inv);
      row = row_end c.args.modulus a c.loop-j.matrix c.args.i c.loop-j.j words c.loop-j.invariant.0 whole;
    }
