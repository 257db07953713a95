use mir.Val.{SFits}
use mir.Syntax.{w32}
use Rattle.std.proofs.Common.{rules as search_rules}
use Rattle.std.proofs.Common.{◌≡◌, ◌<◌, ◌≤◌, ◌+◌, Err, length, sym, ap, ◌∙◌, arith}
use Rattle.std.proofs.lemmas.Bool.{eqb-true, eqb-false}
use Rattle.std.proofs.lemmas.Int.{to_z-of_z}
use Rattle.std.proofs.lemmas.List.{length-drop}
use Rattle.script_words.specs.declared.fault.Refused.{Refused}
use Rattle.script_words.proofs.Filling.{has_residues}
use Rattle.script_words.specs.Lines.{words_of}
use Rattle.script_words.specs.MatrixFile.{rows_of}
use Rattle.script_words.proofs.Files.{reading_start, reading_more, reading_stops, reading_few, reading_ends, read-refused, read-matrix}
use Rattle.script_words.proofs.matrix_file.parse_matrix.Goals as goal

pub loop-rest-init : goal.loop-rest-init
loop-rest-init c = reading_start c.args.modulus c.args.file c.args.m c.args.n c.args.bytes.now _ c.in_ok-matrix.ensures

pub returns-in-Err : goal.returns-in-Err
returns-in-Err c =
    let rest = c.loop-rest.rest.now in
    let ne : length rest ≡ 0 → ⊥ = eqb-false _ _ (sym c.is_empty.ensures ∙ c.loop-rest-test.true) in
    let lt : 0 < length rest = omega arith in
    let f : SFits w32 c.in-Err.code = search search_rules in
    let refused = reading_stops c.args.modulus c.args.file c.args.m c.args.n c.args.bytes.now c.loop-rest.matrix c.loop-rest.rows c.loop-rest.line rest c.cut.result.0.now c.cut.result.1.now (words_of c.line_text.result.now) c.in-Err.code lt
    c.cut.ensures.front c.cut.ensures.back c.line_text.ensures c.in-Err.ensures.broken c.loop-rest.invariant in
    record {
      read = read-refused c.args.modulus c.args.bytes.now c.args.file c.args.m c.args.n _ refused
          ∙ ap (λ z. Err (record { file = c.args.file; line = c.loop-rest.line + 1; code = z })) (sym (to_z-of_z w32 c.in-Err.code f));
      residues = λ _. tt;
    }

pub loop-rest-preserved : goal.loop-rest-preserved
loop-rest-preserved c =
    let rest = c.loop-rest.rest.now in
    let ne : length rest ≡ 0 → ⊥ = eqb-false _ _ (sym c.is_empty.ensures ∙ c.loop-rest-test.true) in
    let lt : 0 < length rest = omega arith in
    let size : length c.skip_one-rest.result.now + 1 ≤ length rest = omega (arith, ap length c.skip_one-rest.ensures ∙ length-drop 1 c.cut.result.1.now, c.cut.ensures.parts, lt) in
    reading_more c.args.modulus c.args.file c.args.m c.args.n c.args.bytes.now c.loop-rest.matrix c.read_line.new.matrix c.loop-rest.rows c.in-Ok.more c.loop-rest.line rest c.cut.result.0.now c.cut.result.1.now c.skip_one-rest.result.now
    (words_of c.line_text.result.now) lt c.cut.ensures.front c.cut.ensures.back c.skip_one-rest.ensures c.line_text.ensures size c.in-Ok.ensures.read c.loop-rest.invariant

pub returns-then-rows-m : goal.returns-then-rows-m
returns-then-rows-m c =
    let done = eqb-true _ _ (sym c.is_empty.ensures ∙ c.loop-rest-test.false) in
    let refused = reading_few c.args.modulus c.args.file c.args.m c.args.n c.args.bytes.now c.loop-rest.matrix c.loop-rest.rows c.loop-rest.line c.loop-rest.rest.now done c.if-rows-m.true c.loop-rest.invariant in
    record { read = read-refused c.args.modulus c.args.bytes.now c.args.file c.args.m c.args.n _ refused ∙ ap (λ (r : Refused). Err r) (sym c.too_few.ensures); residues = λ _. tt }

pub returns : goal.returns
returns c =
    let done = eqb-true _ _ (sym c.is_empty.ensures ∙ c.loop-rest-test.false) in
    let whole = reading_ends c.args.modulus c.args.file c.args.m c.args.n c.args.bytes.now c.loop-rest.matrix c.loop-rest.rows c.loop-rest.line c.loop-rest.rest.now done c.if-rows-m.false c.loop-rest.invariant in
    record {
      read = read-matrix c.args.modulus c.args.bytes.now c.args.file c.args.m c.args.n c.loop-rest.matrix whole;
      residues = λ positive. has_residues c.args.modulus c.args.m c.args.n (rows_of c.args.bytes.now) c.loop-rest.matrix whole.1 positive;
    }
