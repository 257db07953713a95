use Rattle.std.proofs.Common.{◌≡◌, true, false, sym, subst, ◌∙◌, arith}
use Rattle.field_core.specs.Residue.{inverse}
use Rattle.elimination.specs.Whole.{AreRows}
use Rattle.serial_machine.proofs.Turned.{turned_rows, turned_cols, turned_words}
use Rattle.serial_machine.proofs.Whole.{rows-solved, words-solved, some_modulus, factors_pass}
use Rattle.serial_machine.proofs.Backward.{turned_diagonal, transpose_done}
use Rattle.serial_machine.proofs.turned_factors.solve_with_transpose.Goals as goal

pub substitute-requires-clause-square : goal.substitute-requires-clause-square
substitute-requires-clause-square g c = turned_cols _ _ _ _ c.in_ok-turned.ensures ∙ sym (turned_rows _ _ _ _ c.in_ok-turned.ensures ∙ c.requires.square)

pub substitute-requires-clause-rows : goal.substitute-requires-clause-rows
substitute-requires-clause-rows g c = c.requires.same_rows ∙ sym (turned_rows _ _ _ _ c.in_ok-turned.ensures ∙ c.requires.square)

pub substitute-requires-clause-nonzero : goal.substitute-requires-clause-nonzero
substitute-requires-clause-nonzero g c =
    λ _. turned_diagonal _ _ c.requires.square c.in_ok-turned.ensures (factors_pass _ _ _ c.rows-count.ensures.value c.first_zero-info.ensures c.if-info-eq0.true)

pub substitute-requires-clause-a_words : goal.substitute-requires-clause-a_words
substitute-requires-clause-a_words g c = turned_words _ _ _ g.met.K.Field.at_least c.requires.a_words c.in_ok-turned.ensures

pub substitute-requires-then-info-eq0-clause-square : goal.substitute-requires-then-info-eq0-clause-square
substitute-requires-then-info-eq0-clause-square g c = turned_cols _ _ _ _ c.in_ok-turned.ensures ∙ sym (turned_rows _ _ _ _ c.in_ok-turned.ensures ∙ c.requires.square)

pub substitute-requires-then-info-eq0-clause-rows : goal.substitute-requires-then-info-eq0-clause-rows
substitute-requires-then-info-eq0-clause-rows g c =
    rows-solved g.K.Field.MODULUS (inverse g.K.Field.MODULUS) true false c.in_ok-turned.turned _ _ c.substitute.ensures ∙ c.requires.same_rows ∙ sym (turned_rows _ _ _ _ c.in_ok-turned.ensures ∙ c.requires.square)

pub substitute-requires-then-info-eq0-clause-a_words : goal.substitute-requires-then-info-eq0-clause-a_words
substitute-requires-then-info-eq0-clause-a_words g c = turned_words _ _ _ g.met.K.Field.at_least c.requires.a_words c.in_ok-turned.ensures

pub substitute-requires-then-info-eq0-clause-b_words : goal.substitute-requires-then-info-eq0-clause-b_words
substitute-requires-then-info-eq0-clause-b_words g c =
    words-solved g.K.Field.MODULUS (inverse g.K.Field.MODULUS) true false c.in_ok-turned.turned _ _ (some_modulus _ g.met.K.Field.at_least) c.substitute.ensures

pub exchange_rows_back-requires-clause-inside : goal.exchange_rows_back-requires-clause-inside
exchange_rows_back-requires-clause-inside g c =
    omega (arith, c.rows-count.ensures.value, c.requires.same_rows, rows-solved g.K.Field.MODULUS (inverse g.K.Field.MODULUS) true false c.in_ok-turned.turned _ _ c.substitute.ensures, rows-solved g.K.Field.MODULUS (inverse g.K.Field.MODULUS) false true c.in_ok-turned.turned _ _ c.substitute-then-info-eq0.ensures)

pub exchange_rows_back-requires-clause-rows : goal.exchange_rows_back-requires-clause-rows
exchange_rows_back-requires-clause-rows g c =
    let rows_are : c.substitute-then-info-eq0.new.b.rows ≡ c.args.a.now.rows =
    rows-solved g.K.Field.MODULUS (inverse g.K.Field.MODULUS) false true c.in_ok-turned.turned _ _ c.substitute-then-info-eq0.ensures
    ∙ rows-solved g.K.Field.MODULUS (inverse g.K.Field.MODULUS) true false c.in_ok-turned.turned _ _ c.substitute.ensures ∙ c.requires.same_rows in
    subst (λ m. AreRows c.args.rows.now 0 c.rows-count.result m) (sym rows_are) (subst (λ n. AreRows c.args.rows.now 0 n c.args.a.now.rows) (sym c.rows-count.ensures.value) c.requires.pivots)

pub returns-in_ok-turned-clause-matrix : goal.returns-in_ok-turned-clause-matrix
returns-in_ok-turned-clause-matrix g c =
    transpose_done g.K.Field.MODULUS (inverse g.K.Field.MODULUS) c.args.a.now c.in_ok-turned.turned c.args.b.now _ _ _ c.args.rows.now _ _ c.rows-count.ensures.value c.first_zero-info.ensures c.if-info-eq0.true c.requires.square c.requires.same_rows
    c.in_ok-turned.ensures c.requires.pivots c.substitute.ensures c.substitute-then-info-eq0.ensures c.exchange_rows_back.ensures
