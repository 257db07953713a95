-- The code law of a matrix, group by group, where nothing is being factored.
use Rattle.std.proofs.Common.{◌≡◌, ◌+◌, ◌*◌, ◌/◌, ◌%◌, ◌<◌, ◌≤◌, ◌==◌, ◌&&◌, ℕ, true, false, sym, ap, subst, ◌∙◌, arith}
use Rattle.std.specs.Prelude.{if◌then◌else◌}
use Rattle.std.proofs.lemmas.Bool.{true≢false, and_from, eq-eqb}
use Rattle.field_core.proofs.Sums.{sum_to-same}
use Rattle.cauchy_code.specs.Cauchy.{weight}
use Rattle.run_data.specs.Matrix.{Matrix, cols, entry}
use Rattle.blacs_grid.specs.Places.{width, rank_at}
use Rattle.blacs_grid.proofs.PlaceLaws.{row_of-rank_at, col_of-rank_at}
use Rattle.rank_machine.specs.declared.slot.SlotKind.TheVariants.{Data, Code, Low, Open}
use Rattle.rank_machine.specs.declared.mark.Mark.{Mark}
use Rattle.rank_machine.specs.declared.layout.Layout.{Layout}
use Rattle.rank_machine.specs.Setting.{Setting, strip_of, strip_rows, group_count, block_at, global_col}
use Rattle.rank_machine.specs.State.{State}
use Rattle.rank_machine.specs.Effect.{words_of}
use Rattle.rank_machine.specs.CodeLaw.{slot_at, has_low, has_open, is_open_group, data_word, code_word, symbol, is_strip_of, MatrixLaw}
use Rattle.dist_matrix.specs.Encode.{HasCodeStrips}
use Rattle.dist_matrix.proofs.StripLaws.{HasStripShape-strip_of, entry-strip_of_padding}
use Rattle.phase_frames.specs.Groups.{HoldsGroup}

-- a symbol where neither Low nor an open panel counts
symbol-code : (s : Setting) (st : State) (mark : Mark) (line : ℕ) (d : Layout) (row group c i j : ℕ) → has_low s mark line group ≡ false → is_open_group s mark line d group ≡ false
    → symbol s st mark line d row group c i j ≡ code_word st Code line d row group c i j
symbol-code s st mark line d row group c i j low opened =
    (λ x. (code_word st Code line d row group c i j + (if low x then code_word st Low line d row group c i j else 0)) + (if opened x then code_word st Open line d row 0 c i j else 0))
    ∙ (let e : (code_word st Code line d row group c i j + 0) + 0 ≡ code_word st Code line d row group c i j = omega arith in e)

-- the strips of a group that is held have their shape
pub HoldsGroup-strip : (st : State) (d : Layout) (line : ℕ) (m : Matrix) (group row col : ℕ) → HoldsGroup st d line m group → row < d.grid.p → col < d.grid.q
    → is_strip_of d row (st.tiles (rank_at d.grid row col) (slot_at Data line group)) ≡ true
HoldsGroup-strip st d line m group row col h hr hc =
    let rank = rank_at d.grid row col in
    let x = strip_of d m rank group in
    let shape = HasStripShape-strip_of d m rank group in
    let wide : col < width d.grid = omega (arith, hc) in
    ap (is_strip_of d row) (h row col hr hc)
    ∙ and_from (x.rows == strip_rows d row) (cols x == d.desc.nb)
    (eq-eqb x.rows (strip_rows d row) (shape.rows ∙ ap (strip_rows d) (row_of-rank_at d.grid row col wide)))
    (eq-eqb (cols x) d.desc.nb shape.columns)

-- and zeros in their padding
padding : (st : State) (d : Layout) (line : ℕ) (m : Matrix) (group row col i j : ℕ) → HoldsGroup st d line m group → row < d.grid.p → col < d.grid.q → i < strip_rows d row → j < d.desc.nb
    → d.desc.n ≤ global_col d (block_at d group col) j → data_word st line d row group col i j ≡ 0
padding st d line m group row col i j h hr hc hi hj past =
    let rank = rank_at d.grid row col in
    let wide : col < width d.grid = omega (arith, hc) in
    ap (λ o. entry (words_of o) i j) (h row col hr hc)
    ∙ entry-strip_of_padding d m rank group i j
    (subst (λ k. i < strip_rows d k) (sym (row_of-rank_at d.grid row col wide)) hi) hj
    (subst (λ k. d.desc.n ≤ global_col d (block_at d group k) j) (sym (col_of-rank_at d.grid row col wide)) past)

-- A matrix obeys the code law where its ranks hold each group of some matrix, with its code strips, and the line's matrix is not being factored.
pub MatrixLaw-groups : (s : Setting) (st : State) (mark : Mark) (line : ℕ) (d : Layout) (m : ℕ → Matrix)
    → ((group : ℕ) → group < group_count d → HoldsGroup st d line (m group) group)
    → ((group : ℕ) → group < group_count d → HasCodeStrips s st d line group)
    → ((group : ℕ) → has_low s mark line group ≡ false) → has_open s mark line ≡ false → MatrixLaw s st mark line d
MatrixLaw-groups s st mark line d m held coded low opened =
    let closed_group : (group : ℕ) → is_open_group s mark line d group ≡ false = λ group. ap (λ b. b && (group == mark.closed / d.grid.q)) opened in
    record {
      data_strips = λ row group col hr hg hc. HoldsGroup-strip st d line (m group) group row col (held group hg) hr hc;
      code_strips = λ row group c hr hg hc. (coded group hg).shapes row c hr hc;
      low_strips = λ row group c hr hg hc e. absurd (true≢false (sym e ∙ low group));
      open_strips = λ row c hr hc e. absurd (true≢false (sym e ∙ opened));
      padding = λ row group col i j place hc past. padding st d line (m group) group row col i j (held group place.group_in) place.row_in hc place.i_in place.j_in past;
      code = λ row group c i j place hc.
          ap (λ v. v % s.modulus) (symbol-code s st mark line d row group c i j (low group) (closed_group group)) ∙ (coded group place.group_in).sums row c i j place.row_in hc place.i_in place.j_in;
      low = λ row group c i j place hc e. absurd (true≢false (sym e ∙ low group));
      panel = λ row group c i j place hc e. absurd (true≢false (sym e ∙ closed_group group));
    }

-- Where the tiles of a group stay, it has its code strips as before.
pub HasCodeStrips-kept : (s : Setting) (st now : State) (d : Layout) (line group : ℕ)
    → ((row c : ℕ) → row < d.grid.p → c < d.grid.f → now.tiles (rank_at d.grid row (d.grid.q + c)) (slot_at Code line group) ≡ st.tiles (rank_at d.grid row (d.grid.q + c)) (slot_at Code line group))
    → ((row q : ℕ) → row < d.grid.p → q < d.grid.q → now.tiles (rank_at d.grid row q) (slot_at Data line group) ≡ st.tiles (rank_at d.grid row q) (slot_at Data line group))
    → HasCodeStrips s st d line group → HasCodeStrips s now d line group
HasCodeStrips-kept s st now d line group codes datas h = record {
  shapes = λ row c hr hc. ap (is_strip_of d row) (codes row c hr hc) ∙ h.shapes row c hr hc;
  sums = λ row c i j hr hc hi hj.
      ap (λ o. entry (words_of o) i j % s.modulus) (codes row c hr hc)
      ∙ h.sums row c i j hr hc hi hj
      ∙ ap (λ v. v % s.modulus) (sum_to-same d.grid.q (λ q. weight s.inverse d.grid.q c q * data_word st line d row group q i j) (λ q. weight s.inverse d.grid.q c q * data_word now line d row group q i j)
      (λ q hq. ap (λ o. weight s.inverse d.grid.q c q * entry (words_of o) i j) (sym (datas row q hr hq))));
}
