-- The code law of what a phase leaves alone: where the slots of a matrix, or of a list, that count under the next mark hold what they held under the last one, and the
-- same slots count, its law holds under the next mark.
use Rattle.std.proofs.Common.{◌≡◌, ◌≢◌, ◌/◌, ⊎_elim, ◌+◌, ◌*◌, ◌%◌, ◌<◌, ◌==◌, ◌&&◌, nat_lt, nat_le, ℕ, zero, suc, Bool, true, false, refl, sym, ap, subst, ◌∙◌, arith, IsTrue}
use Rattle.std.specs.Prelude.{if◌then◌else◌}
use Rattle.std.proofs.lemmas.Bool.{and_parts, and_from, lt-ltb, true≢false, cases_Bool}
use Rattle.field_core.proofs.Sums.{sum_to-same}
use Rattle.cauchy_code.specs.Cauchy.{weight}
use Rattle.blacs_grid.specs.Places.{width, rank_at, is_member, is_data_rank, is_code_rank}
use Rattle.blacs_grid.proofs.PlaceLaws.{is_member-from, is_data_rank-rank_at, is_code_rank-rank_at}
use Rattle.run_data.specs.Matrix.{entry}
use Rattle.rank_machine.specs.declared.slot.SlotKind.TheVariants.{Data, Code, Low, Open, Pivots}
use Rattle.rank_machine.specs.declared.slot.Slot.{Slot}
use Rattle.rank_machine.specs.declared.mark.Mark.{Mark}
use Rattle.rank_machine.specs.declared.layout.Layout.{Layout}
use Rattle.rank_machine.specs.Setting.{Setting, layout, is_matrix, factored, group_count, block_at, global_col, global_row}
use Rattle.rank_machine.specs.State.{State}
use Rattle.rank_machine.specs.Effect.{words_of, numbers_of, is_live, is_live_matrix, is_live_list, has_ended}
use Rattle.rank_machine.specs.CodeLaw.{CodeLaw, MatrixLaw, ListLaw, slot_at, has_low, has_open, is_open_group, data_word, code_word, symbol, weighted_sum, is_strip_of, pivots_of, is_multiplier, is_open_column}
use Rattle.array_desc.specs.Maps.{owner}
use Rattle.rank_machine.specs.Marks.{follows}
use Rattle.run_laws.specs.LastCommit.{IsScripted}
use Rattle.run_laws.specs.NextMark.{JobsRise, is_factored_under, CountsSame}
use Rattle.run_laws.proofs.Marks.{matrix_was_live, list_was_live, counts_same}

module _ (s : Setting) (st now : State) (last mark : Mark) (sc : IsScripted s) where
  module _ (line : ℕ) (live : is_live_matrix s mark line ≡ true) (kept_in : (rank : ℕ) (slot : Slot) → slot.id ≡ line → is_live s mark rank slot ≡ true → now.tiles rank slot ≡ st.tiles rank slot) (same : CountsSame s last mark line) where
    abbrev d : Layout
    d = layout s line

    kept : (rank : ℕ) (slot : Slot) → slot.id ≡ line → is_live s mark rank slot ≡ true → now.tiles rank slot ≡ st.tiles rank slot
    kept = kept_in

    data_kept : (row group col : ℕ) → row < d.grid.p → group < group_count d → col < d.grid.q → now.tiles (rank_at d.grid row col) (slot_at Data line group) ≡ st.tiles (rank_at d.grid row col) (slot_at Data line group)
    data_kept row group col lr lg lc =
        kept (rank_at d.grid row col) (slot_at Data line group) refl
        (and_from (is_data_rank d.grid (rank_at d.grid row col) && nat_lt group (group_count d)) (is_live_matrix s mark line)
        (and_from (is_data_rank d.grid (rank_at d.grid row col)) (nat_lt group (group_count d)) (is_data_rank-rank_at d.grid row col lr lc) (lt-ltb group (group_count d) lg)) live)

    on_code : (row c : ℕ) → row < d.grid.p → c < d.grid.f → is_code_rank d.grid (rank_at d.grid row (d.grid.q + c)) ≡ true
    on_code row c lr lc = is_code_rank-rank_at d.grid row (d.grid.q + c) lr (omega arith) (omega (arith, lc))

    code_kept : (row group c : ℕ) → row < d.grid.p → group < group_count d → c < d.grid.f → now.tiles (rank_at d.grid row (d.grid.q + c)) (slot_at Code line group) ≡ st.tiles (rank_at d.grid row (d.grid.q + c)) (slot_at Code line group)
    code_kept row group c lr lg lc =
        kept (rank_at d.grid row (d.grid.q + c)) (slot_at Code line group) refl
        (and_from (is_code_rank d.grid (rank_at d.grid row (d.grid.q + c)) && nat_lt group (group_count d)) (is_live_matrix s mark line)
        (and_from (is_code_rank d.grid (rank_at d.grid row (d.grid.q + c))) (nat_lt group (group_count d)) (on_code row c lr lc) (lt-ltb group (group_count d) lg)) live)

    low_kept : (row group c : ℕ) → row < d.grid.p → group < group_count d → c < d.grid.f → has_low s mark line group ≡ true
        → now.tiles (rank_at d.grid row (d.grid.q + c)) (slot_at Low line group) ≡ st.tiles (rank_at d.grid row (d.grid.q + c)) (slot_at Low line group)
    low_kept row group c lr lg lc low =
        let p = and_parts (is_factored_under s mark line) (nat_le mark.merged group) low in
        kept (rank_at d.grid row (d.grid.q + c)) (slot_at Low line group) refl
        (and_from (is_code_rank d.grid (rank_at d.grid row (d.grid.q + c)) && nat_lt group (group_count d)) (is_factored_under s mark line && nat_le mark.merged group)
        (and_from (is_code_rank d.grid (rank_at d.grid row (d.grid.q + c))) (nat_lt group (group_count d)) (on_code row c lr lc) (lt-ltb group (group_count d) lg))
        (and_from (is_factored_under s mark line) (nat_le mark.merged group) p.0 p.1))

    open_kept : (row c : ℕ) → row < d.grid.p → c < d.grid.f → has_open s mark line ≡ true → now.tiles (rank_at d.grid row (d.grid.q + c)) (slot_at Open line 0) ≡ st.tiles (rank_at d.grid row (d.grid.q + c)) (slot_at Open line 0)
    open_kept row c lr lc opens =
        let p = and_parts (is_factored_under s mark line) mark.opened opens in
        kept (rank_at d.grid row (d.grid.q + c)) (slot_at Open line 0) refl
        (and_from (is_code_rank d.grid (rank_at d.grid row (d.grid.q + c)) && true) (is_factored_under s mark line && mark.opened)
        (and_from (is_code_rank d.grid (rank_at d.grid row (d.grid.q + c))) true (on_code row c lr lc) refl)
        (and_from (is_factored_under s mark line) mark.opened p.0 p.1))

    data_same : (row group col i j : ℕ) → row < d.grid.p → group < group_count d → col < d.grid.q → data_word now line d row group col i j ≡ data_word st line d row group col i j
    data_same row group col i j lr lg lc = ap (λ t. entry (words_of t) i j) (data_kept row group col lr lg lc)

    sum_same : (row group c i j : ℕ) → row < d.grid.p → group < group_count d → (counts : ℕ → Bool) → weighted_sum s now line d row group c i j counts ≡ weighted_sum s st line d row group c i j counts
    sum_same row group c i j lr lg counts =
        sum_to-same d.grid.q (λ col. if counts col then weight s.inverse d.grid.q c col * data_word now line d row group col i j else 0) (λ col. if counts col then weight s.inverse d.grid.q c col * data_word st line d row group col i j else 0)
        (λ col lc. ap (λ x. if counts col then weight s.inverse d.grid.q c col * x else 0) (data_same row group col i j lr lg lc))

    if_same : (b : Bool) (x y : ℕ) → (b ≡ true → x ≡ y) → (if b then x else 0) ≡ (if b then y else 0)
    if_same true x y h = h refl
    if_same false x y h = refl

    is_last : (group : ℕ) → is_open_group s mark line d group ≡ is_open_group s last line d group
    is_last group =
        ⊎_elim
        (λ (e : is_factored_under s mark line ≡ true). λ i. same.opens i && (group == same.closed e i / d.grid.q))
        (λ (e : is_factored_under s mark line ≡ false).
        let new : has_open s mark line ≡ false = ap (λ b. b && mark.opened) e in
        ap (λ b. b && (group == mark.closed / d.grid.q)) new ∙ sym (ap (λ b. b && (group == last.closed / d.grid.q)) (sym same.opens ∙ new)))
        (cases_Bool (is_factored_under s mark line))

    symbol_same : (row group c i j : ℕ) → row < d.grid.p → group < group_count d → c < d.grid.f → symbol s now mark line d row group c i j ≡ symbol s st last line d row group c i j
    symbol_same row group c i j lr lg lc =
        let a : code_word now Code line d row group c i j ≡ code_word st Code line d row group c i j = ap (λ t. entry (words_of t) i j) (code_kept row group c lr lg lc) in
        let b = if_same (has_low s mark line group) (code_word now Low line d row group c i j) (code_word st Low line d row group c i j) (λ h. ap (λ t. entry (words_of t) i j) (low_kept row group c lr lg lc h)) in
        let o = if_same (is_open_group s mark line d group) (code_word now Open line d row 0 c i j) (code_word st Open line d row 0 c i j)
        (λ h. ap (λ t. entry (words_of t) i j) (open_kept row c lr lc (and_parts (has_open s mark line) _ h).0)) in
        (λ n. (a n + b n) + o n)
        ∙ (λ n. (code_word st Code line d row group c i j + (if same.low group n then code_word st Low line d row group c i j else 0)) + (if is_last group n then code_word st Open line d row 0 c i j else 0))

    -- as many panels are closed where it counts
    low_closed : (group : ℕ) → has_low s mark line group ≡ true → mark.closed ≡ last.closed
    low_closed group low = same.closed (and_parts (is_factored_under s mark line) (nat_le mark.merged group) low).0

    open_closed : (group : ℕ) → is_open_group s mark line d group ≡ true → mark.closed ≡ last.closed
    open_closed group opens = same.closed (and_parts (is_factored_under s mark line) mark.opened (and_parts (has_open s mark line) (group == mark.closed / d.grid.q) opens).0).0

    multiplier_same : (row group i j col : ℕ) → mark.closed ≡ last.closed → is_multiplier mark d row group i j col ≡ is_multiplier last d row group i j col
    multiplier_same row group i j col e = ap (λ n. nat_lt (block_at d group col) n && nat_lt (global_col d (block_at d group col) j) (global_row d (rank_at d.grid row col) i)) e

    column_same : (col : ℕ) → mark.closed ≡ last.closed → is_open_column mark d col ≡ is_open_column last d col
    column_same col e = ap (λ n. col == owner (n * d.desc.nb) d.desc.nb d.desc.csrc d.grid.q) e

    sum_counts : (row group c i j : ℕ) (f g : ℕ → Bool) → ((col : ℕ) → f col ≡ g col) → weighted_sum s st line d row group c i j f ≡ weighted_sum s st line d row group c i j g
    sum_counts row group c i j f g e =
        sum_to-same d.grid.q (λ col. if f col then weight s.inverse d.grid.q c col * data_word st line d row group col i j else 0) (λ col. if g col then weight s.inverse d.grid.q c col * data_word st line d row group col i j else 0)
        (λ col lc. ap (λ b. if b then weight s.inverse d.grid.q c col * data_word st line d row group col i j else 0) (e col))

    pub MatrixLaw-kept : MatrixLaw s st last line d → MatrixLaw s now mark line d
    MatrixLaw-kept h = record {
      data_strips = λ row group col lr lg lc. subst (λ t. is_strip_of d row t ≡ true) (sym (data_kept row group col lr lg lc)) (h.data_strips row group col lr lg lc);
      code_strips = λ row group c lr lg lc. subst (λ t. is_strip_of d row t ≡ true) (sym (code_kept row group c lr lg lc)) (h.code_strips row group c lr lg lc);
      low_strips = λ row group c lr lg lc low. subst (λ t. is_strip_of d row t ≡ true) (sym (low_kept row group c lr lg lc low)) (h.low_strips row group c lr lg lc (sym (same.low group) ∙ low));
      open_strips = λ row c lr lc opens. subst (λ t. is_strip_of d row t ≡ true) (sym (open_kept row c lr lc opens)) (h.open_strips row c lr lc (sym same.opens ∙ opens));
      padding = λ row group col i j at lc past. data_same row group col i j at.row_in at.group_in lc ∙ h.padding row group col i j at lc past;
      code = λ row group c i j at lc.
          ap (λ x. x % s.modulus) (symbol_same row group c i j at.row_in at.group_in lc)
          ∙ (h.code row group c i j at lc ∙ sym (ap (λ x. x % s.modulus) (sum_same row group c i j at.row_in at.group_in (λ col. true))));
      low = λ row group c i j at lc low.
          ap (λ t. entry (words_of t) i j % s.modulus) (low_kept row group c at.row_in at.group_in lc low)
          ∙ (h.low row group c i j at lc (sym (same.low group) ∙ low)
          ∙ sym (ap (λ x. x % s.modulus) (sum_same row group c i j at.row_in at.group_in (is_multiplier mark d row group i j)
          ∙ sum_counts row group c i j (is_multiplier mark d row group i j) (is_multiplier last d row group i j) (λ col. multiplier_same row group i j col (low_closed group low)))));
      panel = λ row group c i j at lc opens.
          ap (λ t. entry (words_of t) i j % s.modulus) (open_kept row c at.row_in lc (and_parts (has_open s mark line) _ opens).0)
          ∙ (h.panel row group c i j at lc (sym (is_last group) ∙ opens)
          ∙ sym (ap (λ x. x % s.modulus) (sum_same row group c i j at.row_in at.group_in (is_open_column mark d)
          ∙ sum_counts row group c i j (is_open_column mark d) (is_open_column last d) (λ col. column_same col (open_closed group opens)))));
    }

  module _ (line : ℕ) (live : is_live_list s mark line ≡ true) (kept : (rank : ℕ) (slot : Slot) → slot.id ≡ line → is_live s mark rank slot ≡ true → now.tiles rank slot ≡ st.tiles rank slot) (had : has_ended mark line ≡ true → has_ended last line ≡ true) where
    abbrev e : Layout
    e = layout s (factored s line)

    pivots_kept : (place : ℕ) → place < e.grid.p * width e.grid → now.tiles (e.grid.first + place) (slot_at Pivots line 0) ≡ st.tiles (e.grid.first + place) (slot_at Pivots line 0)
    pivots_kept place lt =
        kept (e.grid.first + place) (slot_at Pivots line 0) refl
        (and_from (is_member e.grid (e.grid.first + place) && true) (is_live_list s mark line)
        (and_from (is_member e.grid (e.grid.first + place)) true (is_member-from e.grid (e.grid.first + place) (omega arith) (omega (arith, lt))) refl) live)

    first_kept : now.tiles e.grid.first (slot_at Pivots line 0) ≡ st.tiles e.grid.first (slot_at Pivots line 0)
    first_kept = let z : e.grid.first + 0 ≡ e.grid.first = omega arith in subst (λ n. now.tiles n (slot_at Pivots line 0) ≡ st.tiles n (slot_at Pivots line 0)) z (pivots_kept 0 (sc.some_ranks (factored s line)))

    pub ListLaw-kept : ListLaw st last line e (pivots_of st line e) → ListLaw now mark line e (pivots_of now line e)
    ListLaw-kept h =
        subst (λ ns. ListLaw now mark line e ns) (sym (ap numbers_of first_kept))
        (record { same = λ place lt. pivots_kept place lt ∙ h.same place lt; at_least = h.at_least; at_most = h.at_most; whole = λ t. h.whole (had t) })

-- The frame of every phase. Between the last commit and the next mark, which follows the last one: where a phase has changed no tile that will be live but those of
-- lines of its own (the line that is current and the one that it factors among them), and its own matrices and lists obey the law under the next mark, all do.
pub CodeLaw-next_mark : (s : Setting) (st now : State) (mark : Mark) (own : ℕ → Bool) → IsScripted s → JobsRise 0 s.jobs → IsTrue (follows s st.mark mark) → CodeLaw s st st.mark
    → own mark.line ≡ true → (0 < factored s mark.line → own (factored s mark.line) ≡ true)
    → ((rank : ℕ) (slot : Slot) → own slot.id ≡ false → is_live s mark rank slot ≡ true → now.tiles rank slot ≡ st.tiles rank slot)
    → ((line : ℕ) → own line ≡ true → is_live_matrix s mark line ≡ true → MatrixLaw s now mark line (layout s line))
    → ((line : ℕ) → own line ≡ true → is_live_list s mark line ≡ true → ListLaw now mark line (layout s (factored s line)) (pivots_of now line (layout s (factored s line))))
    → CodeLaw s now mark
CodeLaw-next_mark s st now mark own sc rising next law own_line own_factored kept matrices lists = record {
  matrices = λ line live.
      ⊎_elim
      (λ (e : own line ≡ true). matrices line e live)
      (λ (e : own line ≡ false).
      let z = matrix_was_live s st.mark mark rising next line (other line e) live in
      MatrixLaw-kept s st now st.mark mark sc line live (kept_in line e) (counts_same s st.mark mark rising next line (positive line live) (whole line e (positive line live))) (law.matrices line z))
      (cases_Bool (own line));
  lists = λ line live.
      ⊎_elim
      (λ (e : own line ≡ true). lists line e live)
      (λ (e : own line ≡ false).
      let z = list_was_live s st.mark mark rising next line (other line e) live in
      ListLaw-kept s st now st.mark mark sc line live (kept_in line e) (λ _. z.1) (law.lists line z.0))
      (cases_Bool (own line));
}
  where
    other : (line : ℕ) → own line ≡ false → line ≢ mark.line
    other line e is = true≢false (sym own_line ∙ ap own (sym is) ∙ e)

    kept_in : (line : ℕ) → own line ≡ false → (rank : ℕ) (slot : Slot) → slot.id ≡ line → is_live s mark rank slot ≡ true → now.tiles rank slot ≡ st.tiles rank slot
    kept_in line e rank slot id live = kept rank slot (ap own id ∙ e) live

    whole : (line : ℕ) → own line ≡ false → 0 < line → line ≢ factored s mark.line
    whole line e some is = true≢false (sym (own_factored (subst (λ n. 0 < n) is some)) ∙ ap own (sym is) ∙ e)

    positive : (line : ℕ) → is_live_matrix s mark line ≡ true → 0 < line
    positive zero live = absurd (true≢false (sym (and_parts (is_matrix s 0) (has_ended mark 0) (and_parts (is_matrix s 0 && has_ended mark 0) _ live).0).0 ∙ sc.no_line))
    positive (suc n) live = omega arith
