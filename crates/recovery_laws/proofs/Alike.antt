-- The code law speaks of what the live slots hold, and of nothing else.
use Rattle.std.specs.Prelude.{IsTrue}
use Rattle.std.proofs.Common.{◌≡◌, ℕ, zero, suc, ◌+◌, ◌*◌, ◌/◌, ◌%◌, ◌<◌, ◌&&◌, ◌==◌, Bool, true, false, if◌then◌else◌, nat_lt, nat_le, Option, None, refl, sym, ◌∙◌, ap, subst, arith, inl, inr}
use Rattle.std.proofs.lemmas.Bool.{cases_Bool, and_parts, and_from, lt-ltb}
use Rattle.field_core.proofs.Sums.{sum_to-same}
use Rattle.cauchy_code.specs.Cauchy.{weight}
use Rattle.run_data.specs.Matrix.{entry}
use Rattle.blacs_grid.specs.declared.Grid.{Grid}
use Rattle.blacs_grid.specs.Limits.{IsGrid}
use Rattle.blacs_grid.specs.Places.{width, rank_at, is_member, is_data_rank, is_code_rank}
use Rattle.blacs_grid.proofs.PlaceLaws.{width-pos, is_member-from, is_data_rank-rank_at, is_code_rank-rank_at}
use Rattle.rank_machine.specs.declared.slot.SlotKind.TheVariants.{Data, Code, Low, Open, Pivots}
use Rattle.rank_machine.specs.declared.slot.Slot.{Slot}
use Rattle.rank_machine.specs.declared.slot.Tile.{Tile}
use Rattle.rank_machine.specs.declared.mark.Mark.{Mark}
use Rattle.rank_machine.specs.declared.record.Rec.TheVariants as r
use Rattle.rank_machine.specs.declared.layout.Layout.{Layout}
use Rattle.rank_machine.specs.Setting.{Setting, layout, factored, group_count}
use Rattle.rank_machine.specs.State.{State}
use Rattle.rank_machine.specs.Effect.{words_of, numbers_of, is_live_matrix, is_live_list, factoring, is_live, after}
use Rattle.rank_machine.specs.CodeLaw.{slot_at, has_low, has_open, is_open_group, data_word, code_word, symbol, weighted_sum, is_multiplier, is_open_column, is_strip_of, pivots_of, MatrixLaw, ListLaw, CodeLaw}
use Rattle.recovery_laws.specs.Healed.{HoldAlike, IsSensible}
use Rattle.run_laws.specs.LastCommit.{IsRest}

module _ (s : Setting) (mark : Mark) (line : ℕ) (live : is_live_matrix s mark line ≡ true) where
  d : Layout
  d = layout s line

  pub data-live : (row group col : ℕ) → row < (layout s line).grid.p → group < group_count (layout s line) → col < (layout s line).grid.q → is_live s mark (rank_at (layout s line).grid row col) (slot_at Data line group) ≡ true
  data-live row group col hr hg hc =
      let d = layout s line in
      let rank = rank_at d.grid row col in
      and_from (is_data_rank d.grid rank && nat_lt group (group_count d)) (is_live_matrix s mark line)
      (and_from (is_data_rank d.grid rank) (nat_lt group (group_count d)) (is_data_rank-rank_at d.grid row col hr hc) (lt-ltb group (group_count d) hg)) live

  on_code : (row c : ℕ) → row < (layout s line).grid.p → c < (layout s line).grid.f → is_code_rank (layout s line).grid (rank_at (layout s line).grid row ((layout s line).grid.q + c)) ≡ true
  on_code row c hr hc = (let d = layout s line in is_code_rank-rank_at d.grid row (d.grid.q + c) hr (omega arith) (omega arith))

  pub code-live : (row group c : ℕ) → row < (layout s line).grid.p → group < group_count (layout s line) → c < (layout s line).grid.f → is_live s mark (rank_at (layout s line).grid row ((layout s line).grid.q + c)) (slot_at Code line group) ≡ true
  code-live row group c hr hg hc =
      let d = layout s line in
      let rank = rank_at d.grid row (d.grid.q + c) in
      and_from (is_code_rank d.grid rank && nat_lt group (group_count d)) (is_live_matrix s mark line)
      (and_from (is_code_rank d.grid rank) (nat_lt group (group_count d)) (on_code row c hr hc) (lt-ltb group (group_count d) hg)) live

  pub low-live : (row group c : ℕ) → row < (layout s line).grid.p → group < group_count (layout s line) → c < (layout s line).grid.f → has_low s mark line group ≡ true
      → is_live s mark (rank_at (layout s line).grid row ((layout s line).grid.q + c)) (slot_at Low line group) ≡ true
  low-live row group c hr hg hc low =
      let d = layout s line in
      let rank = rank_at d.grid row (d.grid.q + c) in
      and_from (is_code_rank d.grid rank && nat_lt group (group_count d)) ((nat_lt 0 line && (factoring s mark == line)) && nat_le mark.merged group)
      (and_from (is_code_rank d.grid rank) (nat_lt group (group_count d)) (on_code row c hr hc) (lt-ltb group (group_count d) hg)) low

  pub open-live : (row c : ℕ) → row < (layout s line).grid.p → c < (layout s line).grid.f → has_open s mark line ≡ true → is_live s mark (rank_at (layout s line).grid row ((layout s line).grid.q + c)) (slot_at Open line 0) ≡ true
  open-live row c hr hc opened =
      let d = layout s line in
      let rank = rank_at d.grid row (d.grid.q + c) in
      and_from (is_code_rank d.grid rank && (0 == 0)) ((nat_lt 0 line && (factoring s mark == line)) && mark.opened)
      (and_from (is_code_rank d.grid rank) (0 == 0) (on_code row c hr hc) refl) opened

same_when : (b : Bool) (x y : ℕ) → (b ≡ true → x ≡ y) → (if b then x else 0) ≡ (if b then y else 0)
same_when true x y h = h refl
same_when false x y h = refl

module _ (s : Setting) (st st' : State) (mark : Mark) (line : ℕ) (live : is_live_matrix s mark line ≡ true) (alike : HoldAlike s mark st st') where
  strip_alike : (rank row : ℕ) (slot : Slot) → is_live s mark rank slot ≡ true → IsTrue (is_strip_of (layout s line) row (st.tiles rank slot)) → IsTrue (is_strip_of (layout s line) row (st'.tiles rank slot))
  strip_alike rank row slot at h = subst (λ t. IsTrue (is_strip_of (layout s line) row t)) (sym (alike.same rank slot at)) h

  word_alike : (rank : ℕ) (slot : Slot) (i j : ℕ) → is_live s mark rank slot ≡ true → entry (words_of (st'.tiles rank slot)) i j ≡ entry (words_of (st.tiles rank slot)) i j
  word_alike rank slot i j at = ap (λ t. entry (words_of t) i j) (alike.same rank slot at)

  sum_alike : (row group c i j : ℕ) (counts : ℕ → Bool) → row < (layout s line).grid.p → group < group_count (layout s line) → weighted_sum s st' line (layout s line) row group c i j counts ≡ weighted_sum s st line (layout s line) row group c i j counts
  sum_alike row group c i j counts hr hg =
      let d = layout s line in
      sum_to-same d.grid.q (λ col. if counts col then weight s.inverse d.grid.q c col * data_word st' line d row group col i j else 0) (λ col. if counts col then weight s.inverse d.grid.q c col * data_word st line d row group col i j else 0)
      (λ col h. ap (λ x. if counts col then weight s.inverse d.grid.q c col * x else 0) (word_alike (rank_at d.grid row col) (slot_at Data line group) i j (data-live s mark line live row group col hr hg h)))

  code_alike : (row group c i j : ℕ) → row < (layout s line).grid.p → group < group_count (layout s line) → c < (layout s line).grid.f → code_word st' Code line (layout s line) row group c i j ≡ code_word st Code line (layout s line) row group c i j
  code_alike row group c i j hr hg hc = (let d = layout s line in word_alike (rank_at d.grid row (d.grid.q + c)) (slot_at Code line group) i j (code-live s mark line live row group c hr hg hc))

  low_alike : (row group c i j : ℕ) → row < (layout s line).grid.p → group < group_count (layout s line) → c < (layout s line).grid.f → has_low s mark line group ≡ true → code_word st' Low line (layout s line) row group c i j ≡ code_word st Low line (layout s line) row group c i j
  low_alike row group c i j hr hg hc low = (let d = layout s line in word_alike (rank_at d.grid row (d.grid.q + c)) (slot_at Low line group) i j (low-live s mark line live row group c hr hg hc low))

  open_alike : (row group c i j : ℕ) → row < (layout s line).grid.p → c < (layout s line).grid.f → is_open_group s mark line (layout s line) group ≡ true → code_word st' Open line (layout s line) row 0 c i j ≡ code_word st Open line (layout s line) row 0 c i j
  open_alike row group c i j hr hc opened =
      let d = layout s line in
      word_alike (rank_at d.grid row (d.grid.q + c)) (slot_at Open line 0) i j (open-live s mark line live row c hr hc (and_parts (has_open s mark line) (group == mark.closed / d.grid.q) opened).0)

  symbol_alike : (row group c i j : ℕ) → row < (layout s line).grid.p → group < group_count (layout s line) → c < (layout s line).grid.f → symbol s st' mark line (layout s line) row group c i j ≡ symbol s st mark line (layout s line) row group c i j
  symbol_alike row group c i j hr hg hc =
      let d = layout s line in
      ap (λ x. (x + (if has_low s mark line group then code_word st' Low line d row group c i j else 0)) + (if is_open_group s mark line d group then code_word st' Open line d row 0 c i j else 0)) (code_alike row group c i j hr hg hc)
      ∙ ap (λ x. (code_word st Code line d row group c i j + x) + (if is_open_group s mark line d group then code_word st' Open line d row 0 c i j else 0))
      (same_when (has_low s mark line group) (code_word st' Low line d row group c i j) (code_word st Low line d row group c i j) (low_alike row group c i j hr hg hc))
      ∙ ap (λ x. (code_word st Code line d row group c i j + (if has_low s mark line group then code_word st Low line d row group c i j else 0)) + x)
      (same_when (is_open_group s mark line d group) (code_word st' Open line d row 0 c i j) (code_word st Open line d row 0 c i j) (open_alike row group c i j hr hc))

  pub matrix-alike : MatrixLaw s st mark line (layout s line) → MatrixLaw s st' mark line (layout s line)
  matrix-alike law =
      let d = layout s line in
      record {
        data_strips = λ row group col hr hg hc. strip_alike (rank_at d.grid row col) row (slot_at Data line group) (data-live s mark line live row group col hr hg hc) (law.data_strips row group col hr hg hc);
        code_strips = λ row group c hr hg hc. strip_alike (rank_at d.grid row (d.grid.q + c)) row (slot_at Code line group) (code-live s mark line live row group c hr hg hc) (law.code_strips row group c hr hg hc);
        low_strips = λ row group c hr hg hc low. strip_alike (rank_at d.grid row (d.grid.q + c)) row (slot_at Low line group) (low-live s mark line live row group c hr hg hc low) (law.low_strips row group c hr hg hc low);
        open_strips = λ row c hr hc opened. strip_alike (rank_at d.grid row (d.grid.q + c)) row (slot_at Open line 0) (open-live s mark line live row c hr hc opened) (law.open_strips row c hr hc opened);
        padding = λ row group col i j at hc past. word_alike (rank_at d.grid row col) (slot_at Data line group) i j (data-live s mark line live row group col at.row_in at.group_in hc) ∙ law.padding row group col i j at hc past;
        code = λ row group c i j at hc.
            ap (λ n. n % s.modulus) (symbol_alike row group c i j at.row_in at.group_in hc) ∙ law.code row group c i j at hc ∙ ap (λ n. n % s.modulus) (sym (sum_alike row group c i j (λ col. true) at.row_in at.group_in));
        low = λ row group c i j at hc low.
            ap (λ n. n % s.modulus) (low_alike row group c i j at.row_in at.group_in hc low) ∙ law.low row group c i j at hc low
            ∙ ap (λ n. n % s.modulus) (sym (sum_alike row group c i j (is_multiplier mark d row group i j) at.row_in at.group_in));
        panel = λ row group c i j at hc opened.
            ap (λ n. n % s.modulus) (open_alike row group c i j at.row_in hc opened) ∙ law.panel row group c i j at hc opened
            ∙ ap (λ n. n % s.modulus) (sym (sum_alike row group c i j (is_open_column mark d) at.row_in at.group_in));
      }

module _ (s : Setting) (st st' : State) (mark : Mark) (line : ℕ) (live : is_live_list s mark line ≡ true) (alike : HoldAlike s mark st st') where
  list_live : (place : ℕ) → place < (layout s (factored s line)).grid.p * width (layout s (factored s line)).grid → is_live s mark ((layout s (factored s line)).grid.first + place) (slot_at Pivots line 0) ≡ true
  list_live place h =
      let g = (layout s (factored s line)).grid in
      and_from (is_member g (g.first + place) && (0 == 0)) (is_live_list s mark line)
      (and_from (is_member g (g.first + place)) (0 == 0) (is_member-from g (g.first + place) (omega arith) (omega arith)) refl) live

  pub list-alike : 0 < (layout s (factored s line)).grid.p * width (layout s (factored s line)).grid
      → ListLaw st mark line (layout s (factored s line)) (pivots_of st line (layout s (factored s line))) → ListLaw st' mark line (layout s (factored s line)) (pivots_of st' line (layout s (factored s line)))
  list-alike some law =
      let d = layout s (factored s line) in
      let first : st'.tiles (d.grid.first + 0) (slot_at Pivots line 0) ≡ st.tiles (d.grid.first + 0) (slot_at Pivots line 0) = alike.same (d.grid.first + 0) (slot_at Pivots line 0) (list_live 0 some) in
      let at : d.grid.first + 0 ≡ d.grid.first = omega arith in
      let first' : st'.tiles d.grid.first (slot_at Pivots line 0) ≡ st.tiles d.grid.first (slot_at Pivots line 0) = subst (λ r. st'.tiles r (slot_at Pivots line 0) ≡ st.tiles r (slot_at Pivots line 0)) at first in
      subst (ListLaw st' mark line d) (sym (ap numbers_of first'))
      (record {
        same = λ place h. alike.same (d.grid.first + place) (slot_at Pivots line 0) (list_live place h) ∙ law.same place h;
        at_least = law.at_least;
        at_most = law.at_most;
        whole = law.whole;
      })

some_member : (g : Grid) → IsGrid g → 0 < g.p * width g
some_member g grid = mul_pos g.p (width g) (omega (arith, grid.some_rows)) (width-pos g grid)
  where
    mul_pos : (a b : ℕ) → 0 < a → 0 < b → 0 < a * b
    mul_pos zero b h k = absurd (omega arith)
    mul_pos (suc a) b h k = omega arith

pub law-alike : (s : Setting) (st st' : State) (mark : Mark) → IsSensible s → HoldAlike s mark st st' → CodeLaw s st mark → CodeLaw s st' mark
law-alike s st st' mark sensible alike law =
    record {
      matrices = λ line live. matrix-alike s st st' mark line live alike (law.matrices line live);
      lists = λ line live. list-alike s st st' mark line live alike (some_member (layout s (factored s line)).grid (sensible.grids (factored s line))) (law.lists line live);
    }

when : (b : Bool) (x : Option Tile) → b ≡ true → (if b then x else None) ≡ x
when true x e = refl
when false x e = absurd (cc)

when_not : (b : Bool) (x : Option Tile) → b ≡ false → (if b then x else None) ≡ None
when_not true x e = absurd (cc)
when_not false x e = refl

-- a healed commit leaves what the last commit left
pub commit-again : (s : Setting) (st st' : State) (rank : ℕ) (slot : Slot) → HoldAlike s st.mark st st' → IsRest s st → (after s st' (r.Commit st.mark true)).tiles rank slot ≡ st.tiles rank slot
commit-again s st st' rank slot alike rest =
    elim (cases_Bool (is_live s st.mark rank slot)) [
      | inl live ↦ when (is_live s st.mark rank slot) (st'.tiles rank slot) live ∙ alike.same rank slot live
      | inr none ↦ when_not (is_live s st.mark rank slot) (st'.tiles rank slot) none ∙ sym (rest.nothing_else rank slot none)
    ]

-- what a commit leaves is what is live, and obeys the law that the commit asks
pub commit-nothing_else : (s : Setting) (st : State) (mark : Mark) (healed : Bool) (rank : ℕ) (slot : Slot) → is_live s mark rank slot ≡ false → (after s st (r.Commit mark healed)).tiles rank slot ≡ None
commit-nothing_else s st mark healed rank slot none = when_not (is_live s mark rank slot) (st.tiles rank slot) none

pub commit-alike : (s : Setting) (st : State) (mark : Mark) (healed : Bool) → HoldAlike s mark st (after s st (r.Commit mark healed))
commit-alike s st mark healed = record { same = λ rank slot live. when (is_live s mark rank slot) (st.tiles rank slot) live }
