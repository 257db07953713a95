-- The round that copies a live list to the ranks that were lost.
use Rattle.std.proofs.Common.{◌≡◌, ◌≢◌, ◌+◌, ◌<◌, ◌≤◌, ◌==◌, ℕ, Bool, true, false, List, length, refl, sym, ap, subst, ◌∙◌, arith, inl, inr, All}
use Rattle.std.proofs.lemmas.Bool.{cases_eq, ne_eqb}
use Rattle.std.proofs.lemmas.List.FromFn.{length-map-range_with_len}
use Rattle.blacs_grid.specs.declared.Grid.{Grid}
use Rattle.blacs_grid.specs.Limits.{IsGrid}
use Rattle.blacs_grid.specs.Places.{width, rank_at}
use Rattle.blacs_grid.proofs.PlaceLaws.{is_member-from, is_member-rank_at}
use Rattle.rank_run.specs.declared.run.Ran.TheVariants as ran
use Rattle.rank_run.specs.Action.{Action}
use Rattle.rank_run.specs.Parts.{IsWithin}
use Rattle.rank_machine.specs.declared.slot.Slot.{Slot}
use Rattle.rank_machine.specs.declared.slot.SlotKind.TheVariants.{Data, Code, Low, Open, Pivots}
use Rattle.rank_machine.specs.declared.slot.Piece.{Piece}
use Rattle.rank_machine.specs.declared.kernel.Kernel.{Kernel}
use Rattle.rank_machine.specs.declared.mark.Mark.{Mark}
use Rattle.rank_machine.specs.Setting.{Setting, ranks, layout, factored}
use Rattle.rank_machine.specs.State.{State, same_slot}
use Rattle.rank_machine.specs.Effect.{is_live_matrix, is_live_list, replay}
use Rattle.rank_machine.specs.Legal.{lost_columns, IsLegalFrom}
use Rattle.rank_machine.specs.Losses.{lost_in}
use Rattle.rank_machine.specs.CodeLaw.{slot_at}
use Rattle.rank_slots.specs.Stands.{records_of}
use Rattle.round_laws.specs.Turns.{IsGridOf}
use Rattle.run_laws.specs.Traces.{list_most}
use Rattle.run_laws.specs.Cuts.{IsWithin as NoneBeyond}
use Rattle.block_world.specs.World.{WorldView, setting_in, state_of}
use Rattle.block_world.specs.Rounds.{IsRoundOf}
use Rattle.recovery_code.specs.Copies.{first_kept, row_copies, grid_copies}
use Rattle.recovery_code.proofs.Copying.{row-kept, all-reached}
use Rattle.recovery_counts.specs.Counted.{FewAreLost}
use Rattle.recovery_counts.proofs.Judged.{list-few}
use Rattle.recovery_counts.proofs.StripCounts.{few-copies}
use Rattle.recovery_rounds.specs.Mending.{Events, copy_events}
use Rattle.recovery_rounds.specs.Rows.{IsHealing, IsRowHealed, IsListHealed, ReachAllLost}
use Rattle.recovery_rounds.proofs.Stays.{list-legal, list-heals, list-leaves, list-goes_on}
use Rattle.recovery_words.proofs.RowSizes.{copies-end_roomy, copies-hold}
use Rattle.world_heal.specs.Ways.{rest_of}
use Rattle.world_heal.specs.Mended.{IsMendable, IsMending, HasMended, IsHitMending, KeepsHealed}
use Rattle.world_heal.proofs.Ways.{mark-rest}
use Rattle.world_heal.proofs.Steps.{HoldsRound, mended-round, hit-round}
use Rattle.world_heal.proofs.Within.{copies-within}
use Rattle.world_heal.proofs.RowRounds.{live-made, list-factors}

-- ---- what the columns of a process row say that are given to its copies
module _ (st : State) (g : Grid) (row : ℕ) (given items : List Bool) (same : given ≡ items) (are : items ≡ lost_columns st g row) where
  pub columns-are : given ≡ lost_columns st g row
  columns-are = same ∙ are

  pub columns-counted : length given ≡ width g
  columns-counted = ap (λ (bs : List Bool). length bs) columns-are ∙ length-map-range_with_len (λ col. st.lost (rank_at g row col)) 0 (width g)

  pub columns-kept : IsGrid g → lost_in st g row ≤ g.f → first_kept given < width g
  columns-kept grid few = subst (λ (bs : List Bool). first_kept bs < width g) (sym columns-are) (row-kept st g row grid few)

  pub copies-are : row_copies g row given ≡ row_copies g row (lost_columns st g row)
  copies-are = ap (λ (bs : List Bool). row_copies g row bs) columns-are

-- ---- what a live list says of its setting
list-grid : (s : Setting) (mark : Mark) (line : ℕ) → IsMendable s → is_live_list s mark line ≡ true → IsGridOf s (layout s (factored s line)).grid
list-grid s mark line m live = m.of_run (factored s line) (m.matrices line (list-factors s mark line live))

list_few : (s : Setting) (st : State) (line : ℕ) → IsMendable s → NoneBeyond s st → is_live_list s st.mark line ≡ true → FewAreLost st (layout s (factored s line))
list_few s st line m within live =
    let made = m.matrices line (list-factors s st.mark line live) in
    list-few s st line within live (m.there (factored s line) made) (m.on_grid (factored s line) made)

-- ---- what was healed stays so
other_list : (line line' : ℕ) → line' ≢ line → same_slot (slot_at Pivots line' 0) (slot_at Pivots line 0) ≡ false
other_list line line' ne = (let e : (line' == line) ≡ false = ne_eqb line' line ne in rw e refl)

module _ (s : Setting) (last now : State) (line : ℕ) (pairs : List (ℕ × ℕ)) (mendable : IsMendable s) (healing : IsHealing s last now) (live : is_live_list s last.mark line ≡ true) (reach : ReachAllLost now (layout s (factored s line)).grid pairs) where
  abbrev copied : State
  copied = replay s now (records_of (copy_events (slot_at Pivots line 0) pairs))

  list-others : (rank : ℕ) (slot : Slot) → rank < ranks s → same_slot slot (slot_at Pivots line 0) ≡ false → copied.tiles rank slot ≡ now.tiles rank slot
  list-others rank slot h other = list-leaves s last now line pairs healing live (list-grid s last.mark line mendable live) reach rank slot h other

  rows_kept : (other row group : ℕ) → is_live_matrix s last.mark other ≡ true → row < (layout s other).grid.p → IsRowHealed s last now other row group → IsRowHealed s last copied other row group
  rows_kept other row group there hr h =
      let g = (layout s other).grid in
      let of = mendable.of_run other (live-made s last.mark other there) in
      let in_run : (col : ℕ) → col < width g → rank_at g row col < ranks s = λ col hc. of.ranks (rank_at g row col) (is_member-rank_at g row col hr hc) in
      record {
        data_strips = λ col hc. list-others (rank_at g row col) (slot_at Data other group) (in_run col (omega arith)) refl ∙ h.data_strips col hc;
        code_strips = λ c hc. list-others (rank_at g row (g.q + c)) (slot_at Code other group) (in_run (g.q + c) (omega arith)) refl ∙ h.code_strips c hc;
        low_strips = λ c hc low. list-others (rank_at g row (g.q + c)) (slot_at Low other group) (in_run (g.q + c) (omega arith)) refl ∙ h.low_strips c hc low;
        open_strips = λ c hc opened. list-others (rank_at g row (g.q + c)) (slot_at Open other 0) (in_run (g.q + c) (omega arith)) refl ∙ h.open_strips c hc opened;
      }

  lists_kept : (other : ℕ) → is_live_list s last.mark other ≡ true → IsListHealed s last now other → IsListHealed s last copied other
  lists_kept other there h =
      elim (cases_eq other line) [
        | inl same ↦ subst (λ k. IsListHealed s last copied k) (sym same) (list-heals s last now line pairs healing live (list-grid s last.mark line mendable live) reach)
        | inr ne ↦
            (let g = (layout s (factored s other)).grid in
            let of = list-grid s last.mark other mendable there in
            record { same = λ place hp. list-others (g.first + place) (slot_at Pivots other 0) (of.ranks (g.first + place) (is_member-from g (g.first + place) (omega arith) (omega arith))) (other_list line other ne) ∙ h.same place hp })
      ]

  pub list-keeps : KeepsHealed s last now copied
  list-keeps = record { rows = λ other row group there hr hg h. rows_kept other row group there hr h; lists = lists_kept }

-- ---- the round of a list, on a world
module _ (w : WorldView) (line factors : ℕ) (g : Grid) (round : Events) (h : IsMending w) (live : is_live_list (setting_in w) (rest_of w).mark line ≡ true) (of : factored (setting_in w) line ≡ factors) (on : g ≡ (layout (setting_in w) factors).grid)
    (is : round ≡ copy_events (slot_at Pivots line 0) (grid_copies (state_of w) g)) where
  abbrev pairs : List (ℕ × ℕ)
  pairs = grid_copies (state_of w) (layout (setting_in w) (factored (setting_in w) line)).grid

  abbrev made : Events
  made = copy_events (slot_at Pivots line 0) pairs

  same_grid : g ≡ (layout (setting_in w) (factored (setting_in w) line)).grid
  same_grid = on ∙ ap (λ k. (layout (setting_in w) k).grid) (sym of)

  same_round : round ≡ made
  same_round = is ∙ ap (λ z. copy_events (slot_at Pivots line 0) (grid_copies (state_of w) z)) same_grid

  list_lost : FewAreLost (state_of w) (layout (setting_in w) (factored (setting_in w) line))
  list_lost = list_few (setting_in w) (state_of w) line h.mendable h.within (subst (λ m. is_live_list (setting_in w) m line ≡ true) (sym (mark-rest w)) live)

  run_grid : IsGridOf (setting_in w) (layout (setting_in w) (factored (setting_in w) line)).grid
  run_grid = list-grid (setting_in w) (rest_of w).mark line h.mendable live

  reach_all : ReachAllLost (state_of w) (layout (setting_in w) (factored (setting_in w) line)).grid pairs
  reach_all =
      let d = layout (setting_in w) (factored (setting_in w) line) in
      all-reached (state_of w) d.grid run_grid.grid (λ row hr. row-kept (state_of w) d.grid row run_grid.grid (list_lost row hr))

  few_records : length (records_of made) ≤ list_most (layout (setting_in w) (factored (setting_in w) line))
  few_records = few-copies (state_of w) (layout (setting_in w) (factored (setting_in w) line)) (slot_at Pivots line 0) list_lost

  holds_made : HoldsRound (setting_in w) (rest_of w) (state_of w) made
  holds_made roomy measured = copies-hold (setting_in w) (rest_of w) (state_of w) line pairs measured h.healing live reach_all roomy

  pub list-ranks : All (IsWithin (ranks (setting_in w))) round
  list-ranks = subst (λ (es : Events). All (IsWithin (ranks (setting_in w))) es) (sym same_round) (copies-within (setting_in w) (state_of w) (layout (setting_in w) (factored (setting_in w) line)).grid (slot_at Pivots line 0) pairs run_grid reach_all)

  pub list-allowed : IsLegalFrom (setting_in w) (state_of w) (records_of round)
  list-allowed = subst (λ (es : Events). IsLegalFrom (setting_in w) (state_of w) (records_of es)) (sym same_round) (list-legal (setting_in w) (rest_of w) (state_of w) line pairs h.healing live run_grid reach_all)

  pub list-mended : (w' : WorldView) (order order' : List ℕ) → ((noted : List (Action Kernel Piece)) × IsRoundOf w w' round order order' ran.Whole noted)
      → HasMended (list_most (layout (setting_in w) factors)) (λ (s : Setting) (last now : State). IsListHealed s last now line) w w'
  list-mended w' order order' run =
      let ran_made = subst (λ (es : Events). IsRoundOf w w' es order order' ran.Whole run.0) same_round run.1 in
      subst (λ k. HasMended (list_most (layout (setting_in w) k)) (λ (s : Setting) (last now : State). IsListHealed s last now line) w w') of
      (mended-round w w' made order order' run.0 (list_most (layout (setting_in w) (factored (setting_in w) line))) few_records (λ (s : Setting) (last now : State). IsListHealed s last now line) ran_made h
      (list-goes_on (setting_in w) (rest_of w) (state_of w) line pairs h.healing live run_grid reach_all)
      (list-keeps (setting_in w) (rest_of w) (state_of w) line pairs h.mendable h.healing live reach_all)
      (list-heals (setting_in w) (rest_of w) (state_of w) line pairs h.healing live run_grid reach_all)
      (copies-end_roomy (setting_in w) (rest_of w) (state_of w) line pairs h.healing live reach_all) holds_made)

  pub list-hit : (w' : WorldView) (order order' : List ℕ) → ((noted : List (Action Kernel Piece)) × IsRoundOf w w' round order order' ran.Hit noted) → IsHitMending (list_most (layout (setting_in w) factors)) w w'
  list-hit w' order order' run =
      let ran_made = subst (λ (es : Events). IsRoundOf w w' es order order' ran.Hit run.0) same_round run.1 in
      subst (λ k. IsHitMending (list_most (layout (setting_in w) k)) w w') of (hit-round w w' made order order' run.0 (list_most (layout (setting_in w) (factored (setting_in w) line))) few_records ran_made holds_made)

-- the ranks lost of each row of its grid are few
pub list-row_few : (w : WorldView) (line factors : ℕ) (g : Grid) → IsMending w → is_live_list (setting_in w) (rest_of w).mark line ≡ true → factored (setting_in w) line ≡ factors → g ≡ (layout (setting_in w) factors).grid
    → (row : ℕ) → row < g.p → lost_in (state_of w) g row ≤ g.f
list-row_few w line factors g h live of on row hr =
    let s = setting_in w in
    let e : g ≡ (layout s (factored s line)).grid = on ∙ ap (λ k. (layout s k).grid) (sym of) in
    let few = list_few s (state_of w) line h.mendable h.within (subst (λ m. is_live_list s m line ≡ true) (sym (mark-rest w)) live) in
    subst (λ (z : Grid). row < z.p → lost_in (state_of w) z row ≤ z.f) (sym e) (few row) hr
