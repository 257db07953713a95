-- The rounds of a recovery leave no tile larger than it may be.
use Rattle.std.proofs.Common.{◌≡◌, ◌+◌, ◌-◌, ◌*◌, ◌<◌, ◌≤◌, ◌==◌, ◌&&◌, not, nat_lt, ℕ, Bool, true, false, Some, List, [], ◌∷◌, ◌++◌, length, take, refl, sym, ap, subst, ◌∙◌, ⊎_elim, arith}
use Rattle.std.specs.Prelude.{if◌then◌else◌, slice_index_or}
use Rattle.std.proofs.lemmas.Bool.{and_parts, or_cases, eqb-true, ltb-true, ltb-false, true≢false}
use Rattle.std.proofs.lemmas.Nat.{mul-le}
use Rattle.array_desc.proofs.CountLaws.{numroc-most}
use Rattle.cauchy_code.specs.Cauchy.{helpers, weight}
use Rattle.blacs_grid.specs.Places.{width, rank_at, is_member}
use Rattle.blacs_grid.proofs.PlaceLaws.{is_member-begins, is_member-ends}
use Rattle.rank_machine.specs.declared.slot.Slot.{Slot}
use Rattle.rank_machine.specs.declared.slot.SlotKind.TheVariants.{Data, Code, Low, Open, Pivots}
use Rattle.rank_machine.specs.declared.slot.Tile.TheVariants.{Index}
use Rattle.rank_machine.specs.declared.kernel.Cut.TheVariants as cut
use Rattle.rank_machine.specs.declared.layout.Layout.{Layout}
use Rattle.rank_machine.specs.Setting.{Job, Setting, layout, is_matrix, factored, group_count, strip_rows, block_at}
use Rattle.rank_machine.specs.State.{State}
use Rattle.rank_machine.specs.Effect.{replay, has_ended, is_dropped, is_live_matrix, is_live_list}
use Rattle.rank_machine.specs.Legal.{lost_columns}
use Rattle.rank_machine.specs.CodeLaw.{MatrixLaw, slot_at, has_low, has_open, is_open_group, pivots_of}
use Rattle.rank_machine.specs.Held.{size_of}
use Rattle.rank_slots.specs.Stands.{records_of}
use Rattle.round_laws.specs.Turns.{each_below}
use Rattle.run_laws.specs.NextMark.{has_line}
use Rattle.run_laws.specs.Traces.{HoldFrom}
use Rattle.run_laws.proofs.Marks.{job_of_matrix}
use Rattle.phases.specs.Words.{live_tile}
use Rattle.phase_frames.specs.Touching.{AllEvents}
use Rattle.phase_frames.proofs.Touched.{events_then}
use Rattle.phase_words.specs.Resting.{IsMeasured}
use Rattle.phase_words.proofs.Resting.{strip_size}
use Rattle.recovery_laws.specs.Recovery.{symbol_slots, is_open_block, is_closed_block}
use Rattle.recovery_rounds.specs.Mending.{Events, gain, clear, gain_all, decoding_events, part_events, rebuilding_events, row_data_events, row_code_events, copy_events}
use Rattle.recovery_rounds.specs.Rows.{row_events, IsHealing, GoToLost, ReachAllLost}
use Rattle.recovery_words.specs.Roomy.{IsRoomy}
use Rattle.recovery_words.proofs.Rooms.{round-roomy, round-stays_roomy, round-holds}
use Rattle.recovery_words.proofs.EventSizes.{Fits, IsSmall, AreSmall, events_each, events_if, clear-fits, bring-fits, gain-fits, gain_all-fits, copy-fits}

-- ---- strips
-- the largest strip of a live matrix counts in the room for one
tile_there : (s : Setting) (last : State) (line : ℕ) (js : List Job) → has_line js line ≡ true → is_live_matrix s last.mark line ≡ true → (layout s line).desc.lld * (layout s line).desc.nb ≤ live_tile s last.mark js
tile_there s last line [] there live = absurd (true≢false (sym there))
tile_there s last line (j ∷ js) there live =
    ⊎_elim
    (λ (e : (j.line == line) ≡ true).
    let some : (if is_live_matrix s last.mark j.line then (layout s j.line).desc.lld * (layout s j.line).desc.nb else 0) ≡ (layout s line).desc.lld * (layout s line).desc.nb =
    ap (λ l. if is_live_matrix s last.mark l then (layout s l).desc.lld * (layout s l).desc.nb else 0) (eqb-true j.line line e) ∙ ap (λ v. if v then (layout s line).desc.lld * (layout s line).desc.nb else 0) live in
    omega (arith, some))
    (λ (e : has_line js line ≡ true). omega (arith, tile_there s last line js e live))
    (or_cases (j.line == line) (has_line js line) there)

small_if : (s : Setting) (last : State) (from : ℕ) (b : Bool) (xs ys : List Slot) → (b ≡ true → AreSmall s last from xs) → (b ≡ false → AreSmall s last from ys) → AreSmall s last from (if b then xs else ys)
small_if s last from true xs ys h k = h refl
small_if s last from false xs ys h k = k refl

small_then : (s : Setting) (last : State) (from : ℕ) (xs ys : List Slot) → AreSmall s last from xs → AreSmall s last from ys → AreSmall s last from (xs ++ ys)
small_then s last from [] ys h k = k
small_then s last from (x ∷ xs) ys h k = (h.0, small_then s last from xs ys h.1 k)

-- ---- the round of a process row and a group
module _ (s : Setting) (last now : State) (line row group : ℕ) (healing : IsHealing s last now) (live : is_live_matrix s last.mark line ≡ true) (hr : row < (layout s line).grid.p) (hg : group < group_count (layout s line)) where
  abbrev d : Layout
  d = layout s line

  law : MatrixLaw s last last.mark line d
  law = healing.known.rest.law.matrices line live

  matrix : is_matrix s line ≡ true
  matrix = (and_parts (is_matrix s line) (has_ended last.mark line) (and_parts (is_matrix s line && has_ended last.mark line) (not (is_dropped s last.mark line)) live).0).0

  abbrev words : ℕ
  words = strip_rows d row * d.desc.nb

  small_strip : words ≤ live_tile s last.mark s.jobs
  small_strip =
      let rows = numroc-most d.desc.m d.desc.mb row d.grid.p d.desc.rsrc hr in
      let low : strip_rows d row ≤ d.desc.lld = subst (λ n. strip_rows d row ≤ n) (sym (healing.sensible.descs line).local_rows) rows in
      let one = mul-le (strip_rows d row) d.desc.nb d.desc.lld d.desc.nb low (omega arith) in
      omega (arith, one, tile_there s last line s.jobs (job_of_matrix s line matrix) live)

  -- the sizes of its strips at the last commit
  data_size : (col : ℕ) → col < d.grid.q → size_of (last.tiles (rank_at d.grid row col) (slot_at Data line group)) ≡ words
  data_size col h = strip_size d row (last.tiles (rank_at d.grid row col) (slot_at Data line group)) (law.data_strips row group col hr hg h)

  code_size : (c : ℕ) → c < d.grid.f → size_of (last.tiles (rank_at d.grid row (d.grid.q + c)) (slot_at Code line group)) ≡ words
  code_size c h = strip_size d row (last.tiles (rank_at d.grid row (d.grid.q + c)) (slot_at Code line group)) (law.code_strips row group c hr hg h)

  low_size : (c : ℕ) → c < d.grid.f → has_low s last.mark line group ≡ true → size_of (last.tiles (rank_at d.grid row (d.grid.q + c)) (slot_at Low line group)) ≡ words
  low_size c h low = strip_size d row (last.tiles (rank_at d.grid row (d.grid.q + c)) (slot_at Low line group)) (law.low_strips row group c hr hg h low)

  open_size : (c : ℕ) → c < d.grid.f → is_open_group s last.mark line d group ≡ true → size_of (last.tiles (rank_at d.grid row (d.grid.q + c)) (slot_at Open line 0)) ≡ words
  open_size c h opened = strip_size d row (last.tiles (rank_at d.grid row (d.grid.q + c)) (slot_at Open line 0)) (law.open_strips row c hr h (and_parts (has_open s last.mark line) _ opened).0)

  -- so each is small enough to be brought
  data_small : (col : ℕ) → col < d.grid.q → IsSmall s last (rank_at d.grid row col) (slot_at Data line group)
  data_small col h = (refl, omega (arith, data_size col h, small_strip))

  code_small : (c : ℕ) → c < d.grid.f → AreSmall s last (rank_at d.grid row (d.grid.q + c)) (slot_at Code line group ∷ (if has_low s last.mark line group then slot_at Low line group ∷ [] else []) ++ (if is_open_group s last.mark line d group then slot_at Open line 0 ∷ [] else []))
  code_small c h =
      let from = rank_at d.grid row (d.grid.q + c) in
      let low = small_if s last from (has_low s last.mark line group) (slot_at Low line group ∷ []) [] (λ e. ((refl, omega (arith, low_size c h e, small_strip)), tt)) (λ e. tt) in
      let opened = small_if s last from (is_open_group s last.mark line d group) (slot_at Open line 0 ∷ []) [] (λ e. ((refl, omega (arith, open_size c h e, small_strip)), tt)) (λ e. tt) in (
        (refl, omega (arith, code_size c h, small_strip)),
        small_then s last from (if has_low s last.mark line group then slot_at Low line group ∷ [] else []) (if is_open_group s last.mark line d group then slot_at Open line 0 ∷ [] else []) low opened,
      )

  symbol_small : (col : ℕ) → col < width d.grid → AreSmall s last (rank_at d.grid row col) (symbol_slots s last.mark line d group col)
  symbol_small col h =
      small_if s last (rank_at d.grid row col) (nat_lt col d.grid.q) (slot_at Data line group ∷ [])
      (slot_at Code line group ∷ (if has_low s last.mark line group then slot_at Low line group ∷ [] else []) ++ (if is_open_group s last.mark line d group then slot_at Open line 0 ∷ [] else []))
      (λ e. (data_small col (ltb-true col d.grid.q e), tt))
      (λ e.
      let past = ltb-false col d.grid.q e in
      let place : d.grid.q + (col - d.grid.q) ≡ col = omega (arith, past) in
      subst (λ x. AreSmall s last (rank_at d.grid row x) (slot_at Code line group ∷ (if has_low s last.mark line group then slot_at Low line group ∷ [] else []) ++ (if is_open_group s last.mark line d group then slot_at Open line 0 ∷ [] else []))) place
      (code_small (col - d.grid.q) (omega (arith, past, h))))

  -- a lost data strip
  decoding-fits : (which : ℕ) (lost : List Bool) (coefficients : List ℕ) → which < d.grid.q → AllEvents (Fits s last) (decoding_events s last.mark line d row group which lost coefficients)
  decoding-fits which lost coefficients h =
      let rank = rank_at d.grid row which in
      let to = slot_at Data line group in
      let turn = λ (col : ℕ). (if slice_index_or (helpers d.grid.q lost) col false then gain_all (rank_at d.grid row col) rank to (slice_index_or coefficients col 0) (symbol_slots s last.mark line d group col) else []) in (
        clear-fits s last rank to (strip_rows d row) d.desc.nb refl (data_size which h),
        events_each (Fits s last) (width d.grid) turn
            (λ col lt. events_if (Fits s last) (slice_index_or (helpers d.grid.q lost) col false) (gain_all (rank_at d.grid row col) rank to (slice_index_or coefficients col 0) (symbol_slots s last.mark line d group col)) []
            (λ e. gain_all-fits s last (rank_at d.grid row col) rank to (slice_index_or coefficients col 0) (symbol_slots s last.mark line d group col) (symbol_small col lt))
            (λ e. tt)),
      )

  -- a lost code column
  part-fits : (c col : ℕ) → col < d.grid.q → AllEvents (Fits s last) (part_events s last.mark line d row group c col)
  part-fits c col h =
      let rank = rank_at d.grid row (d.grid.q + c) in
      let w = weight s.inverse d.grid.q c col in
      let block = block_at d group col in
      let closed = gain rank (slot_at Code line group) w (cut.Upper block) ∷ gain rank (slot_at Low line group) w (cut.Lower block) ∷ [] in
      let plain = gain rank (slot_at Code line group) w cut.Whole ∷ [] in (
        bring-fits s last (rank_at d.grid row col) rank (slot_at Data line group) (data_small col h),
        events_if (Fits s last) (is_open_block s last.mark line d group col) (gain rank (slot_at Open line 0) w cut.Whole ∷ []) (if is_closed_block s last.mark line d group col then closed else plain)
            (λ e. (gain-fits s last rank (slot_at Open line 0) w cut.Whole, tt))
            (λ e. events_if (Fits s last) (is_closed_block s last.mark line d group col) closed plain
            (λ k. (gain-fits s last rank (slot_at Code line group) w (cut.Upper block), (gain-fits s last rank (slot_at Low line group) w (cut.Lower block), tt)))
            (λ k. (gain-fits s last rank (slot_at Code line group) w cut.Whole, tt))),
      )

  rebuilding-fits : (c : ℕ) → c < d.grid.f → AllEvents (Fits s last) (rebuilding_events s last.mark line d row group c)
  rebuilding-fits c h =
      let rank = rank_at d.grid row (d.grid.q + c) in
      let low = (if has_low s last.mark line group then clear rank (slot_at Low line group) (strip_rows d row) d.desc.nb ∷ [] else []) in
      let opened = (if is_open_group s last.mark line d group then clear rank (slot_at Open line 0) (strip_rows d row) d.desc.nb ∷ [] else []) in
      let parts = each_below d.grid.q (part_events s last.mark line d row group c) in (
        clear-fits s last rank (slot_at Code line group) (strip_rows d row) d.desc.nb refl (code_size c h),
        events_then (Fits s last) (low ++ opened) parts
            (events_then (Fits s last) low opened
            (events_if (Fits s last) (has_low s last.mark line group) (clear rank (slot_at Low line group) (strip_rows d row) d.desc.nb ∷ []) [] (λ e. (clear-fits s last rank (slot_at Low line group) (strip_rows d row) d.desc.nb refl (low_size c h e), tt)) (λ e. tt))
            (events_if (Fits s last) (is_open_group s last.mark line d group) (clear rank (slot_at Open line 0) (strip_rows d row) d.desc.nb ∷ []) [] (λ e. (clear-fits s last rank (slot_at Open line 0) (strip_rows d row) d.desc.nb refl (open_size c h e), tt)) (λ e. tt)))
            (events_each (Fits s last) d.grid.q (part_events s last.mark line d row group c) (λ col lt. part-fits c col lt)),
      )

  -- all of them
  pub row-fits : (coefficients : ℕ → List ℕ) → AllEvents (Fits s last) (row_events s last now line row group coefficients)
  row-fits coefficients =
      let lost = lost_columns now d.grid row in
      events_then (Fits s last) (row_data_events s last.mark line d row group lost coefficients) (row_code_events s last.mark line d row group lost)
      (events_each (Fits s last) d.grid.q (λ which. if slice_index_or lost which false then decoding_events s last.mark line d row group which lost (coefficients which) else [])
      (λ which lt. events_if (Fits s last) (slice_index_or lost which false) (decoding_events s last.mark line d row group which lost (coefficients which)) [] (λ e. decoding-fits which lost (coefficients which) lt) (λ e. tt)))
      (events_each (Fits s last) d.grid.f (λ c. if slice_index_or lost (d.grid.q + c) false then rebuilding_events s last.mark line d row group c else [])
      (λ c lt. events_if (Fits s last) (slice_index_or lost (d.grid.q + c) false) (rebuilding_events s last.mark line d row group c) [] (λ e. rebuilding-fits c lt) (λ e. tt)))

-- ---- the copies of a list
module _ (s : Setting) (last now : State) (line : ℕ) (healing : IsHealing s last now) (live : is_live_list s last.mark line ≡ true) where
  abbrev laid : Layout
  laid = layout s (factored s line)

  list_size : (rank : ℕ) → is_member laid.grid rank ≡ true → size_of (last.tiles rank (slot_at Pivots line 0)) ≡ length (pivots_of last line laid)
  list_size rank m =
      let low = is_member-begins laid.grid rank m in
      let high = is_member-ends laid.grid rank m in
      let at : laid.grid.first + (rank - laid.grid.first) ≡ rank = omega (arith, low) in
      ap size_of (subst (λ a. last.tiles a (slot_at Pivots line 0) ≡ Some (Index (pivots_of last line laid))) at ((healing.known.rest.law.lists line live).same (rank - laid.grid.first) (omega (arith, low, high))))

  pub copies-fit : (pairs : List (ℕ × ℕ)) → GoToLost now laid.grid pairs → AllEvents (Fits s last) (copy_events (slot_at Pivots line 0) pairs)
  copies-fit [] go = tt
  copies-fit (x ∷ xs) go = (copy-fits s last x.0 x.1 (slot_at Pivots line 0) refl (list_size x.0 go.0.0 ∙ sym (list_size x.1 go.0.2)), copies-fit xs go.1)

-- ---- the laws
module _ (s : Setting) (last now : State) (line row group : ℕ) (coefficients : ℕ → List ℕ) where
  abbrev events : Events
  events = row_events s last now line row group coefficients

  pub row-stays_roomy : IsHealing s last now → is_live_matrix s last.mark line ≡ true → row < (layout s line).grid.p → group < group_count (layout s line) → IsRoomy s last now → (k : ℕ) → IsRoomy s last (replay s now (records_of (take k events)))
  row-stays_roomy healing live hr hg roomy k = round-stays_roomy s last now roomy healing.quiet.links events (row-fits s last now line row group healing live hr hg coefficients) k

  pub row-ends_roomy : IsHealing s last now → is_live_matrix s last.mark line ≡ true → row < (layout s line).grid.p → group < group_count (layout s line) → IsRoomy s last now → IsRoomy s last (replay s now (records_of events))
  row-ends_roomy healing live hr hg roomy = round-roomy s last now roomy healing.quiet.links events (row-fits s last now line row group healing live hr hg coefficients)

  pub row-holds : IsMeasured s last → IsHealing s last now → is_live_matrix s last.mark line ≡ true → row < (layout s line).grid.p → group < group_count (layout s line) → IsRoomy s last now → HoldFrom s now (records_of events)
  row-holds measured healing live hr hg roomy = round-holds s last now roomy healing.quiet.links events (row-fits s last now line row group healing live hr hg coefficients) measured healing.known.rest healing.back.mark

module _ (s : Setting) (last now : State) (line : ℕ) (pairs : List (ℕ × ℕ)) where
  abbrev copies : Events
  copies = copy_events (slot_at Pivots line 0) pairs

  pub copies-stay_roomy : IsHealing s last now → is_live_list s last.mark line ≡ true → ReachAllLost now (layout s (factored s line)).grid pairs → IsRoomy s last now → (k : ℕ) → IsRoomy s last (replay s now (records_of (take k copies)))
  copies-stay_roomy healing live reach roomy k = round-stays_roomy s last now roomy healing.quiet.links copies (copies-fit s last now line healing live pairs reach.go) k

  pub copies-end_roomy : IsHealing s last now → is_live_list s last.mark line ≡ true → ReachAllLost now (layout s (factored s line)).grid pairs → IsRoomy s last now → IsRoomy s last (replay s now (records_of copies))
  copies-end_roomy healing live reach roomy = round-roomy s last now roomy healing.quiet.links copies (copies-fit s last now line healing live pairs reach.go)

  pub copies-hold : IsMeasured s last → IsHealing s last now → is_live_list s last.mark line ≡ true → ReachAllLost now (layout s (factored s line)).grid pairs → IsRoomy s last now → HoldFrom s now (records_of copies)
  copies-hold measured healing live reach roomy = round-holds s last now roomy healing.quiet.links copies (copies-fit s last now line healing live pairs reach.go) measured healing.known.rest healing.back.mark
