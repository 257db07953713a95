-- A round of a recovery, from a state of the machine: its records are legal, the row holds its strips again, and the recovery goes on.
use Rattle.std.specs.Prelude.{slice_index_or}
use Rattle.std.proofs.Common.{◌≡◌, ℕ, ◌+◌, ◌<◌, ◌&&◌, ◌||◌, not, Bool, true, false, if◌then◌else◌, Option, Some, None, is_some, List, [], ◌∷◌, length, refl, sym, ◌∙◌, ap, subst, arith}
use Rattle.std.proofs.lemmas.Bool.{and_parts, true≢false, or_left}
use Rattle.std.proofs.lemmas.List.FromFn.{length-map-range_with_len, get_or-map-range_with_len}
use Rattle.cauchy_code.specs.Cauchy.{weight, IsDecoding}
use Rattle.rank_run.specs.declared.round.Event.TheVariants.{Local, Move}
use Rattle.blacs_grid.specs.declared.Grid.{Grid}
use Rattle.blacs_grid.specs.Places.{width, row_of, rank_at}
use Rattle.blacs_grid.proofs.PlaceLaws.{is_member-rank_at, row_of-rank_at}
use Rattle.rank_machine.specs.declared.slot.Slot.{Slot}
use Rattle.rank_machine.specs.declared.slot.SlotKind.TheVariants.{Data, Code, Low, Open, Work}
use Rattle.rank_machine.specs.declared.slot.Tile.{Tile}
use Rattle.rank_machine.specs.declared.record.Rec.TheVariants as r
use Rattle.rank_machine.specs.Setting.{Setting, some_below, ranks, layout, is_matrix, grid_of_rank, group_count}
use Rattle.rank_machine.specs.State.{State, same_kind, or_else}
use Rattle.rank_machine.specs.Effect.{after, replay, has_ended, is_dropped, is_live_matrix}
use Rattle.rank_machine.specs.Legal.{some_lost, lost_columns, IsFactor, IsLegalFrom}
use Rattle.rank_machine.specs.CodeLaw.{slot_at}
use Rattle.rank_slots.specs.Stands.{records_of}
use Rattle.round_laws.specs.Holdings.{Holding, holding}
use Rattle.round_laws.specs.Turns.{Replays, IsGridOf}
use Rattle.round_laws.proofs.Legal.{turns_replay}
use Rattle.recovery_laws.specs.Healed.{FallsBack}
use Rattle.recovery_laws.proofs.Commits.{committed}
use Rattle.recovery_laws.proofs.FallingBack.{goes-on}
use Rattle.recovery_laws.proofs.Factored.{coefficient-factor, weight-factor}
use Rattle.recovery_laws.proofs.Recovered.{closed-block}
use Rattle.recovery_rounds.specs.Mending.{Events, IsMending, HoldTheirStrips, AreMending}
use Rattle.recovery_rounds.specs.Rows.{row_events, IsHealing, AreCoefficients, IsRowHealed, LeavesOthers}
use Rattle.recovery_rounds.proofs.RowRounds.{RowDone, row-done}

-- ---- which columns are lost
lost-length : (st : State) (g : Grid) (row : ℕ) → length (lost_columns st g row) ≡ width g
lost-length st g row = length-map-range_with_len (λ col. st.lost (rank_at g row col)) 0 (width g)

lost-at : (st : State) (g : Grid) (row col : ℕ) → col < width g → slice_index_or (lost_columns st g row) col false ≡ st.lost (rank_at g row col)
lost-at st g row col h = get_or-map-range_with_len (λ col. st.lost (rank_at g row col)) 0 (width g) col col false h (omega arith)

-- ---- what a lost rank holds is fresh
fresh_there : (kept there : Option Tile) (fresh : Bool) → or_else kept (if fresh then None else there) ≡ None → is_some there ≡ true → fresh || is_some kept ≡ true
fresh_there None (Some t) true e h = refl
fresh_there None (Some t) false e h = absurd (cc)
fresh_there None None fresh e h = absurd (cc)
fresh_there (Some u) there fresh e h = absurd (cc)

pub mending : (st now : State) (rank : ℕ) → FallsBack st now → now.lost rank ≡ true → IsMending rank (holding now rank)
mending st now rank back lost = record { number = refl; free = λ slot there. fresh_there (now.saved rank slot) (now.tiles rank slot) (now.fresh rank slot) (back.gone rank slot lost) there }

-- ---- records of a round are no commits
pub no_commits : (s : Setting) (st now : State) (es : Events) → IsLegalFrom s now (records_of es) → FallsBack st now → FallsBack st (replay s now (records_of es))
no_commits s st now [] legal back = back
no_commits s st now (Local a x ∷ es) legal back = no_commits s st (after s now (r.Kernel a x)) es legal.1 (goes-on st now s (r.Kernel a x) refl legal.0 back)
no_commits s st now (Move from to a b ∷ es) legal back =
    no_commits s st (after s (after s now (r.Send from to a)) (r.Recv to from b)) es legal.1.1
    (goes-on st (after s now (r.Send from to a)) s (r.Recv to from b) refl legal.1.0 (goes-on st now s (r.Send from to a) refl legal.0 back))

module _ (s : Setting) (st now : State) (line row group : ℕ) (coefs : ℕ → List ℕ) (healing : IsHealing s st now) (live : is_live_matrix s st.mark line ≡ true) (of : IsGridOf s (layout s line).grid)
    (hr : row < (layout s line).grid.p) (hg : group < group_count (layout s line)) (given : AreCoefficients s now (layout s line).grid row coefs) where
  matrix : is_matrix s line ≡ true
  matrix = (and_parts (is_matrix s line) (has_ended st.mark line) (and_parts (is_matrix s line && has_ended st.mark line) (not (is_dropped s st.mark line)) live).0).0

  own : (col : ℕ) → col < width (layout s line).grid → grid_of_rank s (rank_at (layout s line).grid row col) ≡ (layout s line).grid
  own col h = of.own (rank_at (layout s line).grid row col) (is_member-rank_at (layout s line).grid row col hr h)

  factor : (which : ℕ) → which < (layout s line).grid.q → slice_index_or (lost_columns now (layout s line).grid row) which false ≡ true → (col : ℕ) → col < width (layout s line).grid → IsFactor s now (rank_at (layout s line).grid row which) (slice_index_or (coefs which) col 0)
  factor which hw is_lost col hc =
      let g = (layout s line).grid in
      let rank = rank_at g row which in
      let wide : which < width g = omega arith in
      let lost_one : now.lost rank ≡ true = sym (lost-at now g row which wide) ∙ is_lost in
      let is : grid_of_rank s rank ≡ g = own which wide in
      let same : lost_columns now (grid_of_rank s rank) (row_of (grid_of_rank s rank) rank) ≡ lost_columns now g row = ap (λ x. lost_columns now x (row_of x rank)) is ∙ ap (lost_columns now g) (row_of-rank_at g row which wide) in
      let hw' : which < (grid_of_rank s rank).q = subst (λ x. which < x.q) (sym is) hw in
      let hc' : col < width (grid_of_rank s rank) = subst (λ x. col < width x) (sym is) hc in
      coefficient-factor s now rank which (coefs which) col hw' (ap (λ l. slice_index_or l which false) same ∙ is_lost)
      (subst (λ x. IsDecoding s.modulus s.inverse x (lost_columns now (grid_of_rank s rank) (row_of (grid_of_rank s rank) rank)) which (coefs which)) (ap (λ x. x.q) (sym is)) (subst (λ l. IsDecoding s.modulus s.inverse g.q l which (coefs which)) (sym same) (given.decode which hw lost_one)))
      hc'

  weights : (c col : ℕ) → c < (layout s line).grid.f → col < (layout s line).grid.q → IsFactor s now (rank_at (layout s line).grid row ((layout s line).grid.q + c)) (weight s.inverse (layout s line).grid.q c col)
  weights c col hc hcol =
      let g = (layout s line).grid in
      let rank = rank_at g row (g.q + c) in
      let is : grid_of_rank s rank ≡ g = own (g.q + c) (omega arith) in
      subst (λ x. IsFactor s now rank (weight s.inverse x.q c col)) is (weight-factor s now rank c col (subst (λ x. c < x.f) (sym is) hc) (subst (λ x. col < x.q) (sym is) hcol))

  kept_at : (col : ℕ) (slot : Slot) → col < width (layout s line).grid → slice_index_or (lost_columns now (layout s line).grid row) col false ≡ false → same_kind slot.kind Work ≡ false
      → now.tiles (rank_at (layout s line).grid row col) slot ≡ st.tiles (rank_at (layout s line).grid row col) slot
  kept_at col slot h not_lost kind = healing.kept (rank_at (layout s line).grid row col) slot (of.ranks (rank_at (layout s line).grid row col) (is_member-rank_at (layout s line).grid row col hr h)) (sym (lost-at now (layout s line).grid row col h) ∙ not_lost) kind

  theirs : HoldTheirStrips s st st.mark line (layout s line) row group (lost_columns now (layout s line).grid row) (holding now)
  theirs = record {
    data_held = λ col h l. kept_at col (slot_at Data line group) (omega arith) l refl;
    code_held = λ c h l. kept_at ((layout s line).grid.q + c) (slot_at Code line group) (omega arith) l refl;
    low_held = λ c h l low. kept_at ((layout s line).grid.q + c) (slot_at Low line group) (omega arith) l refl;
    open_held = λ c h l opened. kept_at ((layout s line).grid.q + c) (slot_at Open line 0) (omega arith) l refl;
  }

  are_mending : AreMending (layout s line) row (lost_columns now (layout s line).grid row) (holding now)
  are_mending = record { at = λ col h is_lost. mending st now (rank_at (layout s line).grid row col) healing.back (sym (lost-at now (layout s line).grid row col h) ∙ is_lost) }

  done : (g : ℕ → Holding) × RowDone s st now st.mark line (layout s line) refl row group (lost_columns now (layout s line).grid row) coefs of
      (λ from to. or_left (some_lost s now) _ healing.some) (committed s st line healing.sensible healing.known live) hr hg matrix
      (λ col closed. closed-block s st.mark line group col healing.sensible healing.known.mark closed) (lost-length now (layout s line).grid row)
      (λ which hw is_lost. given.decode which hw (sym (lost-at now (layout s line).grid row which (omega arith)) ∙ is_lost)) factor weights (holding now) g
  done = row-done s st now st.mark line (layout s line) refl row group (lost_columns now (layout s line).grid row) coefs of
      (λ from to. or_left (some_lost s now) _ healing.some) (committed s st line healing.sensible healing.known live) hr hg matrix
      (λ col closed. closed-block s st.mark line group col healing.sensible healing.known.mark closed) (lost-length now (layout s line).grid row)
      (λ which hw is_lost. given.decode which hw (sym (lost-at now (layout s line).grid row which (omega arith)) ∙ is_lost)) factor weights (holding now) theirs are_mending

  -- ---- the state after the round
  replays : Replays s now (λ r. true) (row_events s st now line row group coefs) done.0
  replays = turns_replay s now (λ r. true) (row_events s st now line row group coefs) done.0 healing.quiet done.1.turns

  pub round-legal : IsLegalFrom s now (records_of (row_events s st now line row group coefs))
  round-legal = replays.legal

  is_then : (r : ℕ) (slot : Slot) → r < ranks s → (replay s now (records_of (row_events s st now line row group coefs))).tiles r slot ≡ (done.0 r).tiles slot
  is_then r slot h = ap (λ z. z.tiles slot) (replays.turned r h refl)

  in_ranks : (col : ℕ) → col < width (layout s line).grid → rank_at (layout s line).grid row col < ranks s
  in_ranks col h = of.ranks (rank_at (layout s line).grid row col) (is_member-rank_at (layout s line).grid row col hr h)

  pub round-heals : IsRowHealed s st (replay s now (records_of (row_events s st now line row group coefs))) line row group
  round-heals = record {
    data_strips = λ col h. is_then (rank_at (layout s line).grid row col) (slot_at Data line group) (in_ranks col (omega arith)) ∙ done.1.data_strips col h;
    code_strips = λ c h. is_then (rank_at (layout s line).grid row ((layout s line).grid.q + c)) (slot_at Code line group) (in_ranks ((layout s line).grid.q + c) (omega arith)) ∙ done.1.code_strips c h;
    low_strips = λ c h low. is_then (rank_at (layout s line).grid row ((layout s line).grid.q + c)) (slot_at Low line group) (in_ranks ((layout s line).grid.q + c) (omega arith)) ∙ done.1.low_strips c h low;
    open_strips = λ c h opened. is_then (rank_at (layout s line).grid row ((layout s line).grid.q + c)) (slot_at Open line 0) (in_ranks ((layout s line).grid.q + c) (omega arith)) ∙ done.1.open_strips c h opened;
  }

  pub round-leaves : LeavesOthers s st now (replay s now (records_of (row_events s st now line row group coefs))) line row group
  round-leaves = record {
    other_ranks = λ r slot h no. is_then r slot h ∙ ap (λ z. z.tiles slot) (done.1.stay r (λ col lt is_lost. no col lt (sym (lost-at now (layout s line).grid row col lt) ∙ is_lost)));
    other_slots = λ r slot h a b c d e. is_then r slot h ∙ done.1.others r slot a b c d e;
    open_panel = λ r h shut. is_then r (slot_at Open line 0) h ∙ done.1.untouched r shut;
  }

  -- a rank that was not lost is not a lost rank of the row
  not_lost_there : (r : ℕ) → now.lost r ≡ false → (col : ℕ) → col < width (layout s line).grid → now.lost (rank_at (layout s line).grid row col) ≡ true → r ≡ rank_at (layout s line).grid row col → ⊥
  not_lost_there r live_r col h is_lost e = true≢false (sym is_lost ∙ ap now.lost (sym e) ∙ live_r)

  pub round-goes_on : IsHealing s st (replay s now (records_of (row_events s st now line row group coefs)))
  round-goes_on = record {
    sensible = healing.sensible;
    known = healing.known;
    back = no_commits s st now (row_events s st now line row group coefs) replays.legal healing.back;
    live = λ a. ap (λ l. l a) replays.live ∙ healing.live a;
    quiet = record { live = λ a h. ap (λ l. l a) replays.live ∙ healing.quiet.live a h; links = replays.links; some = healing.quiet.some };
    some = ap (λ l. some_below (ranks s) l) replays.lost ∙ healing.some;
    kept = λ a slot h live_a kind.
        (let live' : now.lost a ≡ false = sym (ap (λ l. l a) replays.lost) ∙ live_a in round-leaves.other_ranks a slot h (not_lost_there a live') ∙ healing.kept a slot h live' kind);
  }

-- a row in which no rank was lost needs no round
pub row-whole : (s : Setting) (st now : State) (line row group : ℕ) → IsHealing s st now → IsGridOf s (layout s line).grid → row < (layout s line).grid.p → ((col : ℕ) → col < width (layout s line).grid → now.lost (rank_at (layout s line).grid row col) ≡ false) → IsRowHealed s st now line row group
row-whole s st now line row group healing of hr alive =
    let g = (layout s line).grid in
    let same : (col : ℕ) (slot : Slot) → col < width g → same_kind slot.kind Work ≡ false → now.tiles (rank_at g row col) slot ≡ st.tiles (rank_at g row col) slot =
    λ col slot h kind. healing.kept (rank_at g row col) slot (of.ranks (rank_at g row col) (is_member-rank_at g row col hr h)) (alive col h) kind in
    record {
      data_strips = λ col h. same col (slot_at Data line group) (omega arith) refl;
      code_strips = λ c h. same (g.q + c) (slot_at Code line group) (omega arith) refl;
      low_strips = λ c h low. same (g.q + c) (slot_at Low line group) (omega arith) refl;
      open_strips = λ c h opened. same (g.q + c) (slot_at Open line 0) (omega arith) refl;
    }
