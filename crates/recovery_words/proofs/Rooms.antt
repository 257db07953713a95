-- A rank that holds a strip more than at the last commit holds no more than it may, and so it is in each state of a round whose events leave no tile larger
-- than it may be.
use Rattle.std.proofs.Common.{◌≡◌, ◌+◌, ◌*◌, ◌≤◌, ◌==◌, ◌&&◌, ◌||◌, nat_lt, ℕ, suc, zero, Bool, true, false, Option, None, List, [], ◌∷◌, take, refl, ap, ◌∙◌, arith, All}
use Rattle.std.specs.Prelude.{if◌then◌else◌, min}
use Rattle.std.proofs.lemmas.List.Elements.{All-nil, All-cons}
use Rattle.blacs_grid.specs.Places.{row_of, is_data_rank}
use Rattle.rank_run.specs.declared.round.Event.TheVariants.{Local, Move}
use Rattle.rank_machine.specs.declared.slot.Slot.{Slot}
use Rattle.rank_machine.specs.declared.slot.Tile.{Tile}
use Rattle.rank_machine.specs.declared.record.Rec.{Rec}
use Rattle.rank_machine.specs.declared.record.Rec.TheVariants as r
use Rattle.rank_machine.specs.Setting.{Setting, Job, grid_of_rank, layout, is_matrix, factored, group_count, strip_rows}
use Rattle.rank_machine.specs.State.{State}
use Rattle.rank_machine.specs.Effect.{after, replay, current, is_live_matrix, is_live_list}
use Rattle.rank_machine.specs.Held.{size_of, is_on, cells_of, tile_of_jobs, pivots_of_jobs}
use Rattle.rank_slots.specs.Stands.{records_of}
use Rattle.run_laws.specs.LastCommit.{is_inner, IsRest}
use Rattle.run_laws.specs.Traces.{AllHold, HoldFrom}
use Rattle.phases.specs.Words.{AddAtMost, AddThrough, HasRoom, live_cells, live_tile, live_lists}
use Rattle.phase_frames.specs.Touching.{RoundEvent, AllEvents, IsCapped, KeepsCap}
use Rattle.phase_frames.proofs.Capped.{adds_allowed, capped_through}
use Rattle.phase_words.specs.Resting.{IsMeasured}
use Rattle.phase_words.proofs.Resting.{HoldAtRest-rest}
use Rattle.phase_words.proofs.Holding.{HoldFrom-phase}
use Rattle.recovery_rounds.specs.Mending.{brought}
use Rattle.recovery_words.specs.Roomy.{room_in, IsRoomy}

-- ---- what a commit leaves has room for a strip on every rank
one_more : (live more on : Bool) (n : ℕ) → (if live && on then n else 0) ≤ (if (live || more) && on then n else 0)
one_more true more on n = omega arith
one_more false more on n = omega arith

one_tile : (live more : Bool) (n : ℕ) → (if live then n else 0) ≤ (if live || more then n else 0)
one_tile true more n = omega arith
one_tile false more n = omega arith

abbrev own_cells : Setting → ℕ → ℕ → ℕ
own_cells s rank line = let d = layout s line in (strip_rows d (row_of d.grid rank) * d.desc.nb) * group_count d

cells_fit : (s : Setting) (st : State) (rank : ℕ) (js : List Job) → live_cells s st.mark rank js ≤ cells_of s st rank js
cells_fit s st rank [] = omega arith
cells_fit s st rank (j ∷ js) = omega (arith, cells_fit s st rank js, one_more (is_live_matrix s st.mark j.line) (is_matrix s j.line && (j.line == current s st.mark)) (is_on (layout s j.line) rank) (own_cells s rank j.line))

tiles_fit : (s : Setting) (st : State) (js : List Job) → live_tile s st.mark js ≤ tile_of_jobs s st js
tiles_fit s st [] = omega arith
tiles_fit s st (j ∷ js) = omega (arith, tiles_fit s st js, one_tile (is_live_matrix s st.mark j.line) (is_matrix s j.line && (j.line == current s st.mark)) ((layout s j.line).desc.lld * (layout s j.line).desc.nb))

lists_fit : (s : Setting) (st : State) (rank : ℕ) (js : List Job) → live_lists s st.mark rank js ≤ pivots_of_jobs s st rank js
lists_fit s st rank [] = omega arith
lists_fit s st rank (j ∷ js) = omega (arith, lists_fit s st rank js, one_more (is_live_list s st.mark j.line) (nat_lt 0 (factored s j.line) && (j.line == current s st.mark)) (is_on (layout s j.factors) rank) (min (layout s j.factors).desc.m (layout s j.factors).desc.n))

fit_strip : (b : Bool) (a c t x y z : ℕ) → a ≤ x → c ≤ z → t ≤ y → ((if b then a else (2 * a + t)) + c) + t ≤ ((if b then x else 2 * x) + 8 * y) + 2 * z
fit_strip true a c t x y z h k l = omega (arith, h, k, l)
fit_strip false a c t x y z h k l = omega (arith, h, k, l)

pub room_for_strip : (s : Setting) (last : State) → HasRoom (λ _. live_tile s last.mark s.jobs) s last
room_for_strip s last rank lt =
    fit_strip (is_data_rank (grid_of_rank s rank) rank) (live_cells s last.mark rank s.jobs) (live_lists s last.mark rank s.jobs) (live_tile s last.mark s.jobs)
    (cells_of s last rank s.jobs) (tile_of_jobs s last s.jobs) (pivots_of_jobs s last rank s.jobs) (cells_fit s last rank s.jobs) (lists_fit s last rank s.jobs) (tiles_fit s last s.jobs)

-- ---- a state
abbrev none_saved : ℕ → Slot → Option Tile
none_saved rank slot = None

-- a state whose tiles have no more words than they may adds at most a strip
adds_strip : (s : Setting) (last now : State) → IsCapped (room_in s last) now.tiles → ((rank : ℕ) (slot : Slot) → now.saved rank slot ≡ None) → AddAtMost (λ _. live_tile s last.mark s.jobs) last now
adds_strip s last now fits saved rank slots distinct =
    let most = live_tile s last.mark s.jobs in
    let adds = adds_allowed last now (λ _. (brought, most) ∷ []) (λ a x. let none : size_of (now.saved a x) ≡ 0 = ap size_of (saved a x) in omega (arith, fits a x, none)) rank slots distinct in
    omega (arith, adds)

pub roomy-holds : (s : Setting) (last now : State) → IsMeasured s last → IsRest s last → now.mark ≡ last.mark → IsRoomy s last now → AllHold s now
roomy-holds s last now measured rest mark roomy =
    HoldFrom-phase s (λ _. live_tile s last.mark s.jobs) last now [] (HoldAtRest-rest s last rest measured) (room_for_strip s last) mark (All-nil (λ (y : Rec). is_inner y ≡ true)) (adds_strip s last now roomy.fits roomy.saved)

-- ---- a round
inner_records : (es : List RoundEvent) → All (λ x. is_inner x ≡ true) (records_of es)
inner_records [] = All-nil (λ (y : Rec). is_inner y ≡ true)
inner_records (Local rank k ∷ es) = All-cons (λ (y : Rec). is_inner y ≡ true) (r.Kernel rank k) (records_of es) refl (inner_records es)
inner_records (Move from to a b ∷ es) =
    All-cons (λ (y : Rec). is_inner y ≡ true) (r.Send from to a) (r.Recv to from b ∷ records_of es) refl (All-cons (λ (y : Rec). is_inner y ≡ true) (r.Recv to from b) (records_of es) refl (inner_records es))

saved_stays : (s : Setting) (now : State) (es : List RoundEvent) → (replay s now (records_of es)).saved ≡ now.saved
saved_stays s now [] = refl
saved_stays s now (Local rank k ∷ es) = saved_stays s (after s now (r.Kernel rank k)) es
saved_stays s now (Move from to a b ∷ es) = saved_stays s (after s (after s now (r.Send from to a)) (r.Recv to from b)) es

first_events : (P : RoundEvent → Type 0) (k : ℕ) (es : List RoundEvent) → AllEvents P es → AllEvents P (take k es)
first_events P zero es h = tt
first_events P (suc k) [] h = tt
first_events P (suc k) (e ∷ es) h = (h.0, first_events P k es h.1)

module _ (s : Setting) (last now : State) (roomy : IsRoomy s last now) (quiet : (from to : ℕ) → now.links from to ≡ []) where
  through : (es : List RoundEvent) → AllEvents (KeepsCap s (room_in s last)) es → AddThrough (λ _. live_tile s last.mark s.jobs) s last now (records_of es) × IsCapped (room_in s last) (replay s now (records_of es)).tiles
  through es keep =
      capped_through s (room_in s last) (λ _. live_tile s last.mark s.jobs) last none_saved
      (λ st fits saved. adds_strip s last st fits (λ rank slot. ap (λ f. f rank slot) saved))
      now es keep roomy.fits (λ i rank slot. roomy.saved rank slot i) quiet

  pub round-roomy : (es : List RoundEvent) → AllEvents (KeepsCap s (room_in s last)) es → IsRoomy s last (replay s now (records_of es))
  round-roomy es keep = record { fits = (through es keep).1; saved = λ rank slot. ap (λ f. f rank slot) (saved_stays s now es) ∙ roomy.saved rank slot }

  pub round-stays_roomy : (es : List RoundEvent) → AllEvents (KeepsCap s (room_in s last)) es → (k : ℕ) → IsRoomy s last (replay s now (records_of (take k es)))
  round-stays_roomy es keep k = round-roomy (take k es) (first_events (KeepsCap s (room_in s last)) k es keep)

  pub round-holds : (es : List RoundEvent) → AllEvents (KeepsCap s (room_in s last)) es → IsMeasured s last → IsRest s last → now.mark ≡ last.mark → HoldFrom s now (records_of es)
  round-holds es keep measured rest mark =
      HoldFrom-phase s (λ _. live_tile s last.mark s.jobs) last now (records_of es) (HoldAtRest-rest s last rest measured) (room_for_strip s last) mark (inner_records es) (through es keep).0
