-- What a feeding phase asks before it begins: nothing is saved, and a matrix that is being fed has room.
use Rattle.std.specs.Prelude.{◌≡◌, ◌+◌, ◌*◌, ◌≤◌, ◌<◌, ◌^◌, ◌&&◌, ◌==◌, not, ℕ, Bool, true, false, List, [], ◌∷◌, length, if◌then◌else◌, refl, IsTrue}
use Rattle.std.proofs.Common.{arith, subst, sym, ap, ◌∙◌, ⊎_elim}
use Rattle.std.proofs.lemmas.Bool.{cases_Bool, and_parts, and_from, or_cases, or_right, eqb-true, eq-eqb, true≢false, true_from_ne_false}
use Rattle.std.proofs.lemmas.Nat.{mul-le}
use Rattle.array_desc.proofs.CountLaws.{numroc-most}
use Rattle.blacs_grid.specs.Places.{row_of, is_member, is_data_rank, is_code_rank}
use Rattle.blacs_grid.proofs.PlaceLaws.{width-pos, row_of-lt, is_data_rank-member}
use Rattle.rank_machine.specs.declared.layout.Layout.{Layout}
use Rattle.rank_machine.specs.Setting.{Setting, Job, grid_of_rank, layout, group_count, strip_rows, is_matrix}
use Rattle.rank_machine.specs.State.{State, end_mark}
use Rattle.rank_machine.specs.Effect.{is_live_matrix, is_dropped, has_ended, current}
use Rattle.rank_machine.specs.Held.{is_on, cells_of, tile_of_jobs, pivots_of_jobs, counts_matrix, most_words}
use Rattle.rank_machine.specs.Legal.{IsLegalFrom}
use Rattle.rank_machine.specs.Marks.{follows}
use Rattle.phases.specs.Plans.{CanStart, saves}
use Rattle.phases.specs.Words.{AddThrough, HasRoom, live_cells, live_tile, live_lists, at_rest}
use Rattle.run_laws.specs.NextMark.{has_line}
use Rattle.run_laws.proofs.Marks.{job_of_matrix, line_is, goes_on}
use Rattle.phase_words.proofs.Rooms.{one_more, own_cells, cells_fit, tiles_fit, tile_there, lists_fit}
use Rattle.feed_laws.specs.Feeding.{FeedTask, MayFeed, feed_plan, feed_words, strip_words}

abbrev live_of : Setting → State → ℕ → ℕ → ℕ
live_of s st rank line = if is_live_matrix s st.mark line && is_on (layout s line) rank then own_cells s rank line else 0

abbrev count_of : Setting → State → ℕ → ℕ → ℕ
count_of s st rank line = if counts_matrix s st line && is_on (layout s line) rank then own_cells s rank line else 0

-- with the cells of a matrix that counts, and is not live
cells_more : (s : Setting) (st : State) (rank line : ℕ) (js : List Job) → has_line js line ≡ true → is_live_matrix s st.mark line ≡ false → counts_matrix s st line ≡ true → is_on (layout s line) rank ≡ true
    → live_cells s st.mark rank js + own_cells s rank line ≤ cells_of s st rank js
cells_more s st rank line [] there dead counts on = absurd (true≢false (sym there))
cells_more s st rank line (j ∷ js) there dead counts on =
    ⊎_elim
    (λ (e : (j.line == line) ≡ true).
    let is = eqb-true j.line line e in
    let none : live_of s st rank j.line ≡ 0 = ap (live_of s st rank) is ∙ ap (λ b. if b && is_on (layout s line) rank then own_cells s rank line else 0) dead in
    let some : count_of s st rank j.line ≡ own_cells s rank line = ap (count_of s st rank) is ∙ ap (λ b. if b then own_cells s rank line else 0) (and_from (counts_matrix s st line) (is_on (layout s line) rank) counts on) in
    omega (arith, none, some, cells_fit s st rank js))
    (λ (e : has_line js line ≡ true).
    let here : live_of s st rank j.line ≤ count_of s st rank j.line = one_more (is_live_matrix s st.mark j.line) (is_matrix s j.line && (j.line == current s st.mark)) (is_on (layout s j.line) rank) (own_cells s rank j.line) in
    omega (arith, here, cells_more s st rank line js e dead counts on))
    (or_cases (j.line == line) (has_line js line) there)

fit_data : (b : Bool) (a c t own x y z : ℕ) → b ≡ true → a + own ≤ x → c ≤ z → ((if b then a else (2 * a + t)) + c) + own ≤ ((if b then x else 2 * x) + 8 * y) + 2 * z
fit_data true a c t own x y z e h k = omega (arith, h, k)
fit_data false a c t own x y z e h k = absurd (true≢false (sym e))

fit_code : (b : Bool) (a c t own one x y z : ℕ) → a + own ≤ x → c ≤ z → t ≤ y → one ≤ y → ((if b then a else (2 * a + t)) + c) + (own + one) ≤ ((if b then x else 2 * x) + 8 * y) + 2 * z
fit_code true a c t own one x y z h k l m = omega (arith, h, k, l, m)
fit_code false a c t own one x y z h k l m = omega (arith, h, k, l, m)

fit_rest : (b : Bool) (a c t x y z : ℕ) → a ≤ x → c ≤ z → t ≤ y → ((if b then a else (2 * a + t)) + c) + 0 ≤ ((if b then x else 2 * x) + 8 * y) + 2 * z
fit_rest true a c t x y z h k l = omega (arith, h, k, l)
fit_rest false a c t x y z h k l = omega (arith, h, k, l)

module _ (s : Setting) (base : State) (t : FeedTask) (h : MayFeed s base t) where
  -- the line is current and its matrix not live
  pub is_current : t.line ≡ current s base.mark
  is_current = line_is s base.mark (end_mark t.line) h.rising h.follows_last

  pub not_live : is_live_matrix s base.mark t.line ≡ false
  not_live = let on = goes_on s base.mark (end_mark t.line) h.rising h.follows_last in ap (λ b. (b && has_ended base.mark t.line) && not (is_dropped s base.mark t.line)) h.matrix ∙ ap (λ b. b && not (is_dropped s base.mark t.line)) on

  counts : counts_matrix s base t.line ≡ true
  counts = or_right (is_live_matrix s base.mark t.line) (is_matrix s t.line && (t.line == current s base.mark)) (and_from (is_matrix s t.line) (t.line == current s base.mark) h.matrix (true_from_ne_false (t.line == current s base.mark) (λ e. true≢false (sym (ap (λ n. t.line == n) (sym is_current) ∙ itself t.line) ∙ e))))
    where
      itself : (n : ℕ) → (n == n) ≡ true
      itself n = eq-eqb n n refl

  there : has_line s.jobs t.line ≡ true
  there = job_of_matrix s t.line h.matrix

  on_grid : (rank : ℕ) → is_member t.layout.grid rank ≡ true → is_on (layout s t.line) rank ≡ true
  on_grid rank m = ap (λ (d : Layout). is_member d.grid rank) h.lies ∙ m

  own_is : (rank : ℕ) → own_cells s rank t.line ≡ strip_words t.layout rank * group_count t.layout
  own_is rank = ap (λ (d : Layout). (strip_rows d (row_of d.grid rank) * d.desc.nb) * group_count d) h.lies

  with_own : (rank : ℕ) → is_member t.layout.grid rank ≡ true → live_cells s base.mark rank s.jobs + strip_words t.layout rank * group_count t.layout ≤ cells_of s base rank s.jobs
  with_own rank m = subst (λ n. live_cells s base.mark rank s.jobs + n ≤ cells_of s base rank s.jobs) (own_is rank) (cells_more s base rank t.line s.jobs there not_live counts (on_grid rank m))

  strip_fits : (rank : ℕ) → is_member t.layout.grid rank ≡ true → strip_words t.layout rank ≤ tile_of_jobs s base s.jobs
  strip_fits rank m =
      let d = t.layout in
      let row = row_of d.grid rank in
      let lt = row_of-lt d.grid rank (width-pos d.grid h.feedable.laid_out.grid) m in
      let rows = numroc-most d.desc.m d.desc.mb row d.grid.p d.desc.rsrc lt in
      let low : strip_rows d row ≤ d.desc.lld = subst (λ n. strip_rows d row ≤ n) (sym h.feedable.laid_out.desc.local_rows) rows in
      let one : strip_rows d row * d.desc.nb ≤ d.desc.lld * d.desc.nb = mul-le (strip_rows d row) d.desc.nb d.desc.lld d.desc.nb low (omega arith) in
      let all : d.desc.lld * d.desc.nb ≤ tile_of_jobs s base s.jobs = subst (λ (x : Layout). x.desc.lld * x.desc.nb ≤ tile_of_jobs s base s.jobs) h.lies (tile_there s base t.line s.jobs there counts) in
      omega (arith, one, all)

  pub room : HasRoom (feed_words t.layout) s base
  room rank lt =
      let d = t.layout in
      let lists = lists_fit s base rank s.jobs in
      let tiles = tiles_fit s base s.jobs in
      ⊎_elim
      (λ (e : is_data_rank d.grid rank ≡ true).
      let m = is_data_rank-member d.grid rank e in
      let on_data : is_data_rank (grid_of_rank s rank) rank ≡ true = ap (λ g. is_data_rank g rank) (h.of.own rank m) ∙ e in
      let words : feed_words d rank ≡ strip_words d rank * group_count d = ap (λ b. if b then strip_words d rank * group_count d else (if is_code_rank d.grid rank then strip_words d rank * group_count d + strip_words d rank else 0)) e in
      let fit = fit_data (is_data_rank (grid_of_rank s rank) rank) (live_cells s base.mark rank s.jobs) (live_lists s base.mark rank s.jobs) (live_tile s base.mark s.jobs) (strip_words d rank * group_count d)
      (cells_of s base rank s.jobs) (tile_of_jobs s base s.jobs) (pivots_of_jobs s base rank s.jobs) on_data (with_own rank m) lists in
      subst (λ n. at_rest s base.mark rank + n ≤ most_words s base rank) (sym words) fit)
      (λ (e : is_data_rank d.grid rank ≡ false).
      ⊎_elim
      (λ (u : is_code_rank d.grid rank ≡ true).
      let m = (and_parts (is_member d.grid rank) _ u).0 in
      let words : feed_words d rank ≡ strip_words d rank * group_count d + strip_words d rank =
      ap (λ b. if b then strip_words d rank * group_count d else (if is_code_rank d.grid rank then strip_words d rank * group_count d + strip_words d rank else 0)) e ∙ ap (λ b. if b then strip_words d rank * group_count d + strip_words d rank else 0) u in
      let fit = fit_code (is_data_rank (grid_of_rank s rank) rank) (live_cells s base.mark rank s.jobs) (live_lists s base.mark rank s.jobs) (live_tile s base.mark s.jobs) (strip_words d rank * group_count d) (strip_words d rank)
      (cells_of s base rank s.jobs) (tile_of_jobs s base s.jobs) (pivots_of_jobs s base rank s.jobs) (with_own rank m) lists tiles (strip_fits rank m) in
      subst (λ n. at_rest s base.mark rank + n ≤ most_words s base rank) (sym words) fit)
      (λ (u : is_code_rank d.grid rank ≡ false).
      let words : feed_words d rank ≡ 0 =
      ap (λ b. if b then strip_words d rank * group_count d else (if is_code_rank d.grid rank then strip_words d rank * group_count d + strip_words d rank else 0)) e ∙ ap (λ b. if b then strip_words d rank * group_count d + strip_words d rank else 0) u in
      let fit = fit_rest (is_data_rank (grid_of_rank s rank) rank) (live_cells s base.mark rank s.jobs) (live_lists s base.mark rank s.jobs) (live_tile s base.mark s.jobs)
      (cells_of s base rank s.jobs) (tile_of_jobs s base s.jobs) (pivots_of_jobs s base rank s.jobs) (cells_fit s base rank s.jobs) lists tiles in
      subst (λ n. at_rest s base.mark rank + n ≤ most_words s base rank) (sym words) fit)
      (cases_Bool (is_code_rank d.grid rank)))
      (cases_Bool (is_data_rank d.grid rank))

pub feed_can_save : (x : FeedTask) (s : Setting) (base : State) → CanStart (feed_plan x) s base → IsLegalFrom s base (saves (feed_plan x).listed)
feed_can_save x s base h = tt

pub feed_few_saved : (x : FeedTask) (s : Setting) (base : State) → CanStart (feed_plan x) s base → length (feed_plan x).listed < 2 ^ 32
feed_few_saved x s base h = omega arith

pub feed_follows : (x : FeedTask) (s : Setting) (base : State) → CanStart (feed_plan x) s base → IsTrue (follows s base.mark (feed_plan x).mark)
feed_follows x s base h = h.may.follows_last

pub feed_some_next : (x : FeedTask) (s : Setting) (base : State) → CanStart (feed_plan x) s base → 0 < (feed_plan x).most_nexts
feed_some_next x s base h = omega arith

pub feed_enough : (x : FeedTask) (s : Setting) (base : State) → CanStart (feed_plan x) s base → length (feed_plan x).listed + 1 ≤ (feed_plan x).most_records
feed_enough x s base h = omega arith

pub feed_saves_fit : (x : FeedTask) (s : Setting) (base : State) → CanStart (feed_plan x) s base → AddThrough (feed_plan x).most_words s base base (saves (feed_plan x).listed)
feed_saves_fit x s base h rank slots distinct = omega arith

pub feed_has_room : (x : FeedTask) (s : Setting) (base : State) → CanStart (feed_plan x) s base → HasRoom (feed_plan x).most_words s base
feed_has_room x s base h = room s base x h.may
