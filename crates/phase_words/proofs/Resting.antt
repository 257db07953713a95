-- A state at rest holds no more words than a commit leaves at most.
use Rattle.std.proofs.Common.{◌≡◌, ◌+◌, ◌-◌, ◌*◌, ◌<◌, ◌≤◌, ◌==◌, ◌&&◌, nat_lt, nat_le, ℕ, Bool, true, false, Option, Some, None, List, [], ◌∷◌, ◌++◌, length, refl, sym, ap, subst, ◌∙◌, ⊎_elim, arith}
use Rattle.std.specs.Prelude.{if◌then◌else◌, min}
use Rattle.std.proofs.lemmas.Bool.{cases_Bool, and_parts, and_from, or_left, or_right, or_cases, eqb-true, eq-eqb, ltb-true, leb-true, true≢false, false_from_ne_true}
use Rattle.std.proofs.lemmas.Nat.{mul-le}
use Rattle.array_desc.proofs.CountLaws.{numroc-most}
use Rattle.run_data.specs.Matrix.{cols}
use Rattle.blacs_grid.specs.Places.{row_of, col_of, rank_at, is_member, is_data_rank, is_code_rank}
use Rattle.blacs_grid.proofs.PlaceLaws.{width-pos, is_member-begins, is_member-ends, row_of-lt, col_of-lt, rank_at-coords, not_data_and_code, is_data_rank-member, is_data_rank-col}
use Rattle.rank_machine.specs.declared.slot.Slot.{Slot}
use Rattle.rank_machine.specs.declared.slot.SlotKind.{SlotKind}
use Rattle.rank_machine.specs.declared.slot.SlotKind.TheVariants.{Data, Code, Low, Open, Pivots, Work}
use Rattle.rank_machine.specs.declared.slot.Tile.{Tile}
use Rattle.rank_machine.specs.declared.slot.Tile.TheVariants.{Words, Index}
use Rattle.rank_machine.specs.declared.mark.Mark.{Mark}
use Rattle.rank_machine.specs.declared.layout.Layout.{Layout}
use Rattle.rank_machine.specs.Setting.{Setting, Job, grid_of_rank, job_in, layout, is_matrix, factored, group_count, strip_rows}
use Rattle.rank_machine.specs.State.{State, same_slot}
use Rattle.rank_machine.specs.Effect.{is_live, is_live_kind, is_live_matrix, is_live_list, has_ended, factoring}
use Rattle.rank_machine.specs.CodeLaw.{slot_at, is_strip_of, pivots_of}
use Rattle.rank_machine.specs.Held.{size_of, words_in, is_on}
use Rattle.rank_slots.proofs.CellLaws.{same_slot-refl}
use Rattle.run_laws.specs.LastCommit.{IsRest}
use Rattle.run_laws.specs.NextMark.{has_line, is_factored_under}
use Rattle.run_laws.proofs.Marks.{job_of_matrix}
use Rattle.phases.specs.Words.{live_cells, live_tile, live_lists, at_rest}
use Rattle.phase_frames.specs.Touching.{allowed, total}
use Rattle.phase_frames.proofs.Capped.{adds_allowed}
use Rattle.phase_frames.proofs.SlotSums.{each_slot, total_each, allowed_each, total-append, allowed-append}
use Rattle.phase_words.specs.Resting.{HoldAtRest, IsMeasured}

-- ---- sums under a condition
if_both : (here : Bool) (a b : ℕ) → (if here then a + b else 2 * (a + b)) ≡ (if here then a else 2 * a) + (if here then b else 2 * b)
if_both true a b = refl
if_both false a b = omega arith

if_rest : (here : Bool) (c t l : ℕ) → (if here then 0 else t) + ((if here then c else 2 * c) + l) ≡ (if here then c else (2 * c + t)) + l
if_rest true c t l = omega arith
if_rest false c t l = omega arith

matrix_total : (live here : Bool) (line words n : ℕ) → total (if live then (if here then each_slot Data line words n else each_slot Code line words n ++ each_slot Low line words n) else [])
    ≡ (if here then (if live then words * n else 0) else 2 * (if live then words * n else 0))
matrix_total true true line words n = total_each Data line words n
matrix_total true false line words n = omega (arith, total-append (each_slot Code line words n) (each_slot Low line words n), total_each Code line words n, total_each Low line words n)
matrix_total false true line words n = refl
matrix_total false false line words n = omega arith

list_total : (live : Bool) (slot : Slot) (n : ℕ) → total (if live then (slot, n) ∷ [] else []) ≡ (if live then n else 0)
list_total true slot n = omega arith
list_total false slot n = refl

open_total : (here : Bool) (slot : Slot) (n : ℕ) → total (if here then [] else (slot, n) ∷ []) ≡ (if here then 0 else n)
open_total true slot n = refl
open_total false slot n = omega arith

one_allowed : (slot : Slot) (n : ℕ) → n ≤ allowed ((slot, n) ∷ []) slot
one_allowed slot n = let a : (if same_slot slot slot then n else 0) ≡ n = ap (λ b. if b then n else 0) (same_slot-refl slot) in omega (arith, a)

-- ---- sizes
pub strip_size : (d : Layout) (row : ℕ) (t : Option Tile) → is_strip_of d row t ≡ true → size_of t ≡ strip_rows d row * d.desc.nb
strip_size d row None h = absurd (true≢false (sym h))
strip_size d row (Some (Index ns)) h = absurd (true≢false (sym h))
strip_size d row (Some (Words m)) h =
    let z = and_parts (m.rows == strip_rows d row) (cols m == d.desc.nb) h in
    let a = eqb-true m.rows (strip_rows d row) z.0 in
    let b = eqb-true (cols m) d.desc.nb z.1 in
    λ i. a i * b i

-- ---- the slots that a commit leaves on a rank, each with its words
module _ (s : Setting) (mark : Mark) (rank : ℕ) where
  abbrev on_data : Bool
  on_data = is_data_rank (grid_of_rank s rank) rank

  abbrev words_at : ℕ → ℕ
  words_at line = strip_rows (layout s line) (row_of (layout s line).grid rank) * (layout s line).desc.nb

  abbrev counts_at : ℕ → Bool
  counts_at line = is_live_matrix s mark line && is_on (layout s line) rank

  abbrev matrix_slots : ℕ → List (Slot × ℕ)
  matrix_slots line = if counts_at line then (if on_data then each_slot Data line (words_at line) (group_count (layout s line)) else each_slot Code line (words_at line) (group_count (layout s line)) ++ each_slot Low line (words_at line) (group_count (layout s line))) else []

  abbrev list_slots : ℕ → ℕ → List (Slot × ℕ)
  list_slots line what = if is_live_list s mark line && is_on (layout s what) rank then (slot_at Pivots line 0, min (layout s what).desc.m (layout s what).desc.n) ∷ [] else []

  abbrev job_slots : List Job → List (Slot × ℕ)
  job_slots [] = []
  job_slots (j ∷ js) = matrix_slots j.line ++ (list_slots j.line j.factors ++ job_slots js)

  abbrev open_slots : List (Slot × ℕ)
  open_slots = if on_data then [] else (slot_at Open (factoring s mark) 0, live_tile s mark s.jobs) ∷ []

  abbrev rest_slots : List (Slot × ℕ)
  rest_slots = open_slots ++ job_slots s.jobs

  jobs_total : (js : List Job) → total (job_slots js) ≡ (if on_data then live_cells s mark rank js else 2 * live_cells s mark rank js) + live_lists s mark rank js
  jobs_total [] = let a : (if on_data then 0 else 2 * 0) ≡ 0 = none on_data in omega (arith, a)
    where
      none : (here : Bool) → (if here then 0 else 2 * 0) ≡ 0
      none true = refl
      none false = refl
  jobs_total (j ∷ js) =
      let cells : ℕ = if counts_at j.line then words_at j.line * group_count (layout s j.line) else 0 in
      let a = total-append (matrix_slots j.line) (list_slots j.line j.factors ++ job_slots js) in
      let b = total-append (list_slots j.line j.factors) (job_slots js) in
      let c = matrix_total (counts_at j.line) on_data j.line (words_at j.line) (group_count (layout s j.line)) in
      let d = list_total (is_live_list s mark j.line && is_on (layout s j.factors) rank) (slot_at Pivots j.line 0) (min (layout s j.factors).desc.m (layout s j.factors).desc.n) in
      let e = if_both on_data cells (live_cells s mark rank js) in
      omega (arith, a, b, c, d, e, jobs_total js)

  pub total-rest : total rest_slots ≡ at_rest s mark rank
  total-rest =
      let a = total-append open_slots (job_slots s.jobs) in
      let b = open_total on_data (slot_at Open (factoring s mark) 0) (live_tile s mark s.jobs) in
      let c = if_rest on_data (live_cells s mark rank s.jobs) (live_tile s mark s.jobs) (live_lists s mark rank s.jobs) in
      omega (arith, a, b, c, jobs_total s.jobs)

  -- ---- what is allowed in one of them
  in_matrix : (js : List Job) (line n : ℕ) (x : Slot) → has_line js line ≡ true → n ≤ allowed (matrix_slots line) x → n ≤ allowed (job_slots js) x
  in_matrix [] line n x e h = absurd (true≢false (sym e))
  in_matrix (j ∷ js) line n x e h =
      let a = allowed-append (matrix_slots j.line) (list_slots j.line j.factors ++ job_slots js) x in
      let b = allowed-append (list_slots j.line j.factors) (job_slots js) x in
      ⊎_elim
      (λ (first : (j.line == line) ≡ true). let k = subst (λ l. n ≤ allowed (matrix_slots l) x) (sym (eqb-true j.line line first)) h in omega (arith, a, k))
      (λ (more : has_line js line ≡ true). let k = in_matrix js line n x more h in omega (arith, a, b, k))
      (or_cases (j.line == line) (has_line js line) e)

  in_list : (js : List Job) (line n : ℕ) (x : Slot) → has_line js line ≡ true → n ≤ allowed (list_slots line (job_in js line).factors) x → n ≤ allowed (job_slots js) x
  in_list [] line n x e h = absurd (true≢false (sym e))
  in_list (j ∷ js) line n x e h =
      let a = allowed-append (matrix_slots j.line) (list_slots j.line j.factors ++ job_slots js) x in
      let b = allowed-append (list_slots j.line j.factors) (job_slots js) x in
      ⊎_elim
      (λ (first : (j.line == line) ≡ true).
      let is = eqb-true j.line line first in
      let k = subst (λ l. n ≤ allowed (list_slots l j.factors) x) (sym is) (subst (λ v. n ≤ allowed (list_slots line (if v then j else job_in js line).factors) x) first h) in
      omega (arith, a, b, k))
      (λ (other : (j.line == line) ≡ false).
      let there : has_line js line ≡ true = ⊎_elim (λ (t : (j.line == line) ≡ true). absurd (true≢false (sym t ∙ other))) (λ (m : has_line js line ≡ true). m) (or_cases (j.line == line) (has_line js line) e) in
      let k = in_list js line n x there (subst (λ v. n ≤ allowed (list_slots line (if v then j else job_in js line).factors) x) other h) in
      omega (arith, a, b, k))
      (cases_Bool (j.line == line))

  of_jobs : (n : ℕ) (x : Slot) → n ≤ allowed (job_slots s.jobs) x → n ≤ allowed rest_slots x
  of_jobs n x h = let a = allowed-append open_slots (job_slots s.jobs) x in omega (arith, a, h)

-- ---- what a state at rest holds in a slot
module _ (s : Setting) (st : State) (rest : IsRest s st) (b : IsMeasured s st) (rank : ℕ) where
  abbrev fits : Slot → Type 0
  fits x = size_of (st.tiles rank x) ≤ allowed (rest_slots s st.mark rank) x

  module _ (line : ℕ) (live : is_live_matrix s st.mark line ≡ true) where
    abbrev d : Layout
    d = layout s line

    matrix : is_matrix s line ≡ true
    matrix = (and_parts (is_matrix s line) (has_ended st.mark line) (and_parts (is_matrix s line && has_ended st.mark line) _ live).0).0

    abbrev w : ℕ
    w = words_at s st.mark rank line

    counts : is_member d.grid rank ≡ true → counts_at s st.mark rank line ≡ true
    counts m = and_from (is_live_matrix s st.mark line) (is_on d rank) live m

    row_in : is_member d.grid rank ≡ true → row_of d.grid rank < d.grid.p
    row_in m = row_of-lt d.grid rank (width-pos d.grid (b.laid_out line matrix).grid) m

    -- a data rank of the matrix's grid
    module _ (on : is_data_rank d.grid rank ≡ true) where
      member : is_member d.grid rank ≡ true
      member = is_data_rank-member d.grid rank on

      is_data : on_data s st.mark rank ≡ true
      is_data = ap (λ g. is_data_rank g rank) (b.own_grid line rank matrix member) ∙ on

      slots : matrix_slots s st.mark rank line ≡ each_slot Data line w (group_count d)
      slots =
          ap (λ v. if v then (if on_data s st.mark rank then each_slot Data line w (group_count d) else each_slot Code line w (group_count d) ++ each_slot Low line w (group_count d)) else []) (counts member)
          ∙ ap (λ v. if v then each_slot Data line w (group_count d) else each_slot Code line w (group_count d) ++ each_slot Low line w (group_count d)) is_data

      data_fits : (group : ℕ) → group < group_count d → fits (slot_at Data line group)
      data_fits group lt =
          let x = slot_at Data line group in
          let place = rank_at-coords d.grid rank member in
          let shape = subst (λ a. is_strip_of d (row_of d.grid rank) (st.tiles a x) ≡ true) place ((rest.law.matrices line live).data_strips (row_of d.grid rank) group (col_of d.grid rank) (row_in member) lt (is_data_rank-col d.grid rank on)) in
          let size = strip_size d (row_of d.grid rank) (st.tiles rank x) shape in
          let one = allowed_each Data line w (group_count d) x refl (eq-eqb line line refl) lt in
          let here : w ≤ allowed (matrix_slots s st.mark rank line) x = subst (λ l. w ≤ allowed l x) (sym slots) one in
          let all = of_jobs s st.mark rank w x (in_matrix s st.mark rank s.jobs line w x (job_of_matrix s line matrix) here) in
          omega (arith, size, all)

    -- a code rank of it
    module _ (on : is_code_rank d.grid rank ≡ true) where
      code_member : is_member d.grid rank ≡ true
      code_member = (and_parts (is_member d.grid rank) (nat_le d.grid.q (col_of d.grid rank)) on).0

      past : d.grid.q ≤ col_of d.grid rank
      past = leb-true d.grid.q (col_of d.grid rank) (and_parts (is_member d.grid rank) (nat_le d.grid.q (col_of d.grid rank)) on).1

      abbrev c : ℕ
      c = col_of d.grid rank - d.grid.q

      c_in : c < d.grid.f
      c_in = let wide = col_of-lt d.grid rank (width-pos d.grid (b.laid_out line matrix).grid) in omega (arith, wide, past)

      place : rank_at d.grid (row_of d.grid rank) (d.grid.q + c) ≡ rank
      place = ap (rank_at d.grid (row_of d.grid rank)) (let e : d.grid.q + c ≡ col_of d.grid rank = omega (arith, past) in e) ∙ rank_at-coords d.grid rank code_member

      is_code : on_data s st.mark rank ≡ false
      is_code = ap (λ g. is_data_rank g rank) (b.own_grid line rank matrix code_member) ∙ false_from_ne_true (is_data_rank d.grid rank) (λ e. not_data_and_code d.grid rank e on)

      code_slots : matrix_slots s st.mark rank line ≡ each_slot Code line w (group_count d) ++ each_slot Low line w (group_count d)
      code_slots =
          ap (λ v. if v then (if on_data s st.mark rank then each_slot Data line w (group_count d) else each_slot Code line w (group_count d) ++ each_slot Low line w (group_count d)) else []) (counts code_member)
          ∙ ap (λ v. if v then each_slot Data line w (group_count d) else each_slot Code line w (group_count d) ++ each_slot Low line w (group_count d)) is_code

      of_slots : (x : Slot) → size_of (st.tiles rank x) ≡ w → w ≤ allowed (each_slot Code line w (group_count d)) x + allowed (each_slot Low line w (group_count d)) x → fits x
      of_slots x size one =
          let both = allowed-append (each_slot Code line w (group_count d)) (each_slot Low line w (group_count d)) x in
          let here : w ≤ allowed (matrix_slots s st.mark rank line) x = subst (λ l. w ≤ allowed l x) (sym code_slots) (omega (arith, both, one)) in
          let all = of_jobs s st.mark rank w x (in_matrix s st.mark rank s.jobs line w x (job_of_matrix s line matrix) here) in
          omega (arith, size, all)

      code_fits : (group : ℕ) → group < group_count d → fits (slot_at Code line group)
      code_fits group lt =
          let x = slot_at Code line group in
          let shape = subst (λ a. is_strip_of d (row_of d.grid rank) (st.tiles a x) ≡ true) place ((rest.law.matrices line live).code_strips (row_of d.grid rank) group c (row_in code_member) lt c_in) in
          let one = allowed_each Code line w (group_count d) x refl (eq-eqb line line refl) lt in
          of_slots x (strip_size d (row_of d.grid rank) (st.tiles rank x) shape) (omega (arith, one))

      low_fits : (group : ℕ) → group < group_count d → (is_factored_under s st.mark line && nat_le st.mark.merged group) ≡ true → fits (slot_at Low line group)
      low_fits group lt low =
          let x = slot_at Low line group in
          let shape = subst (λ a. is_strip_of d (row_of d.grid rank) (st.tiles a x) ≡ true) place ((rest.law.matrices line live).low_strips (row_of d.grid rank) group c (row_in code_member) lt c_in low) in
          let one = allowed_each Low line w (group_count d) x refl (eq-eqb line line refl) lt in
          of_slots x (strip_size d (row_of d.grid rank) (st.tiles rank x) shape) (omega (arith, one))

      -- the open panel's strip is no larger than the largest strip
      wide_enough : w ≤ d.desc.lld * d.desc.nb
      wide_enough =
          let laid = b.laid_out line matrix in
          let rows = numroc-most d.desc.m d.desc.mb (row_of d.grid rank) d.grid.p d.desc.rsrc (row_in code_member) in
          let low : strip_rows d (row_of d.grid rank) ≤ d.desc.lld = subst (λ n. strip_rows d (row_of d.grid rank) ≤ n) (sym laid.desc.local_rows) rows in
          mul-le (strip_rows d (row_of d.grid rank)) d.desc.nb d.desc.lld d.desc.nb low (omega arith)

      tile_there : (js : List Job) → has_line js line ≡ true → d.desc.lld * d.desc.nb ≤ live_tile s st.mark js
      tile_there [] there = absurd (true≢false (sym there))
      tile_there (j ∷ js) there =
          ⊎_elim
          (λ (e : (j.line == line) ≡ true).
          let some : (if is_live_matrix s st.mark j.line then (layout s j.line).desc.lld * (layout s j.line).desc.nb else 0) ≡ d.desc.lld * d.desc.nb =
          ap (λ l. if is_live_matrix s st.mark l then (layout s l).desc.lld * (layout s l).desc.nb else 0) (eqb-true j.line line e) ∙ ap (λ v. if v then d.desc.lld * d.desc.nb else 0) live in
          omega (arith, some))
          (λ (e : has_line js line ≡ true). omega (arith, tile_there js e))
          (or_cases (j.line == line) (has_line js line) there)

      open_fits : (is_factored_under s st.mark line && st.mark.opened) ≡ true → fits (slot_at Open line 0)
      open_fits opens =
          let x = slot_at Open line 0 in
          let most = live_tile s st.mark s.jobs in
          let factor = factoring s st.mark in
          let is : factor ≡ line = eqb-true factor line (and_parts (nat_lt 0 line) (factor == line) (and_parts (is_factored_under s st.mark line) st.mark.opened opens).0).1 in
          let shape = subst (λ a. is_strip_of d (row_of d.grid rank) (st.tiles a x) ≡ true) place ((rest.law.matrices line live).open_strips (row_of d.grid rank) c (row_in code_member) c_in opens) in
          let size = strip_size d (row_of d.grid rank) (st.tiles rank x) shape in
          let one = subst (λ l. most ≤ allowed ((slot_at Open factor 0, most) ∷ []) (slot_at Open l 0)) is (one_allowed (slot_at Open factor 0) most) in
          let slots : open_slots s st.mark rank ≡ (slot_at Open factor 0, most) ∷ [] = ap (λ v. if v then [] else (slot_at Open factor 0, most) ∷ []) is_code in
          let here : most ≤ allowed (open_slots s st.mark rank) x = subst (λ l. most ≤ allowed l x) (sym slots) one in
          let all = allowed-append (open_slots s st.mark rank) (job_slots s st.mark rank s.jobs) x in
          omega (arith, size, wide_enough, tile_there s.jobs (job_of_matrix s line matrix), here, all)

  -- a matrix that is being factored is live
  factored_live : (line : ℕ) → is_factored_under s st.mark line ≡ true → is_live_matrix s st.mark line ≡ true
  factored_live line h =
      let z = and_parts (nat_lt 0 line) (factoring s st.mark == line) h in
      let some : 0 < line = ltb-true 0 line z.0 in
      let is : factoring s st.mark ≡ line = eqb-true (factoring s st.mark) line z.1 in
      ⊎_elim
      (λ (e : st.mark.ended ≡ true). let zero_is : 0 ≡ line = sym (ap (λ v. if v then 0 else factored s st.mark.line) e) ∙ is in absurd (omega (arith, zero_is, some)))
      (λ (e : st.mark.ended ≡ false).
      let same : factored s st.mark.line ≡ line = sym (ap (λ v. if v then 0 else factored s st.mark.line) e) ∙ is in
      subst (λ l. is_live_matrix s st.mark l ≡ true) same (b.factors_live e (omega (arith, same, some))))
      (cases_Bool st.mark.ended)

  -- ---- lists
  job_there : (js : List Job) (line : ℕ) → nat_lt 0 (job_in js line).factors ≡ true → has_line js line ≡ true
  job_there [] line h = absurd (true≢false (sym h))
  job_there (j ∷ js) line h =
      ⊎_elim
      (λ (e : (j.line == line) ≡ true). or_left (j.line == line) (has_line js line) e)
      (λ (e : (j.line == line) ≡ false). or_right (j.line == line) (has_line js line) (job_there js line (subst (λ v. nat_lt 0 (if v then j else job_in js line).factors ≡ true) e h)))
      (cases_Bool (j.line == line))

  pivots_fit : (line : ℕ) → is_live_list s st.mark line ≡ true → is_member (layout s (factored s line)).grid rank ≡ true → fits (slot_at Pivots line 0)
  pivots_fit line live m =
      let e = layout s (factored s line) in
      let x = slot_at Pivots line 0 in
      let most = min e.desc.m e.desc.n in
      let numbers = pivots_of st line e in
      let low = is_member-begins e.grid rank m in
      let high = is_member-ends e.grid rank m in
      let at : e.grid.first + (rank - e.grid.first) ≡ rank = omega (arith, low) in
      let tile = subst (λ a. st.tiles a x ≡ Some (Index numbers)) at ((rest.law.lists line live).same (rank - e.grid.first) (omega (arith, low, high))) in
      let size : size_of (st.tiles rank x) ≡ length numbers = ap size_of tile in
      let slots : list_slots s st.mark rank line (factored s line) ≡ (x, most) ∷ [] = ap (λ v. if v then (x, most) ∷ [] else []) (and_from (is_live_list s st.mark line) (is_on e rank) live m) in
      let here : most ≤ allowed (list_slots s st.mark rank line (factored s line)) x = subst (λ l. most ≤ allowed l x) (sym slots) (one_allowed x most) in
      let factors = (and_parts (nat_lt 0 (factored s line)) (nat_le line st.mark.line) (and_parts (nat_lt 0 (factored s line) && nat_le line st.mark.line) _ live).0).0 in
      let all = of_jobs s st.mark rank most x (in_list s st.mark rank s.jobs line most x (job_there s.jobs line factors) here) in
      omega (arith, size, b.lists line live, all)

  -- ---- each kind
  live_fits : (kind : SlotKind) (id group : ℕ) → is_live_kind s st.mark rank (slot_at kind id group) kind ≡ true → fits (slot_at kind id group)
  live_fits Data id group h =
      let d = layout s id in
      let z = and_parts (is_data_rank d.grid rank && nat_lt group (group_count d)) (is_live_matrix s st.mark id) h in
      let y = and_parts (is_data_rank d.grid rank) (nat_lt group (group_count d)) z.0 in
      data_fits id z.1 y.0 group (ltb-true group (group_count d) y.1)
  live_fits Code id group h =
      let d = layout s id in
      let z = and_parts (is_code_rank d.grid rank && nat_lt group (group_count d)) (is_live_matrix s st.mark id) h in
      let y = and_parts (is_code_rank d.grid rank) (nat_lt group (group_count d)) z.0 in
      code_fits id z.1 y.0 group (ltb-true group (group_count d) y.1)
  live_fits Low id group h =
      let d = layout s id in
      let z = and_parts (is_code_rank d.grid rank && nat_lt group (group_count d)) (is_factored_under s st.mark id && nat_le st.mark.merged group) h in
      let y = and_parts (is_code_rank d.grid rank) (nat_lt group (group_count d)) z.0 in
      let f = and_parts (is_factored_under s st.mark id) (nat_le st.mark.merged group) z.1 in
      low_fits id (factored_live id f.0) y.0 group (ltb-true group (group_count d) y.1) z.1
  live_fits Open id group h =
      let d = layout s id in
      let z = and_parts (is_code_rank d.grid rank && (group == 0)) (is_factored_under s st.mark id && st.mark.opened) h in
      let y = and_parts (is_code_rank d.grid rank) (group == 0) z.0 in
      let f = and_parts (is_factored_under s st.mark id) st.mark.opened z.1 in
      subst (λ g. fits (slot_at Open id g)) (sym (eqb-true group 0 y.1)) (open_fits id (factored_live id f.0) y.0 z.1)
  live_fits Pivots id group h =
      let e = layout s (factored s id) in
      let z = and_parts (is_member e.grid rank && (group == 0)) (is_live_list s st.mark id) h in
      let y = and_parts (is_member e.grid rank) (group == 0) z.0 in
      subst (λ g. fits (slot_at Pivots id g)) (sym (eqb-true group 0 y.1)) (pivots_fit id z.1 y.0)
  live_fits Work id group h = absurd (true≢false (sym h))

  slot_fits : (x : Slot) → size_of (st.tiles rank x) + size_of (st.saved rank x) ≤ (0 + 0) + allowed (rest_slots s st.mark rank) x
  slot_fits x =
      let saved : size_of (st.saved rank x) ≡ 0 = ap size_of (rest.saved rank x) in
      ⊎_elim
      (λ (e : is_live s st.mark rank x ≡ true). let held = live_fits x.kind x.id x.group e in omega (arith, saved, held))
      (λ (e : is_live s st.mark rank x ≡ false). let none : size_of (st.tiles rank x) ≡ 0 = ap size_of (rest.nothing_else rank x e) in omega (arith, saved, none))
      (cases_Bool (is_live s st.mark rank x))

abbrev emptied : State → State
emptied st = record st { tiles = λ _ _. None; saved = λ _ _. None }

no_words : (st : State) (rank : ℕ) (slots : List Slot) → words_in (emptied st) rank slots ≡ 0
no_words st rank [] = refl
no_words st rank (x ∷ xs) = omega (arith, no_words st rank xs)

-- In a state as a commit leaves it each rank holds at most what a commit under its mark leaves.
pub HoldAtRest-rest : (s : Setting) (st : State) → IsRest s st → IsMeasured s st → HoldAtRest s st
HoldAtRest-rest s st rest b rank lt slots distinct =
    let adds = adds_allowed (emptied st) st (λ r. rest_slots s st.mark r) (λ r x. slot_fits s st rest b r x) rank slots distinct in
    omega (arith, adds, no_words st rank slots, total-rest s st.mark rank)
