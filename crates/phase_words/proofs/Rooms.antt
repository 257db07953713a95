-- What a commit leaves on a rank at most is in what the rank may hold.
use Rattle.std.specs.Prelude.{◌≡◌, ◌*◌, ◌≤◌, ◌&&◌, ◌||◌, ◌==◌, nat_lt, ℕ, Bool, true, false, List, [], ◌∷◌, if◌then◌else◌, min}
use Rattle.std.proofs.Common.{arith, sym, ap, ◌∙◌, ⊎_elim}
use Rattle.std.proofs.lemmas.Bool.{and_parts, or_cases, or_left, eqb-true, true≢false}
use Rattle.blacs_grid.specs.Places.{row_of}
use Rattle.rank_machine.specs.Setting.{Setting, Job, layout, group_count, strip_rows, is_matrix, factored}
use Rattle.rank_machine.specs.State.{State}
use Rattle.rank_machine.specs.Effect.{is_live_matrix, is_live_list, has_ended, current}
use Rattle.rank_machine.specs.Held.{is_on, cells_of, tile_of_jobs, pivots_of_jobs, counts_matrix}
use Rattle.phases.specs.Words.{live_cells, live_tile, live_lists}
use Rattle.run_laws.specs.NextMark.{has_line}
use Rattle.run_laws.proofs.Marks.{job_of_matrix}

pub one_more : (live more on : Bool) (n : ℕ) → (if live && on then n else 0) ≤ (if (live || more) && on then n else 0)
one_more true more on n = omega arith
one_more false more on n = omega arith

pub one_tile : (live more : Bool) (n : ℕ) → (if live then n else 0) ≤ (if live || more then n else 0)
one_tile true more n = omega arith
one_tile false more n = omega arith

-- the cells of a matrix on a rank
abbrev pub own_cells : Setting → ℕ → ℕ → ℕ
own_cells s rank line = let d = layout s line in (strip_rows d (row_of d.grid rank) * d.desc.nb) * group_count d

-- the strips of the live matrices
pub cells_fit : (s : Setting) (st : State) (rank : ℕ) (js : List Job) → live_cells s st.mark rank js ≤ cells_of s st rank js
cells_fit s st rank [] = omega arith
cells_fit s st rank (j ∷ js) = omega (arith, cells_fit s st rank js, one_more (is_live_matrix s st.mark j.line) (is_matrix s j.line && (j.line == current s st.mark)) (is_on (layout s j.line) rank) (own_cells s rank j.line))

-- the largest of them
pub tiles_fit : (s : Setting) (st : State) (js : List Job) → live_tile s st.mark js ≤ tile_of_jobs s st js
tiles_fit s st [] = omega arith
tiles_fit s st (j ∷ js) = omega (arith, tiles_fit s st js, one_tile (is_live_matrix s st.mark j.line) (is_matrix s j.line && (j.line == current s st.mark)) ((layout s j.line).desc.lld * (layout s j.line).desc.nb))

-- the live lists
pub lists_fit : (s : Setting) (st : State) (rank : ℕ) (js : List Job) → live_lists s st.mark rank js ≤ pivots_of_jobs s st rank js
lists_fit s st rank [] = omega arith
lists_fit s st rank (j ∷ js) = omega (arith, lists_fit s st rank js, one_more (is_live_list s st.mark j.line) (nat_lt 0 (factored s j.line) && (j.line == current s st.mark)) (is_on (layout s j.factors) rank) (min (layout s j.factors).desc.m (layout s j.factors).desc.n))

abbrev tile_at : Setting → State → ℕ → ℕ
tile_at s st line = if counts_matrix s st line then (layout s line).desc.lld * (layout s line).desc.nb else 0

-- A strip of a matrix that counts is no larger than the largest strip.
pub tile_there : (s : Setting) (st : State) (line : ℕ) (js : List Job) → has_line js line ≡ true → counts_matrix s st line ≡ true → (layout s line).desc.lld * (layout s line).desc.nb ≤ tile_of_jobs s st js
tile_there s st line [] there counts = absurd (true≢false (sym there))
tile_there s st line (j ∷ js) there counts =
    ⊎_elim
    (λ (e : (j.line == line) ≡ true).
    let some : tile_at s st j.line ≡ (layout s line).desc.lld * (layout s line).desc.nb = ap (tile_at s st) (eqb-true j.line line e) ∙ ap (λ b. if b then (layout s line).desc.lld * (layout s line).desc.nb else 0) counts in
    omega (arith, some))
    (λ (e : has_line js line ≡ true). omega (arith, tile_there s st line js e counts))
    (or_cases (j.line == line) (has_line js line) there)

-- A live matrix is one that a line makes.
pub live_is_matrix : (s : Setting) (st : State) (line : ℕ) → is_live_matrix s st.mark line ≡ true → is_matrix s line ≡ true
live_is_matrix s st line live = (and_parts (is_matrix s line) (has_ended st.mark line) (and_parts (is_matrix s line && has_ended st.mark line) _ live).0).0

-- A strip of a live matrix is no larger than the largest strip.
pub live_tile_there : (s : Setting) (st : State) (line : ℕ) → is_live_matrix s st.mark line ≡ true → (layout s line).desc.lld * (layout s line).desc.nb ≤ tile_of_jobs s st s.jobs
live_tile_there s st line live =
    tile_there s st line s.jobs (job_of_matrix s line (live_is_matrix s st line live)) (or_left (is_live_matrix s st.mark line) (is_matrix s line && (line == current s st.mark)) live)
