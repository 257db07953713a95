-- What a commit leaves has room.
use Rattle.std.specs.Prelude.{◌≡◌, ◌+◌, ◌*◌, ◌≤◌, ◌&&◌, ◌||◌, ◌==◌, nat_lt, ℕ, Bool, true, false, List, [], ◌∷◌, if◌then◌else◌, min, refl}
use Rattle.std.proofs.Common.{arith}
use Rattle.blacs_grid.specs.Places.{row_of, is_data_rank}
use Rattle.rank_machine.specs.declared.slot.Slot.{Slot}
use Rattle.rank_machine.specs.Setting.{Setting, Job, grid_of_rank, layout, group_count, strip_rows, is_matrix, factored}
use Rattle.rank_machine.specs.State.{State}
use Rattle.rank_machine.specs.Effect.{is_live_matrix, is_live_list, current}
use Rattle.rank_machine.specs.Held.{words_in, size_of, is_on, cells_of, tile_of_jobs, pivots_of_jobs}
use Rattle.phases.specs.Words.{AddAtMost, HasRoom, live_cells, live_tile, live_lists}

one_more : (live more on : Bool) (n : ℕ) → (if live && on then n else 0) ≤ (if (live || more) && on then n else 0)
one_more true more on n = omega arith
one_more false more on n = omega arith

one_tile : (live more : Bool) (n : ℕ) → (if live then n else 0) ≤ (if live || more then n else 0)
one_tile true more n = omega arith
one_tile false more n = omega arith

cells_fit : (s : Setting) (st : State) (rank : ℕ) (js : List Job) → live_cells s st.mark rank js ≤ cells_of s st rank js
cells_fit s st rank [] = omega arith
cells_fit s st rank (j ∷ js) = omega (arith, cells_fit s st rank js, one_more (is_live_matrix s st.mark j.line) (is_matrix s j.line && (j.line == current s st.mark)) (is_on (layout s j.line) rank) ((strip_rows (layout s j.line) (row_of (layout s j.line).grid rank) * (layout s j.line).desc.nb) * group_count (layout s j.line)))

tiles_fit : (s : Setting) (st : State) (js : List Job) → live_tile s st.mark js ≤ tile_of_jobs s st js
tiles_fit s st [] = omega arith
tiles_fit s st (j ∷ js) = omega (arith, tiles_fit s st js, one_tile (is_live_matrix s st.mark j.line) (is_matrix s j.line && (j.line == current s st.mark)) ((layout s j.line).desc.lld * (layout s j.line).desc.nb))

lists_fit : (s : Setting) (st : State) (rank : ℕ) (js : List Job) → live_lists s st.mark rank js ≤ pivots_of_jobs s st rank js
lists_fit s st rank [] = omega arith
lists_fit s st rank (j ∷ js) = omega (arith, lists_fit s st rank js, one_more (is_live_list s st.mark j.line) (nat_lt 0 (factored s j.line) && (j.line == current s st.mark)) (is_on (layout s j.factors) rank) (min (layout s j.factors).desc.m (layout s j.factors).desc.n))

fit_if : (b : Bool) (a c t x y z : ℕ) → a ≤ x → c ≤ z → t ≤ y → (if b then a else (2 * a + t)) + c ≤ ((if b then x else 2 * x) + 8 * y) + 2 * z
fit_if true a c t x y z h k l = omega (arith, h, k, l)
fit_if false a c t x y z h k l = omega (arith, h, k, l)

-- where a phase adds nothing
pub room_at_rest : (s : Setting) (base : State) → HasRoom (λ _. 0) s base
room_at_rest s base rank lt =
    let fit = fit_if (is_data_rank (grid_of_rank s rank) rank) (live_cells s base.mark rank s.jobs) (live_lists s base.mark rank s.jobs) (live_tile s base.mark s.jobs)
    (cells_of s base rank s.jobs) (tile_of_jobs s base s.jobs) (pivots_of_jobs s base rank s.jobs) (cells_fit s base rank s.jobs) (lists_fit s base rank s.jobs) (tiles_fit s base s.jobs) in
    omega (arith, fit)

-- words are those of the tiles, and of what is saved
pub same_words : (a b : State) (rank : ℕ) (slots : List Slot) → a.tiles ≡ b.tiles → a.saved ≡ b.saved → words_in a rank slots ≡ words_in b rank slots
same_words a b rank [] t v = refl
same_words a b rank (x ∷ xs) t v = λ i. (size_of (t i rank x) + size_of (v i rank x)) + same_words a b rank xs t v i

pub adds_nothing : (base now : State) → now.tiles ≡ base.tiles → now.saved ≡ base.saved → AddAtMost (λ _. 0) base now
adds_nothing base now t v rank slots distinct = omega (arith, same_words now base rank slots t v)
