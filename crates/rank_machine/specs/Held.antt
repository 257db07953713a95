-- How many words a rank holds.
use Rattle.std.specs.Prelude.{◌+◌, ◌*◌, ◌≤◌, ◌&&◌, ◌||◌, ◌==◌, ◌∷◌, if◌then◌else◌, ℕ, Bool, true, not, Option, Some, None, List, length, nat_lt, min, max, IsTrue, []}
use Rattle.run_data.specs.Matrix.{cols}
use Rattle.blacs_grid.specs.Places.{is_member, row_of, is_data_rank}
use Rattle.rank_machine.specs.declared.slot.Slot.{Slot}
use Rattle.rank_machine.specs.declared.slot.Tile.{Tile}
use Rattle.rank_machine.specs.declared.slot.Tile.TheVariants.{Words, Index}
use Rattle.rank_machine.specs.declared.layout.Layout.{Layout}
use Rattle.rank_machine.specs.Setting.{Job, Setting, grid_of_rank, layout, is_matrix, factored, group_count, strip_rows}
use Rattle.rank_machine.specs.State.{same_slot, State}
use Rattle.rank_machine.specs.Effect.{current, is_live_matrix, is_live_list}

abbrev pub size_of : Option Tile → ℕ
size_of None = 0
size_of (Some (Words m)) = m.rows * cols m
size_of (Some (Index ns)) = length ns

abbrev pub is_new : List Slot → Slot → Bool
is_new [] slot = true
is_new (x ∷ xs) slot = not (same_slot x slot) && is_new xs slot

abbrev pub are_distinct : List Slot → Bool
are_distinct [] = true
are_distinct (x ∷ xs) = is_new xs x && are_distinct xs

-- the words of some slots and of what is saved of them
abbrev pub words_in : State → ℕ → List Slot → ℕ
words_in st rank [] = 0
words_in st rank (x ∷ xs) = (size_of (st.tiles rank x) + size_of (st.saved rank x)) + words_in st rank xs

-- a matrix that is live or being fed, and a list that is live or in making
abbrev pub counts_matrix : Setting → State → ℕ → Bool
counts_matrix s st line = is_live_matrix s st.mark line || (is_matrix s line && (line == current s st.mark))

abbrev pub counts_list : Setting → State → ℕ → Bool
counts_list s st line = is_live_list s st.mark line || (nat_lt 0 (factored s line) && (line == current s st.mark))

abbrev pub is_on : Layout → ℕ → Bool
is_on d rank = is_member d.grid rank

abbrev pub cells_of : Setting → State → ℕ → List Job → ℕ
cells_of s st rank [] = 0
cells_of s st rank (j ∷ js) =
    let d = layout s j.line in
    (if counts_matrix s st j.line && is_on d rank then (strip_rows d (row_of d.grid rank) * d.desc.nb) * group_count d else 0) + cells_of s st rank js

-- the strips of the matrices on a rank's grid
abbrev pub cells : Setting → State → ℕ → ℕ
cells s st rank = cells_of s st rank s.jobs

abbrev pub tile_of_jobs : Setting → State → List Job → ℕ
tile_of_jobs s st [] = 0
tile_of_jobs s st (j ∷ js) = let d = layout s j.line in max (if counts_matrix s st j.line then d.desc.lld * d.desc.nb else 0) (tile_of_jobs s st js)

-- the largest strip of any matrix
abbrev pub tile : Setting → State → ℕ
tile s st = tile_of_jobs s st s.jobs

abbrev pub pivots_of_jobs : Setting → State → ℕ → List Job → ℕ
pivots_of_jobs s st rank [] = 0
pivots_of_jobs s st rank (j ∷ js) = let d = layout s j.factors in (if counts_list s st j.line && is_on d rank then min d.desc.m d.desc.n else 0) + pivots_of_jobs s st rank js

-- twice the lengths of the lists on a rank's grid
abbrev pub pivots : Setting → State → ℕ → ℕ
pivots s st rank = 2 * pivots_of_jobs s st rank s.jobs

-- on a data column, or on a code column
abbrev pub most_words : Setting → State → ℕ → ℕ
most_words s st rank =
    ((if is_data_rank (grid_of_rank s rank) rank then cells s st rank else 2 * cells s st rank) + 8 * tile s st) + pivots s st rank

abbrev pub AreHeld : Setting → State → ℕ → Type 0
AreHeld s st rank = (slots : List Slot) → IsTrue (are_distinct slots) → words_in st rank slots ≤ most_words s st rank
