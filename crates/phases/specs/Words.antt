-- How many words a phase adds to those that a rank held at the last commit.
use Rattle.std.specs.Prelude.{◌+◌, ◌*◌, ◌≤◌, ◌<◌, ◌&&◌, ℕ, List, [], ◌∷◌, if◌then◌else◌, IsTrue, min, max}
use Rattle.blacs_grid.specs.Places.{row_of, is_data_rank}
use Rattle.rank_machine.specs.declared.slot.Slot.{Slot}
use Rattle.rank_machine.specs.declared.record.Rec.{Rec}
use Rattle.rank_machine.specs.declared.mark.Mark.{Mark}
use Rattle.rank_machine.specs.Setting.{Setting, Job, ranks, grid_of_rank, layout, group_count, strip_rows}
use Rattle.rank_machine.specs.State.{State}
use Rattle.rank_machine.specs.Effect.{after, is_live_matrix, is_live_list}
use Rattle.rank_machine.specs.Held.{are_distinct, words_in, is_on}
use Rattle.rank_machine.specs.Held as held

-- each rank holds at most so many words more than at the last commit
abbrev pub AddAtMost : (ℕ → ℕ) → State → State → Type 0
AddAtMost most base now = (rank : ℕ) (slots : List Slot) → IsTrue (are_distinct slots) → words_in now rank slots ≤ words_in base rank slots + most rank

-- the same in each state that records lead through
abbrev pub AddThrough : (ℕ → ℕ) → Setting → State → State → List Rec → Type 0
AddThrough most s base now [] = AddAtMost most base now
AddThrough most s base now (x ∷ xs) = AddAtMost most base now × AddThrough most s base (after s now x) xs

-- ---- what a commit leaves on a rank at most: the strips of the live matrices, in a factorization a code rank twice as much and a strip more, and the live lists
abbrev pub live_cells : Setting → Mark → ℕ → List Job → ℕ
live_cells s mark rank [] = 0
live_cells s mark rank (j ∷ js) =
    let d = layout s j.line in
    (if is_live_matrix s mark j.line && is_on d rank then (strip_rows d (row_of d.grid rank) * d.desc.nb) * group_count d else 0) + live_cells s mark rank js

abbrev pub live_tile : Setting → Mark → List Job → ℕ
live_tile s mark [] = 0
live_tile s mark (j ∷ js) = let d = layout s j.line in max (if is_live_matrix s mark j.line then d.desc.lld * d.desc.nb else 0) (live_tile s mark js)

abbrev pub live_lists : Setting → Mark → ℕ → List Job → ℕ
live_lists s mark rank [] = 0
live_lists s mark rank (j ∷ js) = let d = layout s j.factors in (if is_live_list s mark j.line && is_on d rank then min d.desc.m d.desc.n else 0) + live_lists s mark rank js

abbrev pub at_rest : Setting → Mark → ℕ → ℕ
at_rest s mark rank =
    (if is_data_rank (grid_of_rank s rank) rank then live_cells s mark rank s.jobs else (2 * live_cells s mark rank s.jobs + live_tile s mark s.jobs)) + live_lists s mark rank s.jobs

-- a rank that holds so many words more than that holds no more than it may
abbrev pub HasRoom : (ℕ → ℕ) → Setting → State → Type 0
HasRoom most s base = (rank : ℕ) → rank < ranks s → at_rest s base.mark rank + most rank ≤ held.most_words s base rank
