-- The copies of a pivot list to the ranks that were lost, as pairs of the rank that sends and the rank that receives.
use Rattle.std.specs.Prelude.{ℕ, suc, Bool, false, if◌then◌else◌, List, [], ◌∷◌, slice_index_or}
use Rattle.blacs_grid.specs.declared.Grid.{Grid}
use Rattle.blacs_grid.specs.Places.{width, rank_at}
use Rattle.rank_machine.specs.State.{State}
use Rattle.rank_machine.specs.Legal.{lost_columns}
use Rattle.round_laws.specs.Turns.{each_below}

-- the first column that was not lost, or how many there are where all were
abbrev pub first_kept : List Bool → ℕ
first_kept [] = 0
first_kept (b ∷ bs) = if b then suc (first_kept bs) else 0

-- in a process row, from the first rank that was not lost to each one that was
abbrev pub row_copies : Grid → ℕ → List Bool → List (ℕ × ℕ)
row_copies g row lost = each_below (width g) (λ col. if slice_index_or lost col false then (rank_at g row (first_kept lost), rank_at g row col) ∷ [] else [])

-- in each process row of a grid
abbrev pub grid_copies : State → Grid → List (ℕ × ℕ)
grid_copies st g = each_below g.p (λ row. row_copies g row (lost_columns st g row))
