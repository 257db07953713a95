-- When losses fall, and when a run is beyond repair.
use Rattle.std.specs.Prelude.{◌≡◌, ◌+◌, ◌<◌, ◌⊎◌, ◌&&◌, ◌||◌, ◌==◌, ◌∷◌, ◌++◌, if◌then◌else◌, ℕ, Bool, true, false, Option, Some, None, List, length, filter, nat_lt, IsTrue, []}
use Rattle.field_core.specs.Sums.{sum_to}
use Rattle.blacs_grid.specs.declared.Grid.{Grid}
use Rattle.blacs_grid.specs.Places.{width, rank_at}
use Rattle.rank_machine.specs.declared.record.Rec.{Rec}
use Rattle.rank_machine.specs.declared.record.Rec.TheVariants as r
use Rattle.rank_machine.specs.declared.record.Loss.{Loss}
use Rattle.rank_machine.specs.Setting.{Setting, ranks, some_job, grid_numbered, layout}
use Rattle.rank_machine.specs.State.{State}
use Rattle.rank_machine.specs.Effect.{is_live_matrix, is_live_list}
use Rattle.rank_machine.specs.Legal.{IsLegal}

-- ---- losses fall due
-- the losses of one record, in script order
abbrev pub falls : List Loss → ℕ → List Rec
falls [] n = []
falls (l ∷ ls) n = if l.at == n then r.Lose l.rank ∷ falls ls n else falls ls n

abbrev pub is_numbered : Rec → Bool
is_numbered (r.Feed rank slot) = true
is_numbered (r.Kernel rank kernel) = true
is_numbered (r.Send from to x) = true
is_numbered (r.Recv to from x) = true
is_numbered (r.Save rank slot) = true
is_numbered (r.Take rank slot) = true
is_numbered r.Restore = true
is_numbered (r.Spawn rank) = true
is_numbered (r.Commit mark healed) = true
is_numbered (r.Lose rank) = false

-- numbered records, each with its losses directly before it; at the end those of the next number, if the run ended there early: beyond repair or without a spare
abbrev pub with_falls : List Loss → Bool → ℕ → List Rec → List Rec
with_falls ls ended_early n [] = if ended_early then falls ls n else []
with_falls ls ended_early n (x ∷ xs) = falls ls n ++ x ∷ with_falls ls ended_early (n + 1) xs

abbrev pub AreDue : Setting → Bool → List Rec → Type 0
AreDue s ended_early journal = journal ≡ with_falls s.losses ended_early 0 (filter is_numbered journal)

-- a journal of the script: each record is legal, and the losses are those that fall due
pub record IsJournal (s : Setting) (ended_early : Bool) (journal : List Rec) : Type 0 where
  pub legal : IsLegal s journal
  pub due : AreDue s ended_early journal

-- ---- beyond
abbrev pub lost_in : State → Grid → ℕ → ℕ
lost_in st g row = sum_to (width g) (λ col. if st.lost (rank_at g row col) then 1 else 0)

-- something that is live lies on the grid of a number
abbrev pub holds_live : Setting → State → ℕ → Bool
holds_live s st number =
    some_job s.jobs (λ j. (is_live_matrix s st.mark j.line && ((layout s j.line).desc.ctxt == number)) || (is_live_list s st.mark j.line && ((layout s j.factors).desc.ctxt == number)))

-- a process row of a grid lost more ranks than it has code columns since the last commit, and something on the grid is live
abbrev pub is_beyond_at : Setting → State → ℕ → ℕ → Bool
is_beyond_at s st number row =
    let g = grid_numbered s number in
    (nat_lt number (length s.grids) && nat_lt row g.p) && (nat_lt g.f (lost_in st g row) && holds_live s st number)

-- the first such grid and row
pub record IsBeyond (s : Setting) (st : State) (number row : ℕ) : Type 0 where
  pub here : IsTrue (is_beyond_at s st number row)
  pub first : (other place : ℕ) → (other < number) ⊎ ((other ≡ number) × (place < row)) → is_beyond_at s st other place ≡ false

-- ---- spares
-- how many of the ranks below n are lost now
abbrev pub lost_now : State → ℕ → ℕ
lost_now st n = sum_to n (λ rank. if st.live rank then 0 else 1)

-- the spares that are left do not reach to the rank: as many ranks below it are lost now as spares are left
abbrev pub LacksSpareOf : Option ℕ → Setting → State → ℕ → Type 0
LacksSpareOf None s st rank = ⊥
LacksSpareOf (Some n) s st rank = (rank < ranks s) × (st.live rank ≡ false) × (st.spawned + lost_now st rank ≡ n)

-- the script's spares do not suffice for the ranks that are lost now, and this is the first that gets none
abbrev pub LacksSpare : Setting → State → ℕ → Type 0
LacksSpare s st rank = LacksSpareOf s.spares s st rank

-- ---- how far a run came
-- the line of the last commit that ends a line, or what was before
abbrev pub ended_by : Rec → ℕ → ℕ
ended_by (r.Commit mark healed) before = if mark.ended then mark.line else before
ended_by (r.Feed rank slot) before = before
ended_by (r.Kernel rank kernel) before = before
ended_by (r.Send from to x) before = before
ended_by (r.Recv to from x) before = before
ended_by (r.Save rank slot) before = before
ended_by (r.Take rank slot) before = before
ended_by r.Restore before = before
ended_by (r.Spawn rank) before = before
ended_by (r.Lose rank) before = before

abbrev pub last_ended_from : ℕ → List Rec → ℕ
last_ended_from before [] = before
last_ended_from before (x ∷ xs) = last_ended_from (ended_by x before) xs

-- the last ended line, or 0
abbrev pub last_ended : List Rec → ℕ
last_ended journal = last_ended_from 0 journal
