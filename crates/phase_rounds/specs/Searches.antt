-- The pivot search of a column of strips.
use Rattle.std.specs.Prelude.{◌≡◌, ℕ, ◌<◌, ◌≤◌, true, false, IsTrue}
use Rattle.array_desc.specs.Descriptors.{IsDesc}
use Rattle.blacs_grid.specs.Places.{width, rank_at}
use Rattle.rank_machine.specs.declared.layout.Layout.{Layout}
use Rattle.rank_machine.specs.Setting.{Setting, layout}
use Rattle.rank_machine.specs.State.{State, same_slot}
use Rattle.rank_machine.specs.Legal.{is_path, in_matrix}
use Rattle.round_laws.specs.Holdings.{Holding, may_put}
use Rattle.round_laws.specs.Turns.{IsGridOf}
use Rattle.round_laws.specs.Searches.{Search}
use Rattle.phase_rounds.specs.Strips.{HoldsWords}

-- the slot is one of a matrix that lies by d, the column is one of its strips, and the two work slots and the slot are different ones
pub record MaySearch (s : Setting) (st : State) (d : Layout) (x : Search) : Type 0 where
  pub own_grid : IsGridOf s d.grid
  pub desc : IsDesc d.grid.p d.grid.q d.desc
  pub grid : x.grid ≡ d.grid
  pub laid : layout s x.slot.id ≡ d
  pub paths : (from to : ℕ) → IsTrue (is_path s st from to)
  pub col_in : x.col < width d.grid
  pub root_in : x.root < d.grid.p
  pub j_in : x.j < d.desc.nb
  pub above_in : x.above ≤ d.desc.m
  pub apart : same_slot x.first x.second ≡ false
  pub other : same_slot x.second x.first ≡ false
  pub not_first : same_slot x.first x.slot ≡ false

-- the strips are there, on the ranks of the matrix, and the work slots may be written
pub record CanSearch (s : Setting) (d : Layout) (x : Search) (words : ℕ → ℕ → ℕ) (f : ℕ → ℕ → Holding) : Type 0 where
  pub numbers : (row : ℕ) → row < d.grid.p → (f row x.col).number ≡ rank_at d.grid row x.col
  pub placed : (row : ℕ) → row < d.grid.p → IsTrue (in_matrix s (rank_at d.grid row x.col) x.slot)
  pub stands : HoldsWords d x.slot words (λ row. f row x.col)
  pub first_free : (row : ℕ) → row < d.grid.p → may_put (f row x.col) x.first ≡ true
  pub second_free : (row : ℕ) → row < d.grid.p → may_put (f row x.col) x.second ≡ true
