-- The round in which two global rows of strips change places, on every process column.
use Rattle.std.specs.Prelude.{◌≡◌, ℕ, ◌<◌, ◌==◌, ◌||◌, Bool, true, false, if◌then◌else◌, List, [], ◌∷◌, IsTrue}
use Rattle.array_desc.specs.Descriptors.{IsDesc}
use Rattle.rank_run.specs.declared.round.Event.{Event}
use Rattle.rank_run.specs.declared.round.Event.TheVariants.{Local}
use Rattle.blacs_grid.specs.Places.{width, rank_at}
use Rattle.rank_machine.specs.declared.slot.Slot.{Slot}
use Rattle.rank_machine.specs.declared.slot.Tile.{Tile}
use Rattle.rank_machine.specs.declared.slot.Piece.{Piece}
use Rattle.rank_machine.specs.declared.kernel.Kernel.{Kernel}
use Rattle.rank_machine.specs.declared.kernel.Kernel.TheVariants as k
use Rattle.rank_machine.specs.declared.layout.Layout.{Layout}
use Rattle.rank_machine.specs.Setting.{Setting}
use Rattle.rank_machine.specs.State.{State, same_slot}
use Rattle.rank_machine.specs.Legal.{is_path}
use Rattle.rank_slots.specs.Rank.{Rank}
use Rattle.elimination.specs.Strips.{row_owner, row_place, one_row}
use Rattle.phase_laws.specs.Columns.{rows_of}
use Rattle.round_laws.specs.Holdings.{Holding, may_put}
use Rattle.round_laws.specs.Turns.{each_below, IsGridOf}
use Rattle.round_laws.specs.Exchanges.{exchange_events}
use Rattle.phase_rounds.specs.Strips.{HoldsWords, work}

-- rows i and j of a slot of a process column: a row stays with itself, one process row exchanges both, or two send each other theirs
abbrev pub swap_events : Layout → Slot → ℕ → ℕ → ℕ → List (Event Rank Kernel Piece Tile)
swap_events d slot col i j =
    let a = row_owner (rows_of d) i in
    let b = row_owner (rows_of d) j in
    let at_i = row_place (rows_of d) i in
    let at_j = row_place (rows_of d) j in
    if i == j then []
    else if b == a then Local (rank_at d.grid a col) (k.Swap slot at_i at_j) ∷ []
    else exchange_events d.grid a b col slot (work 2) (one_row at_i d.desc.nb) (one_row at_j d.desc.nb)

-- on each process column in its slot
abbrev pub exchange_round : Layout → (ℕ → Slot) → ℕ → ℕ → List (Event Rank Kernel Piece Tile)
exchange_round d slot i j = each_below (width d.grid) (λ col. swap_events d (slot col) col i j)

-- messages may go everywhere, the rows are rows of the matrix, and no slot is the work slot for the row that is sent
pub record MayExchange (s : Setting) (st : State) (d : Layout) (slot : ℕ → Slot) (i j : ℕ) : Type 0 where
  pub own_grid : IsGridOf s d.grid
  pub desc : IsDesc d.grid.p d.grid.q d.desc
  pub paths : (from to : ℕ) → IsTrue (is_path s st from to)
  pub first_in : i < d.desc.m
  pub second_in : j < d.desc.m
  pub no_work : (col : ℕ) → same_slot (slot col) (work 2) ≡ false

-- the strips are there, and the work slot may be written
pub record CanExchange (d : Layout) (slot : ℕ → Slot) (words : ℕ → ℕ → ℕ → ℕ) (f : ℕ → ℕ → Holding) : Type 0 where
  pub stands : (col : ℕ) → col < width d.grid → HoldsWords d (slot col) (words col) (λ row. f row col)
  pub work_free : (row col : ℕ) → row < d.grid.p → col < width d.grid → may_put (f row col) (work 2) ≡ true

-- the slots that may change where two rows of a slot change places
abbrev pub swap_slots : Slot → Slot → Bool
swap_slots slot x = same_slot x slot || same_slot x (work 2)
