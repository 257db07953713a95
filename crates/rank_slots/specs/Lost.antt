-- A rank that is lost, falls back, and is replaced; what a lost rank holds.
use Rattle.std.specs.Prelude.{◌≡◌, ℕ, true, false, None, []}
use Rattle.rank_machine.specs.declared.slot.Slot.{Slot}
use Rattle.rank_machine.specs.State.{State}
use Rattle.rank_slots.specs.Rank.{Rank, with_cells}
use Rattle.rank_slots.specs.Undone.{undone_in}

-- the rank is lost, with its memory
abbrev pub lost_rank : Rank → Rank
lost_rank m = record { table = m.table; number = m.number; live = false; cells = [] }

-- what was saved goes back, and what is fresh goes
abbrev pub restored : Rank → Rank
restored m = with_cells m (undone_in m.cells)

-- the rank is live
abbrev pub spawned : Rank → Rank
spawned m = record { table = m.table; number = m.number; live = true; cells = m.cells }

-- a rank that is not live holds nothing
pub record IsBare (st : State) (rank : ℕ) (slot : Slot) : Type 0 where
  pub tiles : st.tiles rank slot ≡ None
  pub saved : st.saved rank slot ≡ None
  pub fresh : st.fresh rank slot ≡ false

abbrev pub LostAreBare : State → Type 0
LostAreBare st = (rank : ℕ) (slot : Slot) → st.live rank ≡ false → IsBare st rank slot
