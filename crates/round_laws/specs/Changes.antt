-- What a round changes: on one rank, on the ranks of a process column, on those of a grid. The holdings after it are named, and of each it is known in
-- which slots it may differ from the one before. A slot that could be written before can be written afterwards, so the events that follow find theirs.
use Rattle.std.specs.Prelude.{◌≡◌, ◌<◌, ℕ, Bool, true, false, List}
use Rattle.rank_run.specs.declared.round.Event.{Event}
use Rattle.blacs_grid.specs.declared.Grid.{Grid}
use Rattle.blacs_grid.specs.declared.Scope.TheVariants.{Column}
use Rattle.blacs_grid.specs.Places.{width, is_member, is_in_scope}
use Rattle.rank_machine.specs.declared.slot.Slot.{Slot}
use Rattle.rank_machine.specs.declared.slot.Tile.{Tile}
use Rattle.rank_machine.specs.declared.slot.Piece.{Piece}
use Rattle.rank_machine.specs.declared.kernel.Kernel.{Kernel}
use Rattle.rank_machine.specs.Setting.{Setting, ranks}
use Rattle.rank_machine.specs.State.{State}
use Rattle.rank_slots.specs.Rank.{Rank}
use Rattle.round_laws.specs.Holdings.{Holding, holding, IsBut, may_put}
use Rattle.round_laws.specs.Turns.{Turns, IsQuiet, on_grid, held_on}

-- a rank's holding changes in slots that pass a test, and in no others. What was free stays free, and what could get a tile still can
pub record ChangesOnly (test : Slot → Bool) (h h' : Holding) : Type 0 where
  pub but : IsBut test h h'
  pub free : (x : Slot) → h.free x ≡ true → h'.free x ≡ true
  pub may : (x : Slot) → may_put h x ≡ true → may_put h' x ≡ true

-- from the holdings f the events lead, on the ranks of a process column, to those of `after`, and these have changed only in slots that pass a test
pub record TurnsColumn (s : Setting) (st : State) (g : Grid) (col : ℕ) (test : Slot → Bool) (es : List (Event Rank Kernel Piece Tile)) (f : ℕ → ℕ → Holding) : Type 0 where
  pub after : ℕ → ℕ → Holding
  pub turns : Turns s st (is_in_scope g (Column col)) es (on_grid g f) (on_grid g after)
  pub changed : (row : ℕ) → row < g.p → ChangesOnly test (f row col) (after row col)

-- the same on all ranks of a grid, with a test for each process column
pub record TurnsGrid (s : Setting) (st : State) (g : Grid) (test : ℕ → Slot → Bool) (es : List (Event Rank Kernel Piece Tile)) (f : ℕ → ℕ → Holding) : Type 0 where
  pub after : ℕ → ℕ → Holding
  pub turns : Turns s st (is_member g) es (on_grid g f) (on_grid g after)
  pub changed : (row col : ℕ) → row < g.p → col < width g → ChangesOnly (test col) (f row col) (after row col)

-- from one state to another, the ranks of a grid have changed only in slots that pass a test of their process column, and no other ranks have changed
pub record ChangesGrid (s : Setting) (g : Grid) (test : ℕ → Slot → Bool) (st st' : State) : Type 0 where
  pub quiet : IsQuiet s st'
  pub mark : st'.mark ≡ st.mark
  pub lost : st'.lost ≡ st.lost
  pub saved : st'.saved ≡ st.saved
  pub on_it : (row col : ℕ) → row < g.p → col < width g → ChangesOnly (test col) (held_on st g row col) (held_on st' g row col)
  pub elsewhere : (r : ℕ) → r < ranks s → is_member g r ≡ false → holding st' r ≡ holding st r
