-- The words of a rank's cells are those of the slots that it holds.
use Rattle.std.proofs.Common.{◌≡◌, ℕ, zero, suc, Option, Some, None, List, [], ◌∷◌, map, slice_get, refl, ◌∙◌}
use Rattle.rank_run.specs.Machine.{Machine}
use Rattle.rank_machine.specs.declared.slot.Slot.{Slot}
use Rattle.rank_machine.specs.declared.slot.Tile.{Tile}
use Rattle.rank_machine.specs.Setting.{Setting}
use Rattle.rank_machine.specs.State.{State}
use Rattle.script_lines.specs.declared.lines.Line.{Line}
use Rattle.rank_slots.specs.declared.cells.Cell.{Cell}
use Rattle.rank_slots.specs.Cells.{tiles_in, saved_in, AreOrdered, words_of_cells}
use Rattle.rank_slots.specs.Rank.{Rank}
use Rattle.rank_slots.specs.Stands.{tiles_at, saved_at, Stands}
use Rattle.rank_slots.proofs.Worlds.{slots_distinct, slots_held}
use Rattle.rank_slots.proofs.Worlds as laws
use Rattle.block_world.specs.Ranks.{cells_at}
use Rattle.block_world.specs.Rounds.{AreWordsHeld}

-- ---- the cells of a rank that may be there
abbrev pub cells_there : Option Rank → List Cell
cells_there None = []
cells_there (Some m) = m.cells

pub cells_at-get : (ms : List Rank) (rank : ℕ) → cells_at ms rank ≡ cells_there (slice_get ms rank)
cells_at-get [] rank = refl
cells_at-get (m ∷ ms) zero = refl
cells_at-get (m ∷ ms) (suc rank) = cells_at-get ms rank

tiles_of-cells : (ms : List Rank) (rank : ℕ) (slot : Slot) → tiles_in (cells_at ms rank) slot ≡ tiles_at ms rank slot
tiles_of-cells [] rank slot = refl
tiles_of-cells (m ∷ ms) zero slot = refl
tiles_of-cells (m ∷ ms) (suc rank) slot = tiles_of-cells ms rank slot

saved_of-cells : (ms : List Rank) (rank : ℕ) (slot : Slot) → saved_in (cells_at ms rank) slot ≡ saved_at ms rank slot
saved_of-cells [] rank slot = refl
saved_of-cells (m ∷ ms) zero slot = refl
saved_of-cells (m ∷ ms) (suc rank) slot = saved_of-cells ms rank slot

-- so many words a rank holds that stands for a state
pub words_held : (s : Setting) (table : List Line) (x : Machine Rank Tile) (st : State) (rank : ℕ) → Stands s table x st → AreOrdered (cells_at x.mems rank) → AreWordsHeld st rank (words_of_cells (cells_at x.mems rank))
words_held s table x st rank h ordered =
    let xs = cells_at x.mems rank in
    let tiles : (slot : Slot) → tiles_in xs slot ≡ st.tiles rank slot = λ slot. tiles_of-cells x.mems rank slot ∙ h.tiles rank slot in
    let saved : (slot : Slot) → saved_in xs slot ≡ st.saved rank slot = λ slot. saved_of-cells x.mems rank slot ∙ h.saved rank slot in
    record {
      slots = map (λ (x : Cell). x.slot) xs;
      distinct = slots_distinct xs ordered;
      all = slots_held st rank xs tiles;
      counted = laws.words_held st rank xs ordered tiles saved;
    }
