-- What a round does to a world, and how many words a rank holds.
use Rattle.std.specs.Prelude.{◌≡◌, ◌<◌, ℕ, true, false, is_some, List, [], ◌∷◌, length, map, take, drop, IsTrue}
use Rattle.rank_run.specs.declared.round.Event.{Event}
use Rattle.rank_run.specs.declared.run.Ran.{Ran}
use Rattle.rank_run.specs.declared.run.Ran.TheVariants as ran
use Rattle.rank_run.specs.Action.{Action}
use Rattle.rank_run.specs.Rounds.{steps}
use Rattle.rank_run.specs.Run.{schedule_of}
use Rattle.rank_machine.specs.declared.record.Rec.{Rec}
use Rattle.rank_machine.specs.declared.slot.Slot.{Slot}
use Rattle.rank_machine.specs.declared.slot.Tile.{Tile}
use Rattle.rank_machine.specs.declared.slot.Piece.{Piece}
use Rattle.rank_machine.specs.declared.kernel.Kernel.{Kernel}
use Rattle.rank_machine.specs.Setting.{ranks}
use Rattle.rank_machine.specs.State.{State, base}
use Rattle.rank_machine.specs.Effect.{replay}
use Rattle.rank_machine.specs.Held.{is_new, are_distinct, words_in}
use Rattle.rank_slots.specs.Rank.{Rank}
use Rattle.rank_slots.specs.Stands.{rec_of, records_of}
use Rattle.block_world.specs.World.{WorldView, setting_in, state_of, is_due, noted, noted_all}

-- Whole: every step was taken, and the state is that of the events in list order. Hit: a step was left, and a loss is due before it
abbrev pub EndsAs : Ran → WorldView → WorldView → List (Event Rank Kernel Piece Tile) → List (Action Kernel Piece) → Type 0
EndsAs ran.Whole w w' es noted = (length noted ≡ steps es) × (state_of w' ≡ replay (setting_in w) (state_of w) (records_of es))
EndsAs ran.Hit w w' es noted = (length noted < steps es) × (is_due w' ≡ true)

-- no loss was due before any of these records, each made in its turn
abbrev pub NoneDue : WorldView → List Rec → Type 0
NoneDue w [] = Unit {0}
NoneDue w (x ∷ xs) = (is_due w ≡ false) × NoneDue (noted w x) xs

-- from a world on, the steps `noted` of a round were taken
pub record IsRoundOf (w w' : WorldView) (es : List (Event Rank Kernel Piece Tile)) (order order' : List ℕ) (ended : Ran) (noted : List (Action Kernel Piece)) : Type 0 where
  -- their records, and no others, are at the journal's end
  pub records : w' ≡ noted_all w (map rec_of noted)
  -- they are the schedule of the round under the order, or as much of it as was taken
  pub scheduled : noted ≡ take (length noted) (schedule_of (ranks (setting_in w)) (setting_in w).capacity es order)
  -- the order has lost one number a step, as long as it had one
  pub order_left : order' ≡ drop (length noted) order
  -- no rank falls back to anything else than before
  pub same_base : (rank : ℕ) (slot : Slot) → base (state_of w') rank slot ≡ base (state_of w) rank slot
  -- no loss was due before a step that was taken
  pub none_due : NoneDue w (map rec_of noted)
  -- after the first n of these records, for any n, each rank holds what some first events of the round give it, one after the other in list order
  pub prefixes : (n rank : ℕ) → (k : ℕ) × ((slot : Slot) → (replay (setting_in w) (state_of w) (take n (map rec_of noted))).tiles rank slot ≡ (replay (setting_in w) (state_of w) (records_of (take k es))).tiles rank slot)
  pub end : EndsAs ended w w' es noted

-- n words are those of the slots that a rank holds, each once, and of what was saved of them
pub record AreWordsHeld (st : State) (rank n : ℕ) : Type 0 where
  pub slots : List Slot
  pub distinct : IsTrue (are_distinct slots)
  pub all : (slot : Slot) → is_some (st.tiles rank slot) ≡ true → is_new slots slot ≡ false
  pub counted : n ≡ words_in st rank slots
