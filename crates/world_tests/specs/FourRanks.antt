-- Four ranks without matrices, and rounds on them.
use Rattle.std.specs.Prelude.{◌≡◌, ℕ, List, [], ◌∷◌, Option, Some, All, codes}
use Rattle.run_data.specs.declared.command.Command.{Command}
use Rattle.run_data.specs.declared.command.Command.TheVariants as c
use Rattle.rank_run.specs.declared.round.Event.{Event}
use Rattle.rank_run.specs.declared.round.Event.TheVariants.{Local, Move}
use Rattle.rank_run.specs.Parts.{IsWithin}
use Rattle.rank_machine.specs.declared.slot.SlotKind.TheVariants.{Work}
use Rattle.rank_machine.specs.declared.slot.Slot.{Slot}
use Rattle.rank_machine.specs.declared.slot.Tile.{Tile}
use Rattle.rank_machine.specs.declared.slot.Piece.{Piece}
use Rattle.rank_machine.specs.declared.slot.Piece.TheVariants.{Whole}
use Rattle.rank_machine.specs.declared.kernel.Kernel.{Kernel}
use Rattle.rank_machine.specs.declared.kernel.Kernel.TheVariants.{Zero, Copy}
use Rattle.rank_machine.specs.Setting.{ranks}
use Rattle.rank_machine.specs.Scripts.{Matrices, setting_of}
use Rattle.rank_machine.specs.State.{opened}
use Rattle.rank_machine.specs.Legal.{IsLegalFrom}
use Rattle.script_lines.specs.Sound.{IsSound}
use Rattle.rank_slots.specs.Rank.{Rank}
use Rattle.rank_slots.specs.Stands.{records_of}

-- four ranks, whose links hold so many messages
unfoldable pub lines : ℕ → List (Option Command)
lines capacity = Some (c.Grid (codes "g") 2 2 0) ∷ Some (c.Links capacity) ∷ []

-- a slot of no line
abbrev pub work : ℕ → Slot
work id = record { kind = Work; id = id; group = 0 }

-- a tile of a zero on rank 0 goes to rank 1 twice
unfoldable pub two_moves : List (Event Rank Kernel Piece Tile)
two_moves = Local 0 (Zero (work 1) 1 1) ∷ Move 0 1 (Whole (work 1)) (Whole (work 1)) ∷ Move 0 1 (Whole (work 1)) (Whole (work 1)) ∷ []

-- a tile of two zeros goes round four ranks, and one of them copies it
unfoldable pub round_trip : List (Event Rank Kernel Piece Tile)
round_trip =
    Local 0 (Zero (work 1) 2 1) ∷ Move 0 1 (Whole (work 1)) (Whole (work 1)) ∷ Local 1 (Copy (Whole (work 2)) (Whole (work 1)))
    ∷ Move 1 2 (Whole (work 2)) (Whole (work 1)) ∷ Move 2 3 (Whole (work 1)) (Whole (work 1)) ∷ Move 3 0 (Whole (work 1)) (Whole (work 2)) ∷ []

-- what a run asks of its script, its files and its round
pub record CanRunRound (script : List (Option Command)) (files : Matrices) (es : List (Event Rank Kernel Piece Tile)) : Type 0 where
  pub sound : IsSound 65537 (setting_of script files)
  pub losses : (setting_of script files).losses ≡ []
  pub ranks : All (IsWithin (ranks (setting_of script files))) es
  pub legal : IsLegalFrom (setting_of script files) (opened (setting_of script files)) (records_of es)
