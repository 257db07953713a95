-- A world's fields stand for the replay of its journal, which is legal.
use Rattle.std.specs.Prelude.{◌≡◌, ◌<◌, ℕ, zero, suc, Bool, false, List, [], ◌∷◌, Option, length, All}
use Rattle.run_data.specs.declared.command.Command.{Command}
use Rattle.rank_run.specs.Machine.{Machine}
use Rattle.rank_machine.specs.declared.slot.Tile.{Tile}
use Rattle.rank_machine.specs.declared.mark.Mark.{Mark}
use Rattle.rank_machine.specs.declared.record.Loss.{Loss}
use Rattle.rank_machine.specs.Scripts.{Matrices}
use Rattle.rank_machine.specs.Setting.{Setting, ranks}
use Rattle.rank_machine.specs.State.{State}
use Rattle.rank_machine.specs.Legal.{IsLegal}
use Rattle.script_lines.specs.declared.lines.Line.{Line}
use Rattle.script_lines.specs.Lines.{IsTableOf}
use Rattle.rank_slots.specs.Rank.{Rank}
use Rattle.rank_slots.specs.Stands.{Stands, AreResidues}
use Rattle.run_laws.specs.Due.{AreInPlace}
use Rattle.block_world.specs.Log.{Log}
use Rattle.script_lines.specs.Sound.{IsSound}
use Rattle.block_world.specs.World.{WorldView, setting_in, state_of}

abbrev pub view_of : List (Option Command) → Matrices → Log → WorldView
view_of script files log = record { script = script; files = files; journal = log.journal; room = log.room }

-- whether a rank is flagged
abbrev pub flag_at : List Bool → ℕ → Bool
flag_at [] rank = false
flag_at (b ∷ bs) zero = b
flag_at (b ∷ bs) (suc rank) = flag_at bs rank

-- a flag for each rank: whether it was lost since the last commit
pub record AreFlags (s : Setting) (st : State) (lost : List Bool) : Type 0 where
  pub count : length lost ≡ ranks s
  pub same : (rank : ℕ) → flag_at lost rank ≡ st.lost rank

-- memories and links stand for the replay, all their words are residues, the mark is the last one, and the flags are those of
-- the ranks that count as lost; the losses are the script's, and stand where they fall
pub record IsReplay (p : ℕ) (w : WorldView) (losses : List Loss) (x : Machine Rank Tile) (mark : Mark) (lost : List Bool) : Type 0 where
  pub sound : IsSound p (setting_in w)
  pub losses_are : losses ≡ (setting_in w).losses
  pub table : List Line
  pub lines : IsTableOf (setting_in w).jobs table
  pub legal : IsLegal (setting_in w) w.journal
  pub in_place : AreInPlace (setting_in w) w.journal
  pub stands : Stands (setting_in w) table x (state_of w)
  pub residues : AreResidues p x
  pub mark_is : mark ≡ (state_of w).mark
  pub flags : AreFlags (setting_in w) (state_of w) lost
