-- What holds between two lines of a run.
use Rattle.std.specs.Prelude.{◌≡◌, ◌+◌, ◌*◌, ◌≤◌, ℕ, true, nat_le, nat_lt, Option, Some, List}
use Rattle.run_data.specs.Matrix.{Matrix, IsShaped}
use Rattle.run_data.specs.declared.command.Command.{Command}
use Rattle.run_data.specs.Script.{Numbered, commands_of, command_at, name_made}
use Rattle.rank_machine.specs.declared.slot.SlotKind.TheVariants.{Data}
use Rattle.rank_machine.specs.declared.slot.Tile.TheVariants.{Words}
use Rattle.rank_machine.specs.declared.record.Rec.{Rec}
use Rattle.rank_machine.specs.declared.layout.Layout.{Layout}
use Rattle.rank_machine.specs.Setting.{Setting, layout, factored, is_job, strip_of}
use Rattle.rank_machine.specs.Scripts.{Matrices, file_of}
use Rattle.rank_machine.specs.State.{State}
use Rattle.rank_machine.specs.Effect.{is_live_matrix, is_live_list, has_ended}
use Rattle.rank_machine.specs.CodeLaw.{slot_at, pivots_of}
use Rattle.serial_model.specs.Serial.{Values, whole, rows}
use Rattle.dist_matrix.specs.Strips.{HasShape, NamesStrip}
use Rattle.script_bounds.specs.Bounds.{phase_steps, recovery_steps, losses}
use Rattle.block_world.specs.World.{WorldView, setting_in, state_of}
use Rattle.run_laws.specs.Cuts.{GoesRightly}
use Rattle.run_laws.specs.Traces.{AreShort, AllHeal, AlwaysHold, spent}
use Rattle.loss_recovery.specs.Driven.{IsAtRest}
use Rattle.whole_run.specs.PrintedFrom.{ArePrinted}
use Rattle.serial_model.specs.Serial.{up_to, text_to}
use Rattle.rank_machine.specs.Losses.{last_ended}
use Rattle.whole_run.specs.Until.{bound_until, values_at, AllEndUntil}

-- ---- strips and whole matrices
-- the data ranks hold the strips of a matrix in the slots of a line
abbrev pub HoldsMatrix : State → ℕ → Layout → Matrix → Type 0
HoldsMatrix st line d m = (rank group : ℕ) → NamesStrip d rank group → st.tiles rank (slot_at Data line group) ≡ Some (Words (strip_of d m rank group))

-- the data strips of a line stand for what its name means in the serial run
pub record StandsForMatrix (s : Setting) (st : State) (line : ℕ) (name : List ℕ) (values : Values) : Type 0 where
  pub matrix : Matrix
  pub means : values name ≡ Some (whole matrix)
  pub shaped : IsShaped matrix
  pub shape : HasShape (layout s line) matrix
  pub held : HoldsMatrix st line (layout s line) matrix

-- the pivot list of a line is what its name means
abbrev pub StandsForList : Setting → State → ℕ → List ℕ → Values → Type 0
StandsForList s st line name values = values name ≡ Some (rows (pivots_of st line (layout s (factored s line))))

-- the command on a line makes something of this name
abbrev pub Names : List Numbered → ℕ → List ℕ → Type 0
Names ns line name = (command : Command) × (command_at ns line ≡ Some command) × (name_made command ≡ Some name)

-- what is live on the ranks is what is there in the serial run
pub record StandsFor (s : Setting) (ns : List Numbered) (st : State) (values : Values) : Type 0 where
  pub matrices : (line : ℕ) (name : List ℕ) → is_live_matrix s st.mark line ≡ true → Names ns line name → StandsForMatrix s st line name values
  pub lists : (line : ℕ) (name : List ℕ) → is_live_list s st.mark line ≡ true → Names ns line name → StandsForList s st line name values

-- ---- a run so far
-- no record comes where the run is beyond repair, and each healed commit leaves what the commit before it, or the opening, had left; commits and
-- recoveries come in time; and no rank holds too many words
pub record IsInBounds (s : Setting) (phase recovery : ℕ) (journal : List Rec) : Type 0 where
  pub goes : GoesRightly s journal
  pub short : AreShort phase journal
  pub heals : AllHeal recovery s journal
  pub held : AlwaysHold s journal

-- the losses of a script cost no more than this
abbrev pub cost : List Numbered → ℕ
cost ns = phase_steps ns + recovery_steps ns

-- After the lines up to one, and before the next: a world of the script, at rest, in which exactly these lines have ended; what it holds, what was printed and what it cost
pub record HasRun (script : List (Option Command)) (files : Matrices) (line : ℕ) (w : WorldView) (out : List ℕ) : Type 0 where
  pub script_is : w.script ≡ script
  pub files_are : w.files ≡ files
  pub rest : IsAtRest w
  pub done : (at : ℕ) → is_job (setting_in w) at ≡ true → has_ended (state_of w).mark at ≡ nat_le at line
  pub none_begun : (state_of w).mark.ended ≡ nat_lt 0 (state_of w).mark.line
  pub last : nat_le (last_ended w.journal) line ≡ true
  pub ends : AllEndUntil (setting_in w) line w.journal
  pub stands : StandsFor (setting_in w) (commands_of script) (state_of w) (values_at (file_of files) (commands_of script) line)
  pub printed : ArePrinted (setting_in w) (commands_of script) (state_of w).committed (up_to line (commands_of script)) out
  pub text : out ≡ text_to (file_of files) (commands_of script) line
  pub bounds : IsInBounds (setting_in w) (phase_steps (commands_of script)) (recovery_steps (commands_of script)) w.journal
  pub few : spent (cost (commands_of script)) (setting_in w) w.journal ≤ bound_until line (commands_of script) + losses (commands_of script) * cost (commands_of script)
