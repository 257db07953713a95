-- A script of one grid of two process rows, a data column and a code column, with a matrix of two rows and one column; rounds on its four ranks, once
-- the matrix was fed; and the number that a rank holds after one.
use Rattle.std.specs.Prelude.{◌-◌, ℕ, true, Option, Some, None, List, [], ◌∷◌, ◌++◌, codes, All}
use Rattle.std.specs.FinMap as map
use Rattle.field_core.specs.Residue.{inverse}
use Rattle.run_data.specs.Matrix.{Matrix, zero_matrix, with_entry}
use Rattle.run_data.specs.declared.matrix.Part.{Part}
use Rattle.run_data.specs.declared.command.Command.{Command}
use Rattle.run_data.specs.declared.command.Command.TheVariants as c
use Rattle.blacs_grid.specs.declared.Grid.{Grid}
use Rattle.blacs_grid.specs.declared.Scope.{Scope}
use Rattle.blacs_grid.specs.declared.Scope.TheVariants.{Row, Column}
use Rattle.blacs_grid.specs.Places.{members, member}
use Rattle.blacs_comm.specs.Positions.{sender_of, rank_at}
use Rattle.blacs_comm.specs.Moves.{broadcast_moves, combine_moves, joined_at, sharing_moves}
use Rattle.blacs_comm.specs.declared.topology.Topology.TheVariants.{I}
use Rattle.rank_run.specs.declared.round.Event.{Event}
use Rattle.rank_run.specs.declared.round.Event.TheVariants.{Local, Move}
use Rattle.rank_run.specs.Parts.{IsWithin}
use Rattle.rank_machine.specs.declared.slot.SlotKind.TheVariants.{Data, Code, Work}
use Rattle.rank_machine.specs.declared.slot.Slot.{Slot}
use Rattle.rank_machine.specs.declared.slot.Tile.{Tile}
use Rattle.rank_machine.specs.declared.slot.Piece.{Piece}
use Rattle.rank_machine.specs.declared.slot.Piece.TheVariants as piece
use Rattle.rank_machine.specs.declared.kernel.Cut.TheVariants as cut
use Rattle.rank_machine.specs.declared.kernel.Kernel.{Kernel}
use Rattle.rank_machine.specs.declared.kernel.Kernel.TheVariants as k
use Rattle.rank_machine.specs.declared.record.Rec.{Rec}
use Rattle.rank_machine.specs.declared.record.Rec.TheVariants as r
use Rattle.rank_machine.specs.declared.layout.Layout.{Layout}
use Rattle.rank_machine.specs.Setting.{Setting, Job, no_job}
use Rattle.rank_machine.specs.Scripts.{Matrices, file_of, layout_on}
use Rattle.rank_machine.specs.Effect.{state_after, replay}
use Rattle.rank_machine.specs.Legal.{IsLegalRec, IsLegalFrom}
use Rattle.rank_machine.specs.CodeLaw.{slot_at}
use Rattle.rank_slots.specs.Rank.{Rank}
use Rattle.rank_slots.specs.Stands.{records_of}
use Rattle.dist_matrix.specs.Encode.{group_events}

abbrev pub Events : Type 0
Events = List (Event Rank Kernel Piece Tile)

unfoldable pub lines : List (Option Command)
lines = Some (c.Grid (codes "g") 2 1 1) ∷ Some (c.Matrix (codes "A") (codes "g") 2 1 1 1 0 0 (codes "a.txt")) ∷ []

-- the file's matrix: a row of 0, and a row of 7
unfoldable pub matrix : Matrix
matrix = with_entry (zero_matrix 2 1) 1 0 7

unfoldable pub files : Matrices
files = map.insert map.empty 2 matrix

abbrev pub grid : Grid
grid = record { p = 2; q = 1; f = 1; first = 0 }

abbrev pub where_it_lies : Layout
where_it_lies = layout_on 0 grid 2 1 1 1 0 0

abbrev pub jobs : List Job
jobs = record (no_job 2) { makes = Some where_it_lies } ∷ []

-- the setting, for a way to invert residues
abbrev pub setting_by : (ℕ → ℕ) → Setting
setting_by invert = record { modulus = 65537; inverse = invert; grids = grid ∷ []; jobs = jobs; capacity = 1; losses = []; spares = None; files = file_of files }

abbrev pub setting : Setting
setting = setting_by (inverse 65537)

-- ---- slots: the strip of the matrix on data ranks and on code ranks, and two work slots
abbrev pub data_slot : Slot
data_slot = slot_at Data 2 0

abbrev pub code_slot : Slot
code_slot = slot_at Code 2 0

abbrev pub work : ℕ → Slot
work n = slot_at Work n 0

-- ---- rounds once ranks 0 and 2 were fed
abbrev pub fed : List Rec
fed = r.Feed 0 data_slot ∷ r.Feed 2 data_slot ∷ []

-- the round is legal there, and after it the tile of a slot of a rank may be taken
pub record MayLook (invert : ℕ → ℕ) (es : Events) (rank : ℕ) (slot : Slot) : Type 0 where
  pub within : All (IsWithin 4) es
  pub legal : IsLegalFrom (setting_by invert) (state_after (setting_by invert) fed) (records_of es)
  pub look : IsLegalRec (setting_by invert) (replay (setting_by invert) (state_after (setting_by invert) fed) (records_of es)) (r.Take rank slot)

-- a rank finds its first row with a word that is not 0, from 1
abbrev pub finding : ℕ → Slot → Slot → Event Rank Kernel Piece Tile
finding rank to from = Local rank (k.First to (piece.Whole from) 0 0)

abbrev pub spread : Scope → ℕ → Events
spread scope root = broadcast_moves (rank_at (member grid scope) (members grid scope) I root) (sender_of I) (piece.Whole (work 0)) (piece.Whole (work 1)) (members grid scope - 1)

-- rank 2 finds its row, and the number goes along its process row, or up its process column
abbrev pub row_round : Events
row_round = finding 2 (work 0) data_slot ∷ spread (Row 1) 0

abbrev pub column_round : Events
column_round = finding 2 (work 0) data_slot ∷ spread (Column 0) 1

-- both ranks of the data column find theirs, and the least goes to both
abbrev pub least_round : Events
least_round =
    finding 0 (work 0) data_slot ∷ finding 2 (work 0) data_slot
    ∷ combine_moves (rank_at (member grid (Column 0)) (members grid (Column 0)) I 0) (joined_at I) (members grid (Column 0)) (piece.Whole (work 0)) (piece.Whole (work 1)) (k.Least (work 0) (piece.Whole (work 1))) (members grid (Column 0))
    ++ sharing_moves true (rank_at (member grid (Column 0)) (members grid (Column 0)) I 0) (sender_of I) (piece.Whole (work 0)) (members grid (Column 0) - 1)

abbrev pub the_row : Part
the_row = record { r0 = 0; r1 = 1; c0 = 0; c1 = 1 }

-- rows 0 and 1 change places, and a rank finds its row
abbrev pub exchange_round : ℕ → Events
exchange_round rank =
    Move 0 2 (piece.Part data_slot the_row) (piece.Whole (work 2)) ∷ Move 2 0 (piece.Part data_slot the_row) (piece.Part data_slot the_row)
    ∷ Local 2 (k.Copy (piece.Part data_slot the_row) (piece.Whole (work 2))) ∷ finding rank (work 0) data_slot ∷ []

-- the code rank of process row 1 gathers its row's strip into its code strip, and finds its row
abbrev pub gather_round : Events
gather_round =
    Local 3 (k.Zero code_slot 1 1) ∷ Move 2 3 (piece.Whole data_slot) (piece.Whole (work 0)) ∷ Local 3 (k.Add (piece.Whole code_slot) 1 (piece.Whole (work 0)) cut.Whole)
    ∷ finding 3 (work 1) code_slot ∷ []

-- the code strips are made, and a code rank finds its row
abbrev pub encode_round : (ℕ → ℕ) → ℕ → Events
encode_round invert rank = group_events invert where_it_lies 2 0 ++ finding rank (work 1) code_slot ∷ []
