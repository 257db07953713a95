-- The ranks of the tests.
use Rattle.std.specs.Prelude.{ℕ, true, Some, None, List, [], ◌∷◌}
use Rattle.run_data.specs.Matrix.{Matrix, with_entry, zero_matrix}
use Rattle.array_desc.specs.Descriptors.{desc_of}
use Rattle.rank_machine.specs.declared.slot.SlotKind.TheVariants.{Data, Code, Pivots, Work}
use Rattle.rank_machine.specs.declared.slot.Slot.{Slot}
use Rattle.rank_machine.specs.declared.slot.Tile.TheVariants.{Words, Index}
use Rattle.rank_machine.specs.declared.layout.Layout.{Layout}
use Rattle.script_lines.specs.declared.lines.Line.{Line}
use Rattle.rank_slots.specs.Rank.{Rank, with_tile}

-- a matrix of 5 by 2 words in blocks of 2 by 2, on two process rows and a code column, from process row 1 on
abbrev pub layout : Layout
layout = record { grid = record { p = 2; q = 1; f = 1; first = 0 }; desc = desc_of 0 2 1 5 2 2 2 1 0 }

abbrev pub table : List Line
table = record { line = 3; makes = Some layout; factors = 0; drops = 0; dropped = None } ∷ []

abbrev pub data_slot : Slot
data_slot = record { kind = Data; id = 3; group = 0 }

abbrev pub list_slot : Slot
list_slot = record { kind = Pivots; id = 3; group = 0 }

abbrev pub work_slot : ℕ → Slot
work_slot id = record { kind = Work; id = id; group = 0 }

-- its rows 0, 1 and 4, on rank 2: 4 3, 2 0 and 5 6
abbrev pub strip : Matrix
strip = with_entry (with_entry (with_entry (with_entry (with_entry (zero_matrix 3 2) 0 0 4) 1 0 2) 2 0 5) 0 1 3) 2 1 6

-- a square: 2 1 and 7 3
abbrev pub square : Matrix
square = with_entry (with_entry (with_entry (with_entry (zero_matrix 2 2) 0 0 2) 1 0 7) 0 1 1) 1 1 3

-- two rows: 1 2 3 and 4 5 6
abbrev pub wide : Matrix
wide = with_entry (with_entry (with_entry (with_entry (with_entry (with_entry (zero_matrix 2 3) 0 0 1) 1 0 4) 0 1 2) 1 1 5) 0 2 3) 1 2 6

-- three rows: 0 5, 0 0 and 0 6
abbrev pub sparse : Matrix
sparse = with_entry (with_entry (zero_matrix 3 2) 0 1 5) 2 1 6

abbrev pub sparse_slot : Slot
sparse_slot = record { kind = Code; id = 3; group = 0 }

-- a live rank that holds nothing
abbrev pub empty : ℕ → Rank
empty number = record { table = table; number = number; live = true; cells = [] }

-- rank 2 with the strip, the square, the wide and the sparse matrix
abbrev pub words_example : Rank
words_example = with_tile (with_tile (with_tile (with_tile (empty 2) data_slot (Words strip)) (work_slot 1) (Words square)) (work_slot 5) (Words wide)) sparse_slot (Words sparse)

-- and a list of pivots, two numbers and the number that means none
abbrev pub example : Rank
example = with_tile (with_tile (with_tile (with_tile words_example list_slot (Index (1 ∷ []))) (work_slot 2) (Index (5 ∷ []))) (work_slot 3) (Index (3 ∷ []))) (work_slot 4) (Index (2048 ∷ []))

-- rank 0, whose strip is the square
abbrev pub upper_example : Rank
upper_example = with_tile (with_tile (empty 0) data_slot (Words square)) (work_slot 1) (Words square)
