-- A factorization with row exchanges: worked journals, 423 records.
use Rattle.std.proofs.Common.{◌∷◌, ◌++◌, ℕ, true, false, Option, Some, List, refl, []}
use Rattle.field_core.specs.Sums.{sum_to}
use Rattle.run_data.specs.Matrix.{Matrix, entry, tabulate}
use Rattle.run_data.specs.Parts.{patched}
use Rattle.run_data.specs.declared.command.Command.{Command}
use Rattle.run_data.specs.declared.command.Command.TheVariants as c
use Rattle.run_data.specs.Script.{commands_of, Numbered}
use Rattle.rank_machine.specs.declared.slot.Piece.TheVariants as piece
use Rattle.rank_machine.specs.declared.kernel.Cut.TheVariants as cut
use Rattle.rank_machine.specs.declared.kernel.Kernel.TheVariants as k
use Rattle.rank_machine.specs.declared.record.Rec.{Rec}
use Rattle.rank_machine.specs.declared.record.Rec.TheVariants as r
use Rattle.rank_machine.specs.Setting.{Setting}
use Rattle.rank_machine.specs.Legal.{IsLegal}
use Rattle.rank_machine.specs.Losses.{AreDue}
use Rattle.field_core.proofs.Computing.{quick_inverse, inverse_walk}
use Rattle.local_blas.specs.Kernels.{substituted, solution}
use Rattle.rank_machine.proofs.Terms.{by_line, co, d, legal_by_quick, lo, mark, no_matrix, rect, setting_with, v, w}
use Rattle.rank_machine.proofs.Parts.{coded, exchanged_codes, fed, handed_back, handed_on, least, opened_to, passed_on, row_subtracted, run_on, saved, saved_row, saved_strips, searched, solved_row, subtracted, taken, through}

abbrev pub lines_factored : List (Option Command)
lines_factored =
    Some (c.Grid (103 ∷ []) 2 2 1) ∷
    Some (c.Matrix (65 ∷ []) (103 ∷ []) 3 3 1 1 0 0 (97 ∷ [])) ∷
    Some (c.Pgetrf 3 3 (65 ∷ []) 1 1 (86 ∷ [])) ∷
    Some (c.Pivots (86 ∷ [])) ∷
    Some (c.Print (65 ∷ [])) ∷ []

abbrev pub script_factored : List Numbered
script_factored = commands_of lines_factored

abbrev pub files_factored : ℕ → Matrix
files_factored = λ line. by_line 2 line (record { rows = 3; columns = ((0 ∷ 1 ∷ 2 ∷ []) ∷ (2 ∷ 2 ∷ 1 ∷ []) ∷ (3 ∷ 4 ∷ 9 ∷ []) ∷ []) }) (no_matrix)

abbrev pub setting_factored : Setting
setting_factored = setting_with script_factored files_factored

-- the first panel is carried to the second process column
abbrev pub carried_right : ℕ → List Rec
carried_right group =
    r.Recv 4 1 (piece.Whole (w 2 0)) ∷
    r.Send 4 1 (piece.Part (d 2 group) (rect 0 1 0 1)) ∷
    r.Recv 1 4 (piece.Part (d 2 group) (rect 0 1 0 1)) ∷
    r.Recv 1 0 (piece.Whole (w 0 0)) ∷
    r.Send 1 2 (piece.Whole (w 0 0)) ∷
    solved_row 1 4 (d 2 group) (w 0 0) ++
    r.Kernel 1 (k.MulAdd (piece.Part (d 2 group) (rect 1 2 0 1)) 65536 (piece.Part (w 0 0) (rect 1 2 0 1)) (piece.Whole (w 1 0))) ∷
    r.Kernel 4 (k.Copy (piece.Part (d 2 group) (rect 0 1 0 1)) (piece.Whole (w 2 0))) ∷
    r.Recv 4 3 (piece.Whole (w 0 0)) ∷
    r.Send 4 5 (piece.Whole (w 0 0)) ∷
    row_subtracted 4 1 0 (d 2 group) (w 0 0) ++
    exchanged_codes 2 5 2 group ++
    r.Recv 2 1 (piece.Whole (w 0 0)) ∷
    solved_row 2 5 (co 2 group) (w 0 0) ++
    r.Kernel 2 (k.MulAdd (piece.Part (co 2 group) (rect 1 2 0 1)) 65536 (piece.Part (w 0 0) (rect 1 2 0 1)) (piece.Whole (w 1 0))) ∷
    []

-- the first panel enters the code of the second process row, and the row of the second pivot is found
abbrev pub second_found : ℕ → List Rec
second_found columns =
    r.Recv 5 4 (piece.Whole (w 0 0)) ∷
    r.Recv 5 2 (piece.Whole (w 1 0)) ∷
    r.Kernel 5 (k.MulAdd (piece.Part (co 2 0) (rect 0 1 0 columns)) 65536 (piece.Part (w 0 0) (rect 0 1 0 columns)) (piece.Whole (w 1 0))) ∷
    opened_to 5 2 0 0 ++
    r.Commit (mark 3 false 1 false 0) false ∷
    saved (1 ∷ 4 ∷ []) (d 2 0) ++
    saved (2 ∷ 5 ∷ []) (co 2 0) ++
    saved (0 ∷ 1 ∷ 2 ∷ 3 ∷ 4 ∷ 5 ∷ []) (v 3 0) ++
    searched 3 1 2 2 0 columns 65536

-- the second column is eliminated, and the strips right of it are saved
abbrev pub second_eliminated : ℕ → List Rec
second_eliminated columns =
    run_on (1 ∷ 4 ∷ []) (k.Push (v 3 0) (piece.Whole (w 0 0)) columns) ++
    r.Kernel 4 (k.Copy (piece.Whole (w 3 0)) (piece.Part (d 2 0) (rect 0 1 0 columns))) ∷
    r.Send 4 1 (piece.Whole (w 3 0)) ∷
    r.Recv 1 4 (piece.Whole (w 3 0)) ∷
    r.Kernel 1 (k.Elim (d 2 0) 0 columns (piece.Whole (w 3 0))) ∷
    handed_back 0 2 0 3 1 ++
    r.Kernel 4 (k.Elim (d 2 0) 0 columns (piece.Whole (w 3 0))) ∷
    handed_back 3 2 0 3 1 ++
    r.Commit (mark 3 false 1 true 0) false ∷
    saved_row 0 2 1 ++
    saved_row 3 2 1

-- the codes are merged, and INFO, the list and the matrix are printed
abbrev pub printed : ℕ → List Rec
printed panels =
    r.Commit (mark 3 false panels false 0) false ∷
    saved (2 ∷ 5 ∷ []) (co 2 0) ++
    run_on (2 ∷ 5 ∷ []) (k.Add (piece.Whole (co 2 0)) 1 (piece.Whole (lo 2 0)) cut.Whole) ++
    r.Commit (mark 3 false panels false 1) false ∷
    saved (2 ∷ 5 ∷ []) (co 2 1) ++
    run_on (2 ∷ 5 ∷ []) (k.Add (piece.Whole (co 2 1)) 1 (piece.Whole (lo 2 1)) cut.Whole) ++
    r.Commit (mark 3 false panels false 2) false ∷
    run_on (0 ∷ 1 ∷ 3 ∷ 4 ∷ []) (k.Diag (w 0 0) (piece.Whole (d 2 0)) 3) ++
    least 4 3 ++
    least 3 1 ++
    least 1 0 ++
    r.Take 0 (w 0 0) ∷
    r.Commit (mark 3 true 0 false 0) false ∷
    r.Take 0 (v 3 0) ∷
    r.Commit (mark 4 true 0 false 0) false ∷
    taken (0 ∷ 1 ∷ 3 ∷ 4 ∷ []) (d 2 0) ++
    taken (0 ∷ 1 ∷ 3 ∷ 4 ∷ []) (d 2 1) ++
    r.Commit (mark 5 true 0 false 0) false ∷
    []

-- a matrix of blocks of so many columns is fed, coded and begun, and the row of the first pivot found
abbrev pub panel_found : ℕ → List Rec
panel_found columns =
    fed (0 ∷ 1 ∷ 3 ∷ 4 ∷ []) (d 2 0) ++
    fed (0 ∷ 1 ∷ 3 ∷ 4 ∷ []) (d 2 1) ++
    coded 0 2 0 2 columns ++
    coded 3 2 0 1 columns ++
    coded 0 2 1 2 columns ++
    coded 3 2 1 1 columns ++
    r.Commit (mark 2 true 0 false 0) false ∷
    run_on (0 ∷ 1 ∷ 2 ∷ []) (k.Zero (v 3 0) 0 0) ++
    r.Kernel 2 (k.Zero (lo 2 0) 2 columns) ∷
    r.Kernel 2 (k.Zero (lo 2 1) 2 columns) ∷
    run_on (3 ∷ 4 ∷ 5 ∷ []) (k.Zero (v 3 0) 0 0) ++
    r.Kernel 5 (k.Zero (lo 2 0) 1 columns) ∷
    r.Kernel 5 (k.Zero (lo 2 1) 1 columns) ∷
    r.Commit (mark 3 false 0 false 0) false ∷
    saved (0 ∷ 3 ∷ []) (d 2 0) ++
    saved (2 ∷ 5 ∷ []) (co 2 0) ++
    saved (0 ∷ 1 ∷ 2 ∷ 3 ∷ 4 ∷ 5 ∷ []) (v 3 0) ++
    searched 3 0 2 2 0 0 32768 ++
    r.Kernel 0 (k.Push (v 3 0) (piece.Whole (w 0 0)) 0) ∷
    []

-- the first rows are exchanged, and the first panel eliminated
abbrev pub factored_exchanged : List Rec
factored_exchanged =
    r.Recv 3 0 (piece.Whole (w 2 0)) ∷
    r.Send 3 0 (piece.Part (d 2 0) (rect 0 1 0 1)) ∷
    r.Recv 0 3 (piece.Part (d 2 0) (rect 0 1 0 1)) ∷
    r.Kernel 0 (k.Copy (piece.Whole (w 3 0)) (piece.Part (d 2 0) (rect 0 1 0 1))) ∷
    r.Send 0 3 (piece.Whole (w 3 0)) ∷
    r.Kernel 0 (k.Elim (d 2 0) 0 0 (piece.Whole (w 3 0))) ∷
    handed_on 0 2 0 3 32769 ++
    r.Kernel 3 (k.Copy (piece.Part (d 2 0) (rect 0 1 0 1)) (piece.Whole (w 2 0))) ∷
    r.Recv 3 0 (piece.Whole (w 3 0)) ∷
    r.Kernel 3 (k.Elim (d 2 0) 0 0 (piece.Whole (w 3 0))) ∷
    handed_on 3 2 0 3 32769

-- the first panel is done, up to its commit
abbrev pub factored_opened : List Rec
factored_opened =
    panel_found 1 ++
    r.Send 0 3 (piece.Part (d 2 0) (rect 0 1 0 1)) ∷
    r.Kernel 3 (k.Push (v 3 0) (piece.Whole (w 0 0)) 0) ∷
    factored_exchanged

-- the first panel is carried to the columns right of it in its group
abbrev pub factored_carried : List Rec
factored_carried =
    saved_strips 1 2 2 0 ++
    saved_strips 4 5 2 0 ++
    r.Send 0 1 (piece.Whole (d 2 0)) ∷
    r.Send 1 4 (piece.Part (d 2 0) (rect 0 1 0 1)) ∷
    r.Send 2 5 (piece.Part (co 2 0) (rect 0 1 0 1)) ∷
    r.Send 3 4 (piece.Whole (d 2 0)) ∷
    carried_right 0

-- the first panel is done and carried
abbrev pub factored_closing : List Rec
factored_closing =
    factored_opened ++
    r.Commit (mark 3 false 0 true 0) false ∷
    factored_carried

-- the second panel is carried, and the third one done and carried
abbrev pub factored_last : List Rec
factored_last =
    subtracted 5 4 2 (co 2 1) ++
    r.Commit (mark 3 false 1 true 0) false ∷
    saved_strips 0 2 2 0 ++
    saved_strips 3 5 2 0 ++
    through 1 2 0 (d 2 0) ++
    through 4 5 3 (d 2 0) ++
    solved_row 5 2 (co 2 0) (w 0 0) ++
    row_subtracted 2 5 1 (co 2 0) (w 0 0) ++
    opened_to 2 2 0 1 ++
    opened_to 5 2 0 1 ++
    r.Commit (mark 3 false 2 false 0) false ∷
    saved_row 0 2 1 ++
    saved_row 3 2 1 ++
    through 1 2 0 (d 2 0) ++
    r.Send 4 5 (piece.Whole (d 2 0)) ∷
    solved_row 4 1 (d 2 1) (d 2 0) ++
    row_subtracted 1 4 1 (d 2 1) (d 2 0) ++
    passed_on 4 5 3 ++
    solved_row 3 0 (d 2 1) (w 0 0) ++
    row_subtracted 0 3 1 (d 2 1) (w 0 0) ++
    solved_row 5 2 (co 2 1) (w 0 0) ++
    row_subtracted 2 5 1 (co 2 1) (w 0 0) ++
    r.Commit (mark 3 false 2 false 0) false ∷
    saved (0 ∷ 3 ∷ []) (d 2 1) ++
    saved (2 ∷ 5 ∷ []) (co 2 1) ++
    saved (0 ∷ 1 ∷ 2 ∷ 3 ∷ 4 ∷ 5 ∷ []) (v 3 0) ++
    searched 3 0 2 2 1 2 32768 ++
    r.Kernel 0 (k.Push (v 3 0) (piece.Whole (w 0 0)) 2) ∷
    r.Kernel 0 (k.Copy (piece.Whole (w 3 0)) (piece.Part (d 2 1) (rect 1 2 0 1))) ∷
    r.Send 0 3 (piece.Whole (w 3 0)) ∷
    r.Kernel 0 (k.Elim (d 2 1) 0 2 (piece.Whole (w 3 0))) ∷
    handed_on 0 2 1 3 32769 ++
    r.Kernel 3 (k.Push (v 3 0) (piece.Whole (w 0 0)) 2) ∷
    r.Recv 3 0 (piece.Whole (w 3 0)) ∷
    r.Kernel 3 (k.Elim (d 2 1) 0 2 (piece.Whole (w 3 0))) ∷
    handed_on 3 2 1 3 32769 ++
    r.Commit (mark 3 false 2 true 0) false ∷
    saved_strips 1 2 2 1 ++
    saved_strips 4 5 2 1 ++
    r.Send 0 1 (piece.Whole (d 2 1)) ∷
    r.Recv 1 0 (piece.Whole (w 0 0)) ∷
    r.Send 1 2 (piece.Whole (w 0 0)) ∷
    r.Kernel 1 (k.Lower (piece.Part (d 2 1) (rect 1 2 0 1)) (piece.Part (w 0 0) (rect 1 2 0 1)) true) ∷
    r.Recv 2 1 (piece.Whole (w 0 0)) ∷
    r.Kernel 2 (k.Lower (piece.Part (co 2 1) (rect 1 2 0 1)) (piece.Part (w 0 0) (rect 1 2 0 1)) true) ∷
    opened_to 2 2 1 2 ++
    through 3 4 5 (d 2 1) ++
    opened_to 5 2 1 2 ++
    r.Commit (mark 3 false 3 false 0) false ∷
    saved_row 0 2 0 ++
    saved_row 3 2 0 ++
    through 0 1 2 (d 2 1) ++
    r.Kernel 2 (k.Lower (piece.Part (co 2 0) (rect 1 2 0 1)) (piece.Part (w 0 0) (rect 1 2 0 1)) true) ∷
    through 3 4 5 (d 2 1) ++
    printed 3

-- all that follows the first panel
abbrev pub factored_rest : List Rec
factored_rest =
    opened_to 2 2 0 0 ++
    r.Kernel 5 (k.Copy (piece.Part (lo 2 0) (rect 0 1 0 1)) (piece.Whole (w 2 0))) ∷
    second_found 1 ++
    second_eliminated 1 ++
    r.Send 0 3 (piece.Part (d 2 1) (rect 0 1 0 1)) ∷
    r.Send 1 4 (piece.Part (d 2 1) (rect 0 1 0 1)) ∷
    r.Send 2 5 (piece.Part (co 2 1) (rect 0 1 0 1)) ∷
    r.Recv 3 0 (piece.Whole (w 2 0)) ∷
    r.Send 3 0 (piece.Part (d 2 1) (rect 0 1 0 1)) ∷
    r.Recv 0 3 (piece.Part (d 2 1) (rect 0 1 0 1)) ∷
    r.Send 0 1 (piece.Whole (d 2 0)) ∷
    solved_row 0 3 (d 2 1) (d 2 0) ++
    r.Kernel 0 (k.MulAdd (piece.Part (d 2 1) (rect 1 2 0 1)) 65536 (piece.Part (d 2 0) (rect 1 2 0 1)) (piece.Whole (w 1 0))) ∷
    r.Kernel 3 (k.Copy (piece.Part (d 2 1) (rect 0 1 0 1)) (piece.Whole (w 2 0))) ∷
    r.Send 3 4 (piece.Whole (d 2 0)) ∷
    row_subtracted 3 0 0 (d 2 1) (d 2 0) ++
    carried_right 1 ++
    r.Kernel 5 (k.Copy (piece.Part (lo 2 1) (rect 0 1 0 1)) (piece.Whole (w 2 0))) ∷
    factored_last

abbrev pub journal_factored : List Rec
journal_factored =
    factored_closing ++
    factored_rest

legal_factored : IsLegal setting_factored journal_factored
unfolding entry tabulate patched sum_to substituted solution quick_inverse inverse_walk
legal_factored = legal_by_quick script_factored files_factored [] journal_factored tt refl

due_factored : AreDue setting_factored false journal_factored
due_factored = refl
