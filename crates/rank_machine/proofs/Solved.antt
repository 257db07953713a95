-- Solves with factors and with triangles, and drops: worked journals, 502 records.
use Rattle.std.proofs.Common.{◌∷◌, ◌++◌, ℕ, true, false, Some, List, refl, []}
use Rattle.field_core.specs.Sums.{sum_to}
use Rattle.run_data.specs.Matrix.{Matrix, entry, tabulate}
use Rattle.run_data.specs.Parts.{patched}
use Rattle.run_data.specs.declared.command.Command.TheVariants as c
use Rattle.run_data.specs.Script.{commands_of, Numbered}
use Rattle.rank_machine.specs.declared.slot.Piece.TheVariants as piece
use Rattle.rank_machine.specs.declared.kernel.Cut.TheVariants as cut
use Rattle.rank_machine.specs.declared.kernel.Kernel.TheVariants as k
use Rattle.rank_machine.specs.declared.record.Rec.{Rec}
use Rattle.rank_machine.specs.declared.record.Rec.TheVariants as r
use Rattle.rank_machine.specs.Setting.{Setting}
use Rattle.rank_machine.specs.Legal.{IsLegal}
use Rattle.rank_machine.specs.Losses.{AreDue}
use Rattle.field_core.proofs.Computing.{quick_inverse, inverse_walk}
use Rattle.local_blas.specs.Kernels.{substituted, solution}
use Rattle.rank_machine.proofs.Terms.{by_line, co, d, legal_by_quick, lo, mark, no_matrix, rect, setting_with, v, w}
use Rattle.rank_machine.proofs.Parts.{coded_by_one, exchanged_codes, fed, handed_over, least, opened_to, passed_on, row_subtracted, run_on, saved, saved_column, saved_strips, searched, solved_lower, solved_row, solved_upper, subtracted, taken}
use Rattle.rank_machine.proofs.Multiplied.{multiplied_fed}

abbrev pub script_solved : List Numbered
script_solved = commands_of (
    Some (c.Grid (103 ∷ []) 2 1 1) ∷
    Some (c.Matrix (65 ∷ []) (103 ∷ []) 2 2 1 1 0 0 (97 ∷ 46 ∷ 116 ∷ 120 ∷ 116 ∷ [])) ∷
    Some (c.Matrix (66 ∷ []) (103 ∷ []) 2 1 1 1 0 0 (98 ∷ 46 ∷ 116 ∷ 120 ∷ 116 ∷ [])) ∷
    Some (c.Pgetrf 2 2 (65 ∷ []) 1 1 (86 ∷ [])) ∷
    Some (c.Pgetrs (78 ∷ []) 2 1 (65 ∷ []) 1 1 (86 ∷ []) (66 ∷ []) 1 1) ∷
    Some (c.Print (66 ∷ [])) ∷
    Some (c.Discard (65 ∷ [])) ∷
    Some (c.Discard (86 ∷ [])) ∷
    Some (c.Discard (66 ∷ [])) ∷ [])

abbrev pub files_solved : ℕ → Matrix
files_solved = λ line. by_line 2 line (record { rows = 2; columns = ((0 ∷ 2 ∷ []) ∷ (1 ∷ 3 ∷ []) ∷ []) }) (by_line 3 line (record { rows = 2; columns = ((4 ∷ 11 ∷ []) ∷ []) }) (no_matrix))

abbrev pub setting_solved : Setting
setting_solved = setting_with script_solved files_solved

abbrev pub journal_solved : List Rec
journal_solved =
    fed (0 ∷ 2 ∷ []) (d 2 0) ++
    fed (0 ∷ 2 ∷ []) (d 2 1) ++
    coded_by_one 0 2 0 1 1 ++
    coded_by_one 2 2 0 1 1 ++
    coded_by_one 0 2 1 1 1 ++
    coded_by_one 2 2 1 1 1 ++
    r.Commit (mark 2 true 0 false 0) false ∷
    fed (0 ∷ 2 ∷ []) (d 3 0) ++
    coded_by_one 0 3 0 1 1 ++
    coded_by_one 2 3 0 1 1 ++
    r.Commit (mark 3 true 0 false 0) false ∷
    run_on (0 ∷ 1 ∷ []) (k.Zero (v 4 0) 0 0) ++
    r.Kernel 1 (k.Zero (lo 2 0) 1 1) ∷
    r.Kernel 1 (k.Zero (lo 2 1) 1 1) ∷
    run_on (2 ∷ 3 ∷ []) (k.Zero (v 4 0) 0 0) ++
    r.Kernel 3 (k.Zero (lo 2 0) 1 1) ∷
    r.Kernel 3 (k.Zero (lo 2 1) 1 1) ∷
    r.Commit (mark 4 false 0 false 0) false ∷
    saved (0 ∷ 2 ∷ []) (d 2 0) ++
    saved (1 ∷ 3 ∷ []) (co 2 0) ++
    saved (0 ∷ 1 ∷ 2 ∷ 3 ∷ []) (v 4 0) ++
    searched 2 0 1 2 0 0 65536 ++
    r.Kernel 0 (k.Push (v 4 0) (piece.Whole (w 0 0)) 0) ∷
    r.Send 0 2 (piece.Part (d 2 0) (rect 0 1 0 1)) ∷
    r.Kernel 2 (k.Push (v 4 0) (piece.Whole (w 0 0)) 0) ∷
    r.Recv 2 0 (piece.Whole (w 2 0)) ∷
    r.Send 2 0 (piece.Part (d 2 0) (rect 0 1 0 1)) ∷
    r.Recv 0 2 (piece.Part (d 2 0) (rect 0 1 0 1)) ∷
    r.Kernel 0 (k.Copy (piece.Whole (w 3 0)) (piece.Part (d 2 0) (rect 0 1 0 1))) ∷
    r.Send 0 2 (piece.Whole (w 3 0)) ∷
    r.Kernel 0 (k.Elim (d 2 0) 0 0 (piece.Whole (w 3 0))) ∷
    handed_over 0 2 0 4 1 ++
    r.Kernel 2 (k.Copy (piece.Part (d 2 0) (rect 0 1 0 1)) (piece.Whole (w 2 0))) ∷
    r.Recv 2 0 (piece.Whole (w 3 0)) ∷
    r.Kernel 2 (k.Elim (d 2 0) 0 0 (piece.Whole (w 3 0))) ∷
    handed_over 2 2 0 4 1 ++
    r.Commit (mark 4 false 0 true 0) false ∷
    r.Save 1 (co 2 0) ∷
    r.Save 1 (lo 2 0) ∷
    r.Save 3 (co 2 0) ∷
    r.Save 3 (lo 2 0) ∷
    r.Send 0 1 (piece.Whole (d 2 0)) ∷
    r.Send 1 3 (piece.Part (co 2 0) (rect 0 1 0 1)) ∷
    r.Send 2 3 (piece.Whole (d 2 0)) ∷
    exchanged_codes 1 3 2 0 ++
    r.Recv 1 0 (piece.Whole (w 0 0)) ∷
    solved_row 1 3 (co 2 0) (w 0 0) ++
    opened_to 1 2 0 0 ++
    r.Kernel 3 (k.Copy (piece.Part (lo 2 0) (rect 0 1 0 1)) (piece.Whole (w 2 0))) ∷
    subtracted 3 2 1 (co 2 0) ++
    opened_to 3 2 0 0 ++
    r.Commit (mark 4 false 1 false 0) false ∷
    saved_strips 0 1 2 1 ++
    saved_strips 2 3 2 1 ++
    r.Send 0 2 (piece.Part (d 2 1) (rect 0 1 0 1)) ∷
    r.Send 1 3 (piece.Part (co 2 1) (rect 0 1 0 1)) ∷
    r.Recv 2 0 (piece.Whole (w 2 0)) ∷
    r.Send 2 0 (piece.Part (d 2 1) (rect 0 1 0 1)) ∷
    r.Recv 0 2 (piece.Part (d 2 1) (rect 0 1 0 1)) ∷
    r.Send 0 1 (piece.Whole (d 2 0)) ∷
    solved_row 0 2 (d 2 1) (d 2 0) ++
    r.Kernel 2 (k.Copy (piece.Part (d 2 1) (rect 0 1 0 1)) (piece.Whole (w 2 0))) ∷
    r.Send 2 3 (piece.Whole (d 2 0)) ∷
    row_subtracted 2 0 0 (d 2 1) (d 2 0) ++
    exchanged_codes 1 3 2 1 ++
    r.Recv 1 0 (piece.Whole (w 0 0)) ∷
    solved_row 1 3 (co 2 1) (w 0 0) ++
    r.Kernel 3 (k.Copy (piece.Part (lo 2 1) (rect 0 1 0 1)) (piece.Whole (w 2 0))) ∷
    subtracted 3 2 1 (co 2 1) ++
    r.Commit (mark 4 false 1 false 0) false ∷
    saved (0 ∷ 2 ∷ []) (d 2 1) ++
    saved (1 ∷ 3 ∷ []) (co 2 1) ++
    saved (0 ∷ 1 ∷ 2 ∷ 3 ∷ []) (v 4 0) ++
    searched 2 0 1 2 1 1 65536 ++
    run_on (0 ∷ 2 ∷ []) (k.Push (v 4 0) (piece.Whole (w 0 0)) 1) ++
    r.Kernel 2 (k.Copy (piece.Whole (w 3 0)) (piece.Part (d 2 1) (rect 0 1 0 1))) ∷
    r.Send 2 0 (piece.Whole (w 3 0)) ∷
    r.Recv 0 2 (piece.Whole (w 3 0)) ∷
    r.Kernel 0 (k.Elim (d 2 1) 0 1 (piece.Whole (w 3 0))) ∷
    handed_over 0 2 1 4 1 ++
    r.Kernel 2 (k.Elim (d 2 1) 0 1 (piece.Whole (w 3 0))) ∷
    handed_over 2 2 1 4 1 ++
    r.Commit (mark 4 false 1 true 0) false ∷
    r.Save 1 (co 2 1) ∷
    r.Save 1 (lo 2 1) ∷
    r.Save 3 (co 2 1) ∷
    r.Save 3 (lo 2 1) ∷
    r.Send 0 1 (piece.Whole (d 2 1)) ∷
    r.Recv 1 0 (piece.Whole (w 0 0)) ∷
    opened_to 1 2 1 1 ++
    r.Send 2 3 (piece.Whole (d 2 1)) ∷
    r.Recv 3 2 (piece.Whole (w 0 0)) ∷
    r.Kernel 3 (k.Lower (piece.Part (co 2 1) (rect 0 1 0 1)) (piece.Part (w 0 0) (rect 0 1 0 1)) true) ∷
    opened_to 3 2 1 1 ++
    r.Commit (mark 4 false 2 false 0) false ∷
    saved_strips 0 1 2 0 ++
    saved_strips 2 3 2 0 ++
    r.Send 0 1 (piece.Whole (d 2 1)) ∷
    r.Recv 1 0 (piece.Whole (w 0 0)) ∷
    r.Send 2 3 (piece.Whole (d 2 1)) ∷
    r.Recv 3 2 (piece.Whole (w 0 0)) ∷
    r.Kernel 3 (k.Lower (piece.Part (co 2 0) (rect 0 1 0 1)) (piece.Part (w 0 0) (rect 0 1 0 1)) true) ∷
    r.Commit (mark 4 false 2 false 0) false ∷
    saved (1 ∷ 3 ∷ []) (co 2 0) ++
    run_on (1 ∷ 3 ∷ []) (k.Add (piece.Whole (co 2 0)) 1 (piece.Whole (lo 2 0)) cut.Whole) ++
    r.Commit (mark 4 false 2 false 1) false ∷
    saved (1 ∷ 3 ∷ []) (co 2 1) ++
    run_on (1 ∷ 3 ∷ []) (k.Add (piece.Whole (co 2 1)) 1 (piece.Whole (lo 2 1)) cut.Whole) ++
    r.Commit (mark 4 false 2 false 2) false ∷
    run_on (0 ∷ 2 ∷ []) (k.Diag (w 0 0) (piece.Whole (d 2 0)) 2) ++
    least 2 0 ++
    r.Take 0 (w 0 0) ∷
    r.Commit (mark 4 true 0 false 0) false ∷
    run_on (0 ∷ 2 ∷ []) (k.Diag (w 0 0) (piece.Whole (d 2 0)) 2) ++
    least 2 0 ++
    r.Take 0 (w 0 0) ∷
    r.Commit (mark 5 false 0 false 0) false ∷
    saved_column 3 0 ++
    r.Take 0 (v 4 0) ∷
    r.Send 0 2 (piece.Part (d 3 0) (rect 0 1 0 1)) ∷
    r.Send 1 3 (piece.Part (co 3 0) (rect 0 1 0 1)) ∷
    r.Recv 2 0 (piece.Whole (w 2 0)) ∷
    r.Send 2 0 (piece.Part (d 3 0) (rect 0 1 0 1)) ∷
    r.Recv 0 2 (piece.Part (d 3 0) (rect 0 1 0 1)) ∷
    r.Kernel 2 (k.Copy (piece.Part (d 3 0) (rect 0 1 0 1)) (piece.Whole (w 2 0))) ∷
    r.Recv 3 1 (piece.Whole (w 2 0)) ∷
    r.Send 3 1 (piece.Part (co 3 0) (rect 0 1 0 1)) ∷
    r.Recv 1 3 (piece.Part (co 3 0) (rect 0 1 0 1)) ∷
    r.Kernel 3 (k.Copy (piece.Part (co 3 0) (rect 0 1 0 1)) (piece.Whole (w 2 0))) ∷
    r.Commit (mark 5 false 0 false 0) false ∷
    saved_column 3 0 ++
    r.Kernel 0 (k.Scale (piece.Whole (d 3 0)) 1) ∷
    r.Send 0 1 (piece.Whole (d 2 0)) ∷
    solved_lower 0 2 (d 3 0) (d 2 0) ++
    r.Kernel 1 (k.Scale (piece.Whole (co 3 0)) 1) ∷
    r.Recv 1 0 (piece.Whole (w 0 0)) ∷
    r.Send 0 1 (piece.Whole (d 2 1)) ∷
    solved_lower 1 3 (co 3 0) (w 0 0) ++
    r.Recv 1 0 (piece.Whole (w 0 0)) ∷
    r.Kernel 2 (k.Scale (piece.Whole (d 3 0)) 1) ∷
    r.Send 2 3 (piece.Whole (d 2 0)) ∷
    row_subtracted 2 0 0 (d 3 0) (d 2 0) ++
    r.Kernel 3 (k.Scale (piece.Whole (co 3 0)) 1) ∷
    r.Recv 3 2 (piece.Whole (w 0 0)) ∷
    r.Send 2 3 (piece.Whole (d 2 1)) ∷
    r.Kernel 2 (k.Lower (piece.Part (d 3 0) (rect 0 1 0 1)) (piece.Part (d 2 1) (rect 0 1 0 1)) true) ∷
    row_subtracted 3 1 0 (co 3 0) (w 0 0) ++
    r.Recv 3 2 (piece.Whole (w 0 0)) ∷
    r.Kernel 3 (k.Lower (piece.Part (co 3 0) (rect 0 1 0 1)) (piece.Part (w 0 0) (rect 0 1 0 1)) true) ∷
    r.Commit (mark 5 false 0 false 0) false ∷
    saved_column 3 0 ++
    r.Kernel 0 (k.Scale (piece.Whole (d 3 0)) 1) ∷
    r.Send 0 1 (piece.Whole (d 2 1)) ∷
    r.Kernel 1 (k.Scale (piece.Whole (co 3 0)) 1) ∷
    r.Recv 1 0 (piece.Whole (w 0 0)) ∷
    r.Kernel 2 (k.Scale (piece.Whole (d 3 0)) 1) ∷
    r.Send 2 3 (piece.Whole (d 2 1)) ∷
    solved_upper 2 0 (d 3 0) (d 2 1) ++
    row_subtracted 0 2 0 (d 3 0) (d 2 1) ++
    r.Send 0 1 (piece.Whole (d 2 0)) ∷
    r.Kernel 0 (k.Upper (piece.Part (d 3 0) (rect 0 1 0 1)) (piece.Part (d 2 0) (rect 0 1 0 1)) false) ∷
    r.Kernel 3 (k.Scale (piece.Whole (co 3 0)) 1) ∷
    r.Recv 3 2 (piece.Whole (w 0 0)) ∷
    r.Send 2 3 (piece.Whole (d 2 0)) ∷
    solved_upper 3 1 (co 3 0) (w 0 0) ++
    row_subtracted 1 3 0 (co 3 0) (w 0 0) ++
    r.Recv 1 0 (piece.Whole (w 0 0)) ∷
    r.Kernel 1 (k.Upper (piece.Part (co 3 0) (rect 0 1 0 1)) (piece.Part (w 0 0) (rect 0 1 0 1)) false) ∷
    r.Recv 3 2 (piece.Whole (w 0 0)) ∷
    r.Commit (mark 5 true 0 false 0) false ∷
    taken (0 ∷ 2 ∷ []) (d 3 0) ++
    r.Commit (mark 6 true 0 false 0) false ∷
    r.Commit (mark 7 true 0 false 0) false ∷
    r.Commit (mark 8 true 0 false 0) false ∷
    r.Commit (mark 9 true 0 false 0) false ∷
    []

legal_solved : IsLegal setting_solved journal_solved
unfolding entry tabulate patched sum_to substituted solution quick_inverse inverse_walk
legal_solved = legal_by_quick script_solved files_solved [] journal_solved tt refl

due_solved : AreDue setting_solved false journal_solved
due_solved = refl

abbrev pub script_triangular : List Numbered
script_triangular = commands_of (
    Some (c.Grid (103 ∷ []) 2 2 1) ∷
    Some (c.Matrix (65 ∷ []) (103 ∷ []) 2 2 1 1 0 0 (97 ∷ [])) ∷
    Some (c.Matrix (66 ∷ []) (103 ∷ []) 2 2 1 1 0 0 (98 ∷ [])) ∷
    Some (c.Ptrsm (76 ∷ []) (85 ∷ []) (78 ∷ []) (78 ∷ []) 2 2 7 (65 ∷ []) 1 1 (66 ∷ []) 1 1) ∷
    Some (c.Print (66 ∷ [])) ∷
    Some (c.Ptrsm (76 ∷ []) (76 ∷ []) (78 ∷ []) (85 ∷ []) 2 2 1 (65 ∷ []) 1 1 (66 ∷ []) 1 1) ∷
    Some (c.Print (66 ∷ [])) ∷ [])

abbrev pub files_triangular : ℕ → Matrix
files_triangular = λ line. by_line 2 line (record { rows = 2; columns = ((2 ∷ 1 ∷ []) ∷ (3 ∷ 5 ∷ []) ∷ []) }) (by_line 3 line (record { rows = 2; columns = ((3 ∷ 5 ∷ []) ∷ (5 ∷ 7 ∷ []) ∷ []) }) (no_matrix))

abbrev pub setting_triangular : Setting
setting_triangular = setting_with script_triangular files_triangular

abbrev pub journal_triangular : List Rec
journal_triangular =
    multiplied_fed ++
    run_on (0 ∷ 1 ∷ 3 ∷ 4 ∷ []) (k.Diag (w 0 0) (piece.Whole (d 2 0)) 2) ++
    least 4 3 ++
    least 3 1 ++
    least 1 0 ++
    r.Take 0 (w 0 0) ∷
    r.Commit (mark 4 false 0 false 0) false ∷
    saved (0 ∷ 1 ∷ []) (d 3 0) ++
    r.Save 2 (co 3 0) ∷
    saved (3 ∷ 4 ∷ []) (d 3 0) ++
    r.Save 5 (co 3 0) ∷
    run_on (0 ∷ 1 ∷ []) (k.Scale (piece.Whole (d 3 0)) 7) ++
    r.Send 1 2 (piece.Whole (d 2 0)) ∷
    r.Kernel 2 (k.Scale (piece.Whole (co 3 0)) 7) ∷
    passed_on 1 2 0 ++
    run_on (3 ∷ 4 ∷ []) (k.Scale (piece.Whole (d 3 0)) 7) ++
    r.Send 4 5 (piece.Whole (d 2 0)) ∷
    solved_upper 4 1 (d 3 0) (d 2 0) ++
    row_subtracted 1 4 0 (d 3 0) (d 2 0) ++
    r.Kernel 5 (k.Scale (piece.Whole (co 3 0)) 7) ∷
    passed_on 4 5 3 ++
    solved_upper 3 0 (d 3 0) (w 0 0) ++
    row_subtracted 0 3 0 (d 3 0) (w 0 0) ++
    r.Send 0 1 (piece.Whole (d 2 0)) ∷
    r.Kernel 0 (k.Upper (piece.Part (d 3 0) (rect 0 1 0 1)) (piece.Part (d 2 0) (rect 0 1 0 1)) false) ∷
    r.Recv 1 0 (piece.Whole (w 0 0)) ∷
    r.Send 1 2 (piece.Whole (w 0 0)) ∷
    r.Kernel 1 (k.Upper (piece.Part (d 3 0) (rect 0 1 0 1)) (piece.Part (w 0 0) (rect 0 1 0 1)) false) ∷
    r.Send 3 4 (piece.Whole (d 2 0)) ∷
    r.Recv 4 3 (piece.Whole (w 0 0)) ∷
    r.Send 4 5 (piece.Whole (w 0 0)) ∷
    solved_upper 5 2 (co 3 0) (w 0 0) ++
    row_subtracted 2 5 0 (co 3 0) (w 0 0) ++
    r.Recv 2 1 (piece.Whole (w 0 0)) ∷
    r.Kernel 2 (k.Upper (piece.Part (co 3 0) (rect 0 1 0 1)) (piece.Part (w 0 0) (rect 0 1 0 1)) false) ∷
    r.Recv 5 4 (piece.Whole (w 0 0)) ∷
    r.Commit (mark 4 true 0 false 0) false ∷
    taken (0 ∷ 1 ∷ 3 ∷ 4 ∷ []) (d 3 0) ++
    r.Commit (mark 5 true 0 false 0) false ∷
    run_on (0 ∷ 1 ∷ 3 ∷ 4 ∷ []) (k.Diag (w 0 0) (piece.Whole (d 2 0)) 0) ++
    least 4 3 ++
    least 3 1 ++
    least 1 0 ++
    r.Take 0 (w 0 0) ∷
    r.Commit (mark 6 false 0 false 0) false ∷
    saved (0 ∷ 1 ∷ []) (d 3 0) ++
    r.Save 2 (co 3 0) ∷
    saved (3 ∷ 4 ∷ []) (d 3 0) ++
    r.Save 5 (co 3 0) ∷
    r.Kernel 0 (k.Scale (piece.Whole (d 3 0)) 1) ∷
    r.Send 0 1 (piece.Whole (d 2 0)) ∷
    solved_lower 0 3 (d 3 0) (d 2 0) ++
    r.Kernel 1 (k.Scale (piece.Whole (d 3 0)) 1) ∷
    r.Recv 1 0 (piece.Whole (w 0 0)) ∷
    r.Send 1 2 (piece.Whole (w 0 0)) ∷
    solved_lower 1 4 (d 3 0) (w 0 0) ++
    r.Kernel 2 (k.Scale (piece.Whole (co 3 0)) 1) ∷
    r.Recv 2 1 (piece.Whole (w 0 0)) ∷
    r.Send 1 2 (piece.Whole (d 2 0)) ∷
    solved_lower 2 5 (co 3 0) (w 0 0) ++
    passed_on 1 2 0 ++
    r.Kernel 3 (k.Scale (piece.Whole (d 3 0)) 1) ∷
    r.Send 3 4 (piece.Whole (d 2 0)) ∷
    row_subtracted 3 0 0 (d 3 0) (d 2 0) ++
    r.Kernel 4 (k.Scale (piece.Whole (d 3 0)) 1) ∷
    r.Recv 4 3 (piece.Whole (w 0 0)) ∷
    r.Send 4 5 (piece.Whole (w 0 0)) ∷
    row_subtracted 4 1 0 (d 3 0) (w 0 0) ++
    r.Kernel 5 (k.Scale (piece.Whole (co 3 0)) 1) ∷
    r.Recv 5 4 (piece.Whole (w 0 0)) ∷
    r.Send 4 5 (piece.Whole (d 2 0)) ∷
    r.Kernel 4 (k.Lower (piece.Part (d 3 0) (rect 0 1 0 1)) (piece.Part (d 2 0) (rect 0 1 0 1)) true) ∷
    row_subtracted 5 2 0 (co 3 0) (w 0 0) ++
    passed_on 4 5 3 ++
    r.Kernel 3 (k.Lower (piece.Part (d 3 0) (rect 0 1 0 1)) (piece.Part (w 0 0) (rect 0 1 0 1)) true) ∷
    r.Kernel 5 (k.Lower (piece.Part (co 3 0) (rect 0 1 0 1)) (piece.Part (w 0 0) (rect 0 1 0 1)) true) ∷
    r.Commit (mark 6 true 0 false 0) false ∷
    taken (0 ∷ 1 ∷ 3 ∷ 4 ∷ []) (d 3 0) ++
    r.Commit (mark 7 true 0 false 0) false ∷
    []

legal_triangular : IsLegal setting_triangular journal_triangular
unfolding entry tabulate patched sum_to substituted solution quick_inverse inverse_walk
legal_triangular = legal_by_quick script_triangular files_triangular [] journal_triangular tt refl

due_triangular : AreDue setting_triangular false journal_triangular
due_triangular = refl
