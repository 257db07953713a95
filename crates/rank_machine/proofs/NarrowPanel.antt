-- A factorization whose last panel is narrow: worked journals, 332 records.
use Rattle.std.proofs.Common.{◌∷◌, ◌++◌, ℕ, true, false, Some, List, refl, []}
use Rattle.field_core.specs.Sums.{sum_to}
use Rattle.run_data.specs.Matrix.{Matrix, entry, tabulate}
use Rattle.run_data.specs.Parts.{patched}
use Rattle.run_data.specs.declared.command.Command.TheVariants as c
use Rattle.run_data.specs.Script.{commands_of, Numbered}
use Rattle.rank_machine.specs.declared.slot.Piece.TheVariants as piece
use Rattle.rank_machine.specs.declared.kernel.Kernel.TheVariants as k
use Rattle.rank_machine.specs.declared.record.Rec.{Rec}
use Rattle.rank_machine.specs.declared.record.Rec.TheVariants as r
use Rattle.rank_machine.specs.Setting.{Setting}
use Rattle.rank_machine.specs.Legal.{IsLegal}
use Rattle.rank_machine.specs.Losses.{AreDue}
use Rattle.field_core.proofs.Computing.{quick_inverse, inverse_walk}
use Rattle.local_blas.specs.Kernels.{substituted, solution}
use Rattle.rank_machine.proofs.Terms.{by_line, co, d, legal_by_quick, lo, mark, no_matrix, rect, setting_with, v, w}
use Rattle.rank_machine.proofs.Parts.{handed_on, least, opened_to, passed_on, saved_row, saved_strips, through}
use Rattle.rank_machine.proofs.Factored.{panel_found, printed, second_eliminated, second_found}

abbrev pub script_narrow_panel : List Numbered
script_narrow_panel = commands_of (
    Some (c.Grid (103 ∷ []) 2 2 1) ∷
    Some (c.Matrix (65 ∷ []) (103 ∷ []) 3 5 2 2 0 0 (97 ∷ [])) ∷
    Some (c.Pgetrf 3 5 (65 ∷ []) 1 1 (86 ∷ [])) ∷
    Some (c.Pivots (86 ∷ [])) ∷
    Some (c.Print (65 ∷ [])) ∷ [])

abbrev pub files_narrow_panel : ℕ → Matrix
files_narrow_panel = λ line. by_line 2 line (record { rows = 3; columns = ((1 ∷ 2 ∷ 1 ∷ []) ∷ (2 ∷ 4 ∷ 3 ∷ []) ∷ (3 ∷ 7 ∷ 3 ∷ []) ∷ (4 ∷ 8 ∷ 5 ∷ []) ∷ (5 ∷ 9 ∷ 6 ∷ []) ∷ []) }) (no_matrix)

abbrev pub setting_narrow_panel : Setting
setting_narrow_panel = setting_with script_narrow_panel files_narrow_panel

-- both columns are carried to the second process column
abbrev pub both_carried : ℕ → List Rec
both_carried group =
    r.Recv 4 1 (piece.Whole (w 2 0)) ∷
    r.Send 4 1 (piece.Part (d 2 group) (rect 0 1 0 2)) ∷
    r.Recv 1 4 (piece.Part (d 2 group) (rect 1 2 0 2)) ∷
    r.Recv 1 0 (piece.Whole (w 0 0)) ∷
    r.Send 1 2 (piece.Whole (w 0 0)) ∷
    r.Kernel 1 (k.Lower (piece.Part (d 2 group) (rect 0 2 0 2)) (piece.Part (w 0 0) (rect 0 2 0 2)) true) ∷
    r.Kernel 1 (k.Copy (piece.Whole (w 1 0)) (piece.Part (d 2 group) (rect 0 2 0 2))) ∷
    r.Send 1 4 (piece.Whole (w 1 0)) ∷
    r.Kernel 4 (k.Copy (piece.Part (d 2 group) (rect 0 1 0 2)) (piece.Whole (w 2 0))) ∷
    r.Recv 4 3 (piece.Whole (w 0 0)) ∷
    r.Send 4 5 (piece.Whole (w 0 0)) ∷
    r.Recv 4 1 (piece.Whole (w 1 0)) ∷
    r.Kernel 4 (k.MulAdd (piece.Part (d 2 group) (rect 0 1 0 2)) 65536 (piece.Part (w 0 0) (rect 0 1 0 2)) (piece.Whole (w 1 0))) ∷
    r.Recv 5 2 (piece.Whole (w 2 0)) ∷
    r.Send 5 2 (piece.Part (co 2 group) (rect 0 1 0 2)) ∷
    r.Recv 2 5 (piece.Part (co 2 group) (rect 1 2 0 2)) ∷
    r.Send 2 5 (piece.Part (lo 2 group) (rect 1 2 0 2)) ∷
    r.Kernel 5 (k.Copy (piece.Part (co 2 group) (rect 0 1 0 2)) (piece.Whole (w 2 0))) ∷
    r.Recv 5 2 (piece.Whole (w 2 0)) ∷
    r.Send 5 2 (piece.Part (lo 2 group) (rect 0 1 0 2)) ∷
    r.Recv 2 5 (piece.Part (lo 2 group) (rect 1 2 0 2)) ∷
    r.Recv 2 1 (piece.Whole (w 0 0)) ∷
    r.Kernel 2 (k.Lower (piece.Part (co 2 group) (rect 0 2 0 2)) (piece.Part (w 0 0) (rect 0 2 0 2)) true) ∷
    r.Kernel 2 (k.Copy (piece.Whole (w 1 0)) (piece.Part (co 2 group) (rect 0 2 0 2))) ∷
    r.Send 2 5 (piece.Whole (w 1 0)) ∷
    []

abbrev pub journal_narrow_panel : List Rec
journal_narrow_panel =
    panel_found 2 ++
    r.Kernel 0 (k.Copy (piece.Whole (w 3 0)) (piece.Part (d 2 0) (rect 0 1 0 2))) ∷
    r.Send 0 3 (piece.Whole (w 3 0)) ∷
    r.Kernel 0 (k.Elim (d 2 0) 0 0 (piece.Whole (w 3 0))) ∷
    r.Kernel 0 (k.First (w 0 0) (piece.Whole (d 2 0)) 1 1) ∷
    r.Kernel 3 (k.Push (v 3 0) (piece.Whole (w 0 0)) 0) ∷
    r.Recv 3 0 (piece.Whole (w 3 0)) ∷
    r.Kernel 3 (k.Elim (d 2 0) 0 0 (piece.Whole (w 3 0))) ∷
    r.Kernel 3 (k.First (w 0 0) (piece.Whole (d 2 0)) 1 1) ∷
    least 3 0 ++
    r.Send 0 3 (piece.Whole (w 0 0)) ∷
    r.Recv 3 0 (piece.Whole (w 0 0)) ∷
    r.Take 0 (w 0 0) ∷
    r.Kernel 0 (k.Push (v 3 0) (piece.Whole (w 0 0)) 1) ∷
    r.Send 0 3 (piece.Part (d 2 0) (rect 1 2 0 2)) ∷
    r.Kernel 3 (k.Push (v 3 0) (piece.Whole (w 0 0)) 1) ∷
    r.Recv 3 0 (piece.Whole (w 2 0)) ∷
    r.Send 3 0 (piece.Part (d 2 0) (rect 0 1 0 2)) ∷
    r.Recv 0 3 (piece.Part (d 2 0) (rect 1 2 0 2)) ∷
    r.Kernel 0 (k.Copy (piece.Whole (w 3 0)) (piece.Part (d 2 0) (rect 1 2 0 2))) ∷
    r.Send 0 3 (piece.Whole (w 3 0)) ∷
    r.Kernel 0 (k.Elim (d 2 0) 1 1 (piece.Whole (w 3 0))) ∷
    handed_on 0 2 0 3 32769 ++
    r.Kernel 3 (k.Copy (piece.Part (d 2 0) (rect 0 1 0 2)) (piece.Whole (w 2 0))) ∷
    r.Recv 3 0 (piece.Whole (w 3 0)) ∷
    r.Kernel 3 (k.Elim (d 2 0) 1 1 (piece.Whole (w 3 0))) ∷
    handed_on 3 2 0 3 32769 ++
    r.Commit (mark 3 false 0 true 0) false ∷
    saved_strips 1 2 2 0 ++
    saved_strips 4 5 2 0 ++
    r.Send 0 1 (piece.Whole (d 2 0)) ∷
    r.Send 1 4 (piece.Part (d 2 0) (rect 1 2 0 2)) ∷
    r.Send 2 5 (piece.Part (co 2 0) (rect 1 2 0 2)) ∷
    r.Send 3 4 (piece.Whole (d 2 0)) ∷
    both_carried 0 ++
    opened_to 2 2 0 0 ++
    r.Kernel 5 (k.Copy (piece.Part (lo 2 0) (rect 0 1 0 2)) (piece.Whole (w 2 0))) ∷
    second_found 2 ++
    second_eliminated 2 ++
    r.Send 0 3 (piece.Part (d 2 1) (rect 1 2 0 2)) ∷
    r.Send 1 4 (piece.Part (d 2 1) (rect 1 2 0 2)) ∷
    r.Send 2 5 (piece.Part (co 2 1) (rect 1 2 0 2)) ∷
    r.Recv 3 0 (piece.Whole (w 2 0)) ∷
    r.Send 3 0 (piece.Part (d 2 1) (rect 0 1 0 2)) ∷
    r.Recv 0 3 (piece.Part (d 2 1) (rect 1 2 0 2)) ∷
    r.Send 0 1 (piece.Whole (d 2 0)) ∷
    r.Kernel 0 (k.Lower (piece.Part (d 2 1) (rect 0 2 0 2)) (piece.Part (d 2 0) (rect 0 2 0 2)) true) ∷
    r.Kernel 0 (k.Copy (piece.Whole (w 1 0)) (piece.Part (d 2 1) (rect 0 2 0 2))) ∷
    r.Send 0 3 (piece.Whole (w 1 0)) ∷
    r.Kernel 3 (k.Copy (piece.Part (d 2 1) (rect 0 1 0 2)) (piece.Whole (w 2 0))) ∷
    r.Send 3 4 (piece.Whole (d 2 0)) ∷
    r.Recv 3 0 (piece.Whole (w 1 0)) ∷
    r.Kernel 3 (k.MulAdd (piece.Part (d 2 1) (rect 0 1 0 2)) 65536 (piece.Part (d 2 0) (rect 0 1 0 2)) (piece.Whole (w 1 0))) ∷
    both_carried 1 ++
    r.Kernel 5 (k.Copy (piece.Part (lo 2 1) (rect 0 1 0 2)) (piece.Whole (w 2 0))) ∷
    r.Recv 5 4 (piece.Whole (w 0 0)) ∷
    r.Recv 5 2 (piece.Whole (w 1 0)) ∷
    r.Kernel 5 (k.MulAdd (piece.Part (co 2 1) (rect 0 1 0 2)) 65536 (piece.Part (w 0 0) (rect 0 1 0 2)) (piece.Whole (w 1 0))) ∷
    r.Commit (mark 3 false 1 true 0) false ∷
    saved_strips 0 2 2 0 ++
    saved_strips 3 5 2 0 ++
    through 1 2 0 (d 2 0) ++
    opened_to 2 2 0 1 ++
    through 4 5 3 (d 2 0) ++
    r.Kernel 5 (k.Lower (piece.Part (co 2 0) (rect 0 1 0 2)) (piece.Part (w 0 0) (rect 0 1 0 1)) true) ∷
    opened_to 5 2 0 1 ++
    r.Commit (mark 3 false 2 false 0) false ∷
    saved_row 0 2 1 ++
    saved_row 3 2 1 ++
    through 1 2 0 (d 2 0) ++
    r.Send 4 5 (piece.Whole (d 2 0)) ∷
    r.Kernel 4 (k.Lower (piece.Part (d 2 1) (rect 0 1 0 2)) (piece.Part (d 2 0) (rect 0 1 0 1)) true) ∷
    passed_on 4 5 3 ++
    r.Kernel 3 (k.Lower (piece.Part (d 2 1) (rect 0 1 0 2)) (piece.Part (w 0 0) (rect 0 1 0 1)) true) ∷
    r.Kernel 5 (k.Lower (piece.Part (co 2 1) (rect 0 1 0 2)) (piece.Part (w 0 0) (rect 0 1 0 1)) true) ∷
    printed 2

legal_narrow_panel : IsLegal setting_narrow_panel journal_narrow_panel
unfolding entry tabulate patched sum_to substituted solution quick_inverse inverse_walk
legal_narrow_panel = legal_by_quick script_narrow_panel files_narrow_panel [] journal_narrow_panel tt refl

due_narrow_panel : AreDue setting_narrow_panel false journal_narrow_panel
due_narrow_panel = refl
