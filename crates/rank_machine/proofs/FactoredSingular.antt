-- A factorization with a column without a pivot: worked journals, 378 records.
use Rattle.std.proofs.Common.{◌∷◌, ◌++◌, ℕ, true, false, List, refl, []}
use Rattle.field_core.specs.Sums.{sum_to}
use Rattle.run_data.specs.Matrix.{Matrix, entry, tabulate}
use Rattle.run_data.specs.Parts.{patched}
use Rattle.rank_machine.specs.declared.slot.Piece.TheVariants as piece
use Rattle.rank_machine.specs.declared.kernel.Kernel.TheVariants as k
use Rattle.rank_machine.specs.declared.record.Rec.{Rec}
use Rattle.rank_machine.specs.declared.record.Rec.TheVariants as r
use Rattle.rank_machine.specs.Setting.{Setting}
use Rattle.rank_machine.specs.Legal.{IsLegal}
use Rattle.rank_machine.specs.Losses.{AreDue}
use Rattle.field_core.proofs.Computing.{quick_inverse, inverse_walk}
use Rattle.local_blas.specs.Kernels.{substituted, solution}
use Rattle.rank_machine.proofs.Terms.{by_line, co, d, legal_by_quick, mark, no_matrix, rect, setting_with, v, w}
use Rattle.rank_machine.proofs.Parts.{handed_back, handed_on, opened_to, row_subtracted, saved_row, saved_strips, solved_row}
use Rattle.rank_machine.proofs.Factored.{factored_last, panel_found, script_factored, second_found}

abbrev pub files_factored_singular : ℕ → Matrix
files_factored_singular = λ line. by_line 2 line (record { rows = 3; columns = ((1 ∷ 1 ∷ 2 ∷ []) ∷ (2 ∷ 2 ∷ 4 ∷ []) ∷ (3 ∷ 4 ∷ 9 ∷ []) ∷ []) }) (no_matrix)

abbrev pub setting_factored_singular : Setting
setting_factored_singular = setting_with script_factored files_factored_singular

abbrev pub journal_factored_singular : List Rec
journal_factored_singular =
    panel_found 1 ++
    r.Kernel 0 (k.Copy (piece.Whole (w 3 0)) (piece.Part (d 2 0) (rect 0 1 0 1))) ∷
    r.Send 0 3 (piece.Whole (w 3 0)) ∷
    r.Kernel 0 (k.Elim (d 2 0) 0 0 (piece.Whole (w 3 0))) ∷
    handed_on 0 2 0 3 32769 ++
    r.Kernel 3 (k.Push (v 3 0) (piece.Whole (w 0 0)) 0) ∷
    r.Recv 3 0 (piece.Whole (w 3 0)) ∷
    r.Kernel 3 (k.Elim (d 2 0) 0 0 (piece.Whole (w 3 0))) ∷
    handed_on 3 2 0 3 32769 ++
    r.Commit (mark 3 false 0 true 0) false ∷
    saved_strips 1 2 2 0 ++
    saved_strips 4 5 2 0 ++
    r.Send 0 1 (piece.Whole (d 2 0)) ∷
    r.Recv 1 0 (piece.Whole (w 0 0)) ∷
    r.Send 1 2 (piece.Whole (w 0 0)) ∷
    solved_row 1 4 (d 2 0) (w 0 0) ++
    r.Kernel 1 (k.MulAdd (piece.Part (d 2 0) (rect 1 2 0 1)) 65536 (piece.Part (w 0 0) (rect 1 2 0 1)) (piece.Whole (w 1 0))) ∷
    r.Recv 2 1 (piece.Whole (w 0 0)) ∷
    solved_row 2 5 (co 2 0) (w 0 0) ++
    r.Kernel 2 (k.MulAdd (piece.Part (co 2 0) (rect 1 2 0 1)) 65536 (piece.Part (w 0 0) (rect 1 2 0 1)) (piece.Whole (w 1 0))) ∷
    opened_to 2 2 0 0 ++
    r.Send 3 4 (piece.Whole (d 2 0)) ∷
    r.Recv 4 3 (piece.Whole (w 0 0)) ∷
    r.Send 4 5 (piece.Whole (w 0 0)) ∷
    row_subtracted 4 1 0 (d 2 0) (w 0 0) ++
    second_found 1 ++
    r.Kernel 1 (k.Push (v 3 0) (piece.Whole (w 0 0)) 1) ∷
    handed_back 0 2 0 3 1 ++
    r.Kernel 4 (k.Push (v 3 0) (piece.Whole (w 0 0)) 1) ∷
    handed_back 3 2 0 3 1 ++
    r.Commit (mark 3 false 1 true 0) false ∷
    saved_row 0 2 1 ++
    saved_row 3 2 1 ++
    r.Send 0 1 (piece.Whole (d 2 0)) ∷
    solved_row 0 3 (d 2 1) (d 2 0) ++
    r.Kernel 0 (k.MulAdd (piece.Part (d 2 1) (rect 1 2 0 1)) 65536 (piece.Part (d 2 0) (rect 1 2 0 1)) (piece.Whole (w 1 0))) ∷
    r.Recv 1 0 (piece.Whole (w 0 0)) ∷
    r.Send 1 2 (piece.Whole (w 0 0)) ∷
    solved_row 1 4 (d 2 1) (w 0 0) ++
    r.Kernel 1 (k.MulAdd (piece.Part (d 2 1) (rect 1 2 0 1)) 65536 (piece.Part (w 0 0) (rect 1 2 0 1)) (piece.Whole (w 1 0))) ∷
    r.Recv 2 1 (piece.Whole (w 0 0)) ∷
    solved_row 2 5 (co 2 1) (w 0 0) ++
    r.Kernel 2 (k.MulAdd (piece.Part (co 2 1) (rect 1 2 0 1)) 65536 (piece.Part (w 0 0) (rect 1 2 0 1)) (piece.Whole (w 1 0))) ∷
    r.Send 3 4 (piece.Whole (d 2 0)) ∷
    row_subtracted 3 0 0 (d 2 1) (d 2 0) ++
    r.Recv 4 3 (piece.Whole (w 0 0)) ∷
    r.Send 4 5 (piece.Whole (w 0 0)) ∷
    row_subtracted 4 1 0 (d 2 1) (w 0 0) ++
    factored_last

legal_factored_singular : IsLegal setting_factored_singular journal_factored_singular
unfolding entry tabulate patched sum_to substituted solution quick_inverse inverse_walk
legal_factored_singular = legal_by_quick script_factored files_factored_singular [] journal_factored_singular tt refl

due_factored_singular : AreDue setting_factored_singular false journal_factored_singular
due_factored_singular = refl
