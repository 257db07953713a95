-- A product whose sends go to the member before: worked journals, 189 records.
use Rattle.std.proofs.Common.{◌∷◌, ◌++◌, ℕ, true, false, Some, List, refl, []}
use Rattle.field_core.specs.Sums.{sum_to}
use Rattle.run_data.specs.Matrix.{Matrix, entry, tabulate}
use Rattle.run_data.specs.Parts.{patched}
use Rattle.run_data.specs.declared.command.Command.TheVariants as c
use Rattle.run_data.specs.Script.{commands_of, Numbered}
use Rattle.rank_machine.specs.declared.slot.Piece.TheVariants as piece
use Rattle.rank_machine.specs.declared.kernel.Kernel.TheVariants as k
use Rattle.rank_machine.specs.declared.record.Rec.{Rec}
use Rattle.rank_machine.specs.declared.record.Rec.TheVariants as r
use Rattle.rank_machine.specs.Setting.{Setting}
use Rattle.rank_machine.specs.Legal.{IsLegal}
use Rattle.rank_machine.specs.Losses.{AreDue}
use Rattle.field_core.proofs.Computing.{quick_inverse, inverse_walk}
use Rattle.local_blas.specs.Kernels.{substituted, solution}
use Rattle.rank_machine.proofs.Terms.{by_line, co, d, legal_by_quick, mark, no_matrix, rect, setting_with, w}
use Rattle.rank_machine.proofs.Parts.{coded_by_three, fed, multiplied_in, passed_on, run_on, saved, taken, through}

abbrev pub script_backwards : List Numbered
script_backwards = commands_of (
    Some (c.Grid (103 ∷ []) 2 3 1) ∷
    Some (c.Matrix (65 ∷ []) (103 ∷ []) 3 3 1 1 0 0 (97 ∷ [])) ∷
    Some (c.Matrix (66 ∷ []) (103 ∷ []) 3 3 1 1 0 0 (98 ∷ [])) ∷
    Some (c.Matrix (67 ∷ []) (103 ∷ []) 3 3 1 1 0 0 (99 ∷ [])) ∷
    Some (c.Topology (100 ∷ [])) ∷
    Some (c.Pgemm (78 ∷ []) (78 ∷ []) 3 3 3 3 (65 ∷ []) 1 1 (66 ∷ []) 1 1 5 (67 ∷ []) 1 1) ∷
    Some (c.Print (67 ∷ [])) ∷ [])

abbrev pub files_backwards : ℕ → Matrix
files_backwards = λ line. by_line 2 line (record { rows = 3; columns = ((1 ∷ 4 ∷ 7 ∷ []) ∷ (2 ∷ 5 ∷ 8 ∷ []) ∷ (3 ∷ 6 ∷ 9 ∷ []) ∷ []) }) (by_line 3 line (record { rows = 3; columns = ((5 ∷ 7 ∷ 1 ∷ []) ∷ (6 ∷ 8 ∷ 1 ∷ []) ∷ (1 ∷ 2 ∷ 1 ∷ []) ∷ []) }) (by_line 4 line (record { rows = 3; columns = ((3 ∷ 1 ∷ 2 ∷ []) ∷ (9 ∷ 1 ∷ 2 ∷ []) ∷ (1 ∷ 1 ∷ 2 ∷ []) ∷ []) }) (no_matrix)))

abbrev pub setting_backwards : Setting
setting_backwards = setting_with script_backwards files_backwards

abbrev pub journal_backwards : List Rec
journal_backwards =
    fed (0 ∷ 1 ∷ 2 ∷ 4 ∷ 5 ∷ 6 ∷ []) (d 2 0) ++
    coded_by_three 0 2 0 2 1 ++
    coded_by_three 4 2 0 1 1 ++
    r.Commit (mark 2 true 0 false 0) false ∷
    fed (0 ∷ 1 ∷ 2 ∷ 4 ∷ 5 ∷ 6 ∷ []) (d 3 0) ++
    coded_by_three 0 3 0 2 1 ++
    coded_by_three 4 3 0 1 1 ++
    r.Commit (mark 3 true 0 false 0) false ∷
    fed (0 ∷ 1 ∷ 2 ∷ 4 ∷ 5 ∷ 6 ∷ []) (d 4 0) ++
    coded_by_three 0 4 0 2 1 ++
    coded_by_three 4 4 0 1 1 ++
    r.Commit (mark 4 true 0 false 0) false ∷
    saved (0 ∷ 1 ∷ 2 ∷ []) (d 4 0) ++
    r.Save 3 (co 4 0) ∷
    saved (4 ∷ 5 ∷ 6 ∷ []) (d 4 0) ++
    r.Save 7 (co 4 0) ∷
    run_on (0 ∷ 1 ∷ 2 ∷ []) (k.Scale (piece.Whole (d 4 0)) 5) ++
    r.Kernel 3 (k.Scale (piece.Whole (co 4 0)) 5) ∷
    run_on (4 ∷ 5 ∷ 6 ∷ []) (k.Scale (piece.Whole (d 4 0)) 5) ++
    r.Kernel 7 (k.Scale (piece.Whole (co 4 0)) 5) ∷
    r.Send 0 3 (piece.Whole (d 2 0)) ∷
    r.Send 0 4 (piece.Part (d 3 0) (rect 0 1 0 1)) ∷
    r.Kernel 0 (k.MulAdd (piece.Whole (d 4 0)) 3 (piece.Part (d 2 0) (rect 0 2 0 1)) (piece.Part (d 3 0) (rect 0 1 0 1))) ∷
    r.Recv 3 0 (piece.Whole (w 0 0)) ∷
    through 3 2 1 (w 0 0) ++
    r.Send 1 5 (piece.Part (d 3 0) (rect 0 1 0 1)) ∷
    r.Kernel 1 (k.MulAdd (piece.Whole (d 4 0)) 3 (piece.Part (w 0 0) (rect 0 2 0 1)) (piece.Part (d 3 0) (rect 0 1 0 1))) ∷
    r.Send 2 6 (piece.Part (d 3 0) (rect 0 1 0 1)) ∷
    r.Kernel 2 (k.MulAdd (piece.Whole (d 4 0)) 3 (piece.Part (w 0 0) (rect 0 2 0 1)) (piece.Part (d 3 0) (rect 0 1 0 1))) ∷
    r.Send 3 7 (piece.Part (co 3 0) (rect 0 1 0 1)) ∷
    r.Kernel 3 (k.MulAdd (piece.Whole (co 4 0)) 3 (piece.Part (w 0 0) (rect 0 2 0 1)) (piece.Part (co 3 0) (rect 0 1 0 1))) ∷
    r.Send 4 7 (piece.Whole (d 2 0)) ∷
    multiplied_in 4 0 3 1 (d 4 0) (d 2 0) ++
    r.Recv 7 4 (piece.Whole (w 0 0)) ∷
    through 7 6 5 (w 0 0) ++
    multiplied_in 5 1 3 1 (d 4 0) (w 0 0) ++
    multiplied_in 6 2 3 1 (d 4 0) (w 0 0) ++
    multiplied_in 7 3 3 1 (co 4 0) (w 0 0) ++
    r.Send 1 0 (piece.Whole (d 2 0)) ∷
    r.Recv 0 1 (piece.Whole (w 0 0)) ∷
    through 0 3 2 (w 0 0) ++
    r.Send 5 4 (piece.Whole (d 2 0)) ∷
    r.Recv 4 5 (piece.Whole (w 0 0)) ∷
    r.Send 4 7 (piece.Whole (w 0 0)) ∷
    r.Send 4 0 (piece.Part (d 3 0) (rect 0 1 0 1)) ∷
    multiplied_in 0 4 3 2 (d 4 0) (w 0 0) ++
    r.Kernel 4 (k.MulAdd (piece.Whole (d 4 0)) 3 (piece.Part (w 0 0) (rect 0 1 0 1)) (piece.Part (d 3 0) (rect 0 1 0 1))) ∷
    r.Send 5 1 (piece.Part (d 3 0) (rect 0 1 0 1)) ∷
    multiplied_in 1 5 3 2 (d 4 0) (d 2 0) ++
    r.Kernel 5 (k.MulAdd (piece.Whole (d 4 0)) 3 (piece.Part (d 2 0) (rect 0 1 0 1)) (piece.Part (d 3 0) (rect 0 1 0 1))) ∷
    passed_on 4 7 6 ++
    r.Send 6 2 (piece.Part (d 3 0) (rect 0 1 0 1)) ∷
    multiplied_in 2 6 3 2 (d 4 0) (w 0 0) ++
    r.Kernel 6 (k.MulAdd (piece.Whole (d 4 0)) 3 (piece.Part (w 0 0) (rect 0 1 0 1)) (piece.Part (d 3 0) (rect 0 1 0 1))) ∷
    r.Send 7 3 (piece.Part (co 3 0) (rect 0 1 0 1)) ∷
    multiplied_in 3 7 3 2 (co 4 0) (w 0 0) ++
    r.Kernel 7 (k.MulAdd (piece.Whole (co 4 0)) 3 (piece.Part (w 0 0) (rect 0 1 0 1)) (piece.Part (co 3 0) (rect 0 1 0 1))) ∷
    through 2 1 0 (d 2 0) ++
    r.Send 0 3 (piece.Whole (w 0 0)) ∷
    r.Send 0 4 (piece.Part (d 3 0) (rect 1 2 0 1)) ∷
    r.Kernel 0 (k.MulAdd (piece.Whole (d 4 0)) 3 (piece.Part (w 0 0) (rect 0 2 0 1)) (piece.Part (d 3 0) (rect 1 2 0 1))) ∷
    r.Send 1 5 (piece.Part (d 3 0) (rect 1 2 0 1)) ∷
    r.Kernel 1 (k.MulAdd (piece.Whole (d 4 0)) 3 (piece.Part (w 0 0) (rect 0 2 0 1)) (piece.Part (d 3 0) (rect 1 2 0 1))) ∷
    r.Send 2 6 (piece.Part (d 3 0) (rect 1 2 0 1)) ∷
    r.Kernel 2 (k.MulAdd (piece.Whole (d 4 0)) 3 (piece.Part (d 2 0) (rect 0 2 0 1)) (piece.Part (d 3 0) (rect 1 2 0 1))) ∷
    r.Recv 3 0 (piece.Whole (w 0 0)) ∷
    r.Send 3 7 (piece.Part (co 3 0) (rect 1 2 0 1)) ∷
    r.Kernel 3 (k.MulAdd (piece.Whole (co 4 0)) 3 (piece.Part (w 0 0) (rect 0 2 0 1)) (piece.Part (co 3 0) (rect 1 2 0 1))) ∷
    through 6 5 4 (d 2 0) ++
    r.Send 4 7 (piece.Whole (w 0 0)) ∷
    multiplied_in 4 0 3 1 (d 4 0) (w 0 0) ++
    multiplied_in 5 1 3 1 (d 4 0) (w 0 0) ++
    multiplied_in 6 2 3 1 (d 4 0) (d 2 0) ++
    r.Recv 7 4 (piece.Whole (w 0 0)) ∷
    multiplied_in 7 3 3 1 (co 4 0) (w 0 0) ++
    r.Commit (mark 6 true 0 false 0) false ∷
    taken (0 ∷ 1 ∷ 2 ∷ 4 ∷ 5 ∷ 6 ∷ []) (d 4 0) ++
    r.Commit (mark 7 true 0 false 0) false ∷
    []

legal_backwards : IsLegal setting_backwards journal_backwards
unfolding entry tabulate patched sum_to substituted solution quick_inverse inverse_walk
legal_backwards = legal_by_quick script_backwards files_backwards [] journal_backwards tt refl

due_backwards : AreDue setting_backwards false journal_backwards
due_backwards = refl
