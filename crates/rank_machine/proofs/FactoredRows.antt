-- A factorization over three process rows with sources, and a loss: worked journals, 651 records.
use Rattle.std.proofs.Common.{◌<◌, ◌+◌, ◌++◌, ◌∷◌, ℕ, true, false, Some, List, refl, arith, []}
use Rattle.std.proofs.lemmas.List.Elements.{All-from_recursion}
use Rattle.field_core.specs.Sums.{sum_to}
use Rattle.cauchy_code.proofs.Decodes.{decoding-from_columns}
use Rattle.run_data.specs.Matrix.{entry, tabulate}
use Rattle.run_data.specs.Parts.{patched}
use Rattle.run_data.specs.declared.command.Command.TheVariants as c
use Rattle.run_data.specs.Script.{commands_of, Numbered}
use Rattle.rank_machine.specs.declared.slot.Piece.TheVariants as piece
use Rattle.rank_machine.specs.declared.kernel.Cut.TheVariants as cut
use Rattle.rank_machine.specs.declared.kernel.Kernel.TheVariants as k
use Rattle.rank_machine.specs.declared.record.Rec.{Rec}
use Rattle.rank_machine.specs.declared.record.Rec.TheVariants as r
use Rattle.rank_machine.specs.Setting.{Setting}
use Rattle.rank_machine.specs.Tests.{Known}
use Rattle.rank_machine.specs.Legal.{IsLegal}
use Rattle.rank_machine.specs.Losses.{AreDue}
use Rattle.rank_machine.proofs.Agree.{AllDecode}
use Rattle.field_core.proofs.Computing.{quick_inverse, inverse_walk}
use Rattle.local_blas.specs.Kernels.{substituted, solution}
use Rattle.rank_machine.proofs.Terms.{co, d, legal_by_quick, lo, mark, quick_setting, rect, setting_with, v, w}
use Rattle.rank_machine.proofs.Parts.{coded, fed, handed_back, handed_on, least, looked, opened_to, passed_on, restored, row_subtracted, run_on, saved, saved_row, saved_strips, solved_row, swapped, taken, through}
use Rattle.rank_machine.proofs.Factored.{files_factored}

abbrev pub script_factored_rows : List Numbered
script_factored_rows = commands_of (
    Some (c.Grid (103 ∷ []) 3 2 1) ∷
    Some (c.Matrix (65 ∷ []) (103 ∷ []) 3 3 1 1 2 1 (97 ∷ [])) ∷
    Some (c.Pgetrf 3 3 (65 ∷ []) 1 1 (86 ∷ [])) ∷
    Some (c.Pivots (86 ∷ [])) ∷
    Some (c.Print (65 ∷ [])) ∷
    Some (c.Lose 90 4) ∷ [])

abbrev pub setting_factored_rows : Setting
setting_factored_rows = setting_with script_factored_rows files_factored

-- three ranks agree on the first row with a pivot, and their strips leave the code
abbrev pub searched_by_three : ℕ → ℕ → ℕ → ℕ → ℕ → ℕ → List Rec
searched_by_three a code id group above weight =
    looked a code id group above weight ++
    looked (a + 3) (code + 3) id group above weight ++
    r.Send (a + 6) (code + 6) (piece.Whole (d id group)) ∷
    r.Kernel (a + 6) (k.First (w 0 0) (piece.Whole (d id group)) 0 above) ∷
    least (a + 6) (a + 3) ++
    least (a + 3) a ++
    through a (a + 3) (a + 6) (w 0 0) ++
    r.Recv (code + 6) (a + 6) (piece.Whole (w 0 0)) ∷
    r.Kernel (code + 6) (k.Add (piece.Whole (co id group)) weight (piece.Whole (w 0 0)) cut.Whole) ∷
    r.Take a (w 0 0) ∷
    []

-- code ranks exchange their first rows of a group, and the panel is carried to it
abbrev pub exchange_carried : ℕ → List Rec
exchange_carried group =
    swapped 8 2 (co 2 group) ++
    r.Recv 8 2 (piece.Part (co 2 group) (rect 0 1 0 1)) ∷
    swapped 8 2 (lo 2 group) ++
    passed_on 1 2 0 ++
    r.Recv 8 2 (piece.Part (lo 2 group) (rect 0 1 0 1)) ∷
    passed_on 7 8 6 ++
    solved_row 6 0 (d 2 group) (w 0 0) ++
    r.Recv 0 6 (piece.Whole (w 1 0)) ∷
    r.Send 0 3 (piece.Whole (w 1 0)) ∷
    r.Kernel 0 (k.MulAdd (piece.Part (d 2 group) (rect 0 1 0 1)) 65536 (piece.Part (w 0 0) (rect 0 1 0 1)) (piece.Whole (w 1 0))) ∷
    row_subtracted 3 0 0 (d 2 group) (w 0 0) ++
    solved_row 8 2 (co 2 group) (w 0 0) ++
    r.Recv 2 8 (piece.Whole (w 1 0)) ∷
    r.Send 2 5 (piece.Whole (w 1 0)) ∷
    r.Kernel 2 (k.MulAdd (piece.Part (co 2 group) (rect 0 1 0 1)) 65536 (piece.Part (w 0 0) (rect 0 1 0 1)) (piece.Whole (w 1 0))) ∷
    []

abbrev pub journal_factored_rows : List Rec
journal_factored_rows =
    fed (0 ∷ 1 ∷ 3 ∷ 4 ∷ 6 ∷ 7 ∷ []) (d 2 0) ++
    fed (0 ∷ 1 ∷ 3 ∷ 4 ∷ 6 ∷ 7 ∷ []) (d 2 1) ++
    coded 0 2 0 1 1 ++
    coded 3 2 0 1 1 ++
    coded 6 2 0 1 1 ++
    coded 0 2 1 1 1 ++
    coded 3 2 1 1 1 ++
    coded 6 2 1 1 1 ++
    r.Commit (mark 2 true 0 false 0) false ∷
    run_on (0 ∷ 1 ∷ 2 ∷ []) (k.Zero (v 3 0) 0 0) ++
    r.Kernel 2 (k.Zero (lo 2 0) 1 1) ∷
    r.Kernel 2 (k.Zero (lo 2 1) 1 1) ∷
    run_on (3 ∷ 4 ∷ 5 ∷ []) (k.Zero (v 3 0) 0 0) ++
    r.Kernel 5 (k.Zero (lo 2 0) 1 1) ∷
    r.Kernel 5 (k.Zero (lo 2 1) 1 1) ∷
    run_on (6 ∷ 7 ∷ 8 ∷ []) (k.Zero (v 3 0) 0 0) ++
    r.Kernel 8 (k.Zero (lo 2 0) 1 1) ∷
    r.Kernel 8 (k.Zero (lo 2 1) 1 1) ∷
    r.Commit (mark 3 false 0 false 0) false ∷
    saved (1 ∷ 4 ∷ 7 ∷ []) (d 2 0) ++
    saved (2 ∷ 5 ∷ 8 ∷ []) (co 2 0) ++
    saved (0 ∷ 1 ∷ 2 ∷ 3 ∷ 4 ∷ 5 ∷ 6 ∷ 7 ∷ 8 ∷ []) (v 3 0) ++
    looked 1 2 2 0 0 65536 ++
    r.Lose 4 ∷
    r.Restore ∷
    r.Spawn 4 ∷
    restored 3 4 5 2 0 1 1 ++
    restored 3 4 5 2 1 1 1 ++
    r.Send 3 4 (piece.Whole (v 3 0)) ∷
    r.Recv 4 3 (piece.Whole (v 3 0)) ∷
    r.Commit (mark 3 false 0 false 0) true ∷
    saved (1 ∷ 4 ∷ 7 ∷ []) (d 2 0) ++
    saved (2 ∷ 5 ∷ 8 ∷ []) (co 2 0) ++
    saved (0 ∷ 1 ∷ 2 ∷ 3 ∷ 4 ∷ 5 ∷ 6 ∷ 7 ∷ 8 ∷ []) (v 3 0) ++
    searched_by_three 1 2 2 0 0 65536 ++
    run_on (1 ∷ 4 ∷ 7 ∷ []) (k.Push (v 3 0) (piece.Whole (w 0 0)) 0) ++
    swapped 7 1 (d 2 0) ++
    r.Recv 7 1 (piece.Part (d 2 0) (rect 0 1 0 1)) ∷
    r.Kernel 7 (k.Copy (piece.Whole (w 3 0)) (piece.Part (d 2 0) (rect 0 1 0 1))) ∷
    r.Send 7 1 (piece.Whole (w 3 0)) ∷
    r.Recv 1 7 (piece.Whole (w 3 0)) ∷
    r.Send 1 4 (piece.Whole (w 3 0)) ∷
    r.Kernel 1 (k.Elim (d 2 0) 0 0 (piece.Whole (w 3 0))) ∷
    handed_back 0 2 0 3 1 ++
    r.Recv 4 1 (piece.Whole (w 3 0)) ∷
    r.Kernel 4 (k.Elim (d 2 0) 0 0 (piece.Whole (w 3 0))) ∷
    handed_back 3 2 0 3 1 ++
    r.Kernel 7 (k.Elim (d 2 0) 0 0 (piece.Whole (w 3 0))) ∷
    handed_back 6 2 0 3 1 ++
    r.Commit (mark 3 false 0 true 0) false ∷
    saved_strips 0 2 2 0 ++
    saved_strips 3 5 2 0 ++
    saved_strips 6 8 2 0 ++
    r.Send 1 2 (piece.Whole (d 2 0)) ∷
    through 4 5 3 (d 2 0) ++
    swapped 6 0 (d 2 0) ++
    r.Recv 6 0 (piece.Part (d 2 0) (rect 0 1 0 1)) ∷
    r.Send 7 8 (piece.Whole (d 2 0)) ∷
    exchange_carried 0 ++
    opened_to 2 2 0 0 ++
    row_subtracted 5 2 0 (co 2 0) (w 0 0) ++
    opened_to 5 2 0 0 ++
    opened_to 8 2 0 0 ++
    r.Commit (mark 3 false 1 false 0) false ∷
    saved (0 ∷ 3 ∷ 6 ∷ []) (d 2 0) ++
    saved (2 ∷ 5 ∷ 8 ∷ []) (co 2 0) ++
    saved (0 ∷ 1 ∷ 2 ∷ 3 ∷ 4 ∷ 5 ∷ 6 ∷ 7 ∷ 8 ∷ []) (v 3 0) ++
    searched_by_three 0 2 2 0 1 32768 ++
    r.Kernel 0 (k.Push (v 3 0) (piece.Whole (w 0 0)) 1) ∷
    r.Kernel 0 (k.Copy (piece.Whole (w 3 0)) (piece.Part (d 2 0) (rect 0 1 0 1))) ∷
    r.Send 0 3 (piece.Whole (w 3 0)) ∷
    r.Kernel 0 (k.Elim (d 2 0) 0 1 (piece.Whole (w 3 0))) ∷
    handed_on 0 2 0 3 32769 ++
    r.Kernel 3 (k.Push (v 3 0) (piece.Whole (w 0 0)) 1) ∷
    r.Recv 3 0 (piece.Whole (w 3 0)) ∷
    r.Send 3 6 (piece.Whole (w 3 0)) ∷
    r.Kernel 3 (k.Elim (d 2 0) 0 1 (piece.Whole (w 3 0))) ∷
    handed_on 3 2 0 3 32769 ++
    r.Kernel 6 (k.Push (v 3 0) (piece.Whole (w 0 0)) 1) ∷
    r.Recv 6 3 (piece.Whole (w 3 0)) ∷
    r.Kernel 6 (k.Elim (d 2 0) 0 1 (piece.Whole (w 3 0))) ∷
    handed_on 6 2 0 3 32769 ++
    r.Commit (mark 3 false 1 true 0) false ∷
    saved_row 0 2 1 ++
    saved_row 3 2 1 ++
    saved_row 6 2 1 ++
    through 4 5 3 (d 2 0) ++
    swapped 6 0 (d 2 1) ++
    r.Recv 6 0 (piece.Part (d 2 1) (rect 0 1 0 1)) ∷
    swapped 7 1 (d 2 1) ++
    r.Send 1 2 (piece.Whole (d 2 0)) ∷
    r.Recv 7 1 (piece.Part (d 2 1) (rect 0 1 0 1)) ∷
    r.Send 7 8 (piece.Whole (d 2 0)) ∷
    solved_row 7 1 (d 2 1) (d 2 0) ++
    r.Recv 1 7 (piece.Whole (w 1 0)) ∷
    r.Send 1 4 (piece.Whole (w 1 0)) ∷
    r.Kernel 1 (k.MulAdd (piece.Part (d 2 1) (rect 0 1 0 1)) 65536 (piece.Part (d 2 0) (rect 0 1 0 1)) (piece.Whole (w 1 0))) ∷
    row_subtracted 4 1 0 (d 2 1) (d 2 0) ++
    exchange_carried 1 ++
    row_subtracted 5 2 0 (co 2 1) (w 0 0) ++
    r.Commit (mark 3 false 1 true 0) false ∷
    saved_strips 1 2 2 0 ++
    saved_strips 4 5 2 0 ++
    saved_strips 7 8 2 0 ++
    through 0 1 2 (d 2 0) ++
    solved_row 2 5 (co 2 0) (w 0 0) ++
    opened_to 2 2 0 1 ++
    through 3 4 5 (d 2 0) ++
    r.Recv 5 2 (piece.Whole (w 1 0)) ∷
    r.Send 5 8 (piece.Whole (w 1 0)) ∷
    r.Kernel 5 (k.MulAdd (piece.Part (co 2 0) (rect 0 1 0 1)) 65536 (piece.Part (w 0 0) (rect 0 1 0 1)) (piece.Whole (w 1 0))) ∷
    opened_to 5 2 0 1 ++
    through 6 7 8 (d 2 0) ++
    r.Recv 8 5 (piece.Whole (w 1 0)) ∷
    opened_to 8 2 0 1 ++
    r.Commit (mark 3 false 2 false 0) false ∷
    saved_row 0 2 1 ++
    saved_row 3 2 1 ++
    saved_row 6 2 1 ++
    r.Send 0 1 (piece.Whole (d 2 0)) ∷
    solved_row 0 3 (d 2 1) (d 2 0) ++
    r.Recv 1 0 (piece.Whole (w 0 0)) ∷
    r.Send 1 2 (piece.Whole (w 0 0)) ∷
    solved_row 1 4 (d 2 1) (w 0 0) ++
    r.Recv 2 1 (piece.Whole (w 0 0)) ∷
    solved_row 2 5 (co 2 1) (w 0 0) ++
    r.Send 3 4 (piece.Whole (d 2 0)) ∷
    r.Recv 3 0 (piece.Whole (w 1 0)) ∷
    r.Send 3 6 (piece.Whole (w 1 0)) ∷
    r.Kernel 3 (k.MulAdd (piece.Part (d 2 1) (rect 0 1 0 1)) 65536 (piece.Part (d 2 0) (rect 0 1 0 1)) (piece.Whole (w 1 0))) ∷
    r.Recv 4 3 (piece.Whole (w 0 0)) ∷
    r.Send 4 5 (piece.Whole (w 0 0)) ∷
    r.Recv 4 1 (piece.Whole (w 1 0)) ∷
    r.Send 4 7 (piece.Whole (w 1 0)) ∷
    r.Kernel 4 (k.MulAdd (piece.Part (d 2 1) (rect 0 1 0 1)) 65536 (piece.Part (w 0 0) (rect 0 1 0 1)) (piece.Whole (w 1 0))) ∷
    r.Recv 5 4 (piece.Whole (w 0 0)) ∷
    r.Recv 5 2 (piece.Whole (w 1 0)) ∷
    r.Send 5 8 (piece.Whole (w 1 0)) ∷
    r.Kernel 5 (k.MulAdd (piece.Part (co 2 1) (rect 0 1 0 1)) 65536 (piece.Part (w 0 0) (rect 0 1 0 1)) (piece.Whole (w 1 0))) ∷
    r.Send 6 7 (piece.Whole (d 2 0)) ∷
    r.Recv 6 3 (piece.Whole (w 1 0)) ∷
    r.Recv 7 6 (piece.Whole (w 0 0)) ∷
    r.Send 7 8 (piece.Whole (w 0 0)) ∷
    r.Recv 7 4 (piece.Whole (w 1 0)) ∷
    r.Recv 8 7 (piece.Whole (w 0 0)) ∷
    r.Recv 8 5 (piece.Whole (w 1 0)) ∷
    r.Commit (mark 3 false 2 false 0) false ∷
    saved (1 ∷ 4 ∷ 7 ∷ []) (d 2 1) ++
    saved (2 ∷ 5 ∷ 8 ∷ []) (co 2 1) ++
    saved (0 ∷ 1 ∷ 2 ∷ 3 ∷ 4 ∷ 5 ∷ 6 ∷ 7 ∷ 8 ∷ []) (v 3 0) ++
    searched_by_three 1 2 2 1 2 65536 ++
    run_on (1 ∷ 4 ∷ []) (k.Push (v 3 0) (piece.Whole (w 0 0)) 2) ++
    r.Kernel 4 (k.Copy (piece.Whole (w 3 0)) (piece.Part (d 2 1) (rect 0 1 0 1))) ∷
    r.Send 4 7 (piece.Whole (w 3 0)) ∷
    r.Kernel 4 (k.Elim (d 2 1) 0 2 (piece.Whole (w 3 0))) ∷
    handed_back 3 2 1 3 1 ++
    r.Kernel 7 (k.Push (v 3 0) (piece.Whole (w 0 0)) 2) ∷
    r.Recv 7 4 (piece.Whole (w 3 0)) ∷
    r.Send 7 1 (piece.Whole (w 3 0)) ∷
    r.Recv 1 7 (piece.Whole (w 3 0)) ∷
    r.Kernel 1 (k.Elim (d 2 1) 0 2 (piece.Whole (w 3 0))) ∷
    handed_back 0 2 1 3 1 ++
    r.Kernel 7 (k.Elim (d 2 1) 0 2 (piece.Whole (w 3 0))) ∷
    handed_back 6 2 1 3 1 ++
    r.Commit (mark 3 false 2 true 0) false ∷
    saved_strips 0 2 2 1 ++
    saved_strips 3 5 2 1 ++
    saved_strips 6 8 2 1 ++
    through 1 2 0 (d 2 1) ++
    opened_to 2 2 1 2 ++
    through 4 5 3 (d 2 1) ++
    r.Kernel 3 (k.Lower (piece.Part (d 2 1) (rect 0 1 0 1)) (piece.Part (w 0 0) (rect 0 1 0 1)) true) ∷
    r.Kernel 5 (k.Lower (piece.Part (co 2 1) (rect 0 1 0 1)) (piece.Part (w 0 0) (rect 0 1 0 1)) true) ∷
    opened_to 5 2 1 2 ++
    through 7 8 6 (d 2 1) ++
    opened_to 8 2 1 2 ++
    r.Commit (mark 3 false 3 false 0) false ∷
    saved_row 0 2 0 ++
    saved_row 3 2 0 ++
    saved_row 6 2 0 ++
    through 1 2 0 (d 2 1) ++
    through 4 5 3 (d 2 1) ++
    r.Kernel 5 (k.Lower (piece.Part (co 2 0) (rect 0 1 0 1)) (piece.Part (w 0 0) (rect 0 1 0 1)) true) ∷
    through 7 8 6 (d 2 1) ++
    r.Commit (mark 3 false 3 false 0) false ∷
    saved (2 ∷ 5 ∷ 8 ∷ []) (co 2 0) ++
    run_on (2 ∷ 5 ∷ 8 ∷ []) (k.Add (piece.Whole (co 2 0)) 1 (piece.Whole (lo 2 0)) cut.Whole) ++
    r.Commit (mark 3 false 3 false 1) false ∷
    saved (2 ∷ 5 ∷ 8 ∷ []) (co 2 1) ++
    run_on (2 ∷ 5 ∷ 8 ∷ []) (k.Add (piece.Whole (co 2 1)) 1 (piece.Whole (lo 2 1)) cut.Whole) ++
    r.Commit (mark 3 false 3 false 2) false ∷
    run_on (0 ∷ 1 ∷ 3 ∷ 4 ∷ 6 ∷ 7 ∷ []) (k.Diag (w 0 0) (piece.Whole (d 2 0)) 3) ++
    least 7 6 ++
    least 6 4 ++
    least 4 3 ++
    least 3 1 ++
    least 1 0 ++
    r.Take 0 (w 0 0) ∷
    r.Commit (mark 3 true 0 false 0) false ∷
    r.Take 0 (v 3 0) ∷
    r.Commit (mark 4 true 0 false 0) false ∷
    taken (0 ∷ 1 ∷ 3 ∷ 4 ∷ 6 ∷ 7 ∷ []) (d 2 0) ++
    taken (0 ∷ 1 ∷ 3 ∷ 4 ∷ 6 ∷ 7 ∷ []) (d 2 1) ++
    r.Commit (mark 5 true 0 false 0) false ∷
    []

abbrev pub known_factored_rows : List Known
known_factored_rows = (record { q = 2; lost = (false ∷ true ∷ false ∷ []); which = 1; list = (32768 ∷ 0 ∷ 1 ∷ []) } ∷ [])

decode_factored_rows : AllDecode (quick_setting script_factored_rows files_factored) known_factored_rows
unfolding quick_inverse inverse_walk
decode_factored_rows = (decoding-from_columns 65537 (quick_inverse 65537) 2 1 (false ∷ true ∷ false ∷ []) (32768 ∷ 0 ∷ []) (1 ∷ []) refl refl (All-from_recursion (λ k. k < 65537) (32768 ∷ 0 ∷ 1 ∷ []) (omega arith, (omega arith, (omega arith, tt)))) (refl, tt) (refl, (refl, tt)), tt)

legal_factored_rows : IsLegal setting_factored_rows journal_factored_rows
unfolding entry tabulate patched sum_to substituted solution quick_inverse inverse_walk
legal_factored_rows = legal_by_quick script_factored_rows files_factored known_factored_rows journal_factored_rows decode_factored_rows refl

due_factored_rows : AreDue setting_factored_rows false journal_factored_rows
due_factored_rows = refl
