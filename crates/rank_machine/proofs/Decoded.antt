-- Lost words are decoded, from one code column and from two: worked journals, 64 records.
use Rattle.std.proofs.Common.{◌<◌, ◌++◌, ◌∷◌, ℕ, true, false, Some, List, refl, arith, []}
use Rattle.std.proofs.lemmas.List.Elements.{All-from_recursion}
use Rattle.field_core.specs.Sums.{sum_to}
use Rattle.cauchy_code.proofs.Decodes.{decoding-from_columns}
use Rattle.run_data.specs.Matrix.{Matrix, entry, tabulate}
use Rattle.run_data.specs.Parts.{patched}
use Rattle.run_data.specs.declared.command.Command.TheVariants as c
use Rattle.run_data.specs.Script.{commands_of, Numbered}
use Rattle.rank_machine.specs.declared.slot.Piece.TheVariants as piece
use Rattle.rank_machine.specs.declared.kernel.Cut.TheVariants as cut
use Rattle.rank_machine.specs.declared.kernel.Kernel.TheVariants as k
use Rattle.rank_machine.specs.declared.record.Rec.{Rec}
use Rattle.rank_machine.specs.declared.record.Rec.TheVariants as r
use Rattle.rank_machine.specs.Setting.{Setting}
use Rattle.rank_machine.specs.Tests.{Known}
use Rattle.rank_machine.specs.Legal.{IsLegal}
use Rattle.rank_machine.specs.Losses.{AreDue}
use Rattle.rank_machine.proofs.Agree.{AllDecode}
use Rattle.field_core.proofs.Computing.{quick_inverse, inverse_walk}
use Rattle.local_blas.specs.Kernels.{substituted, solution}
use Rattle.rank_machine.proofs.Terms.{by_line, co, d, legal_by_quick, mark, no_matrix, quick_setting, setting_with, w}
use Rattle.rank_machine.proofs.Parts.{coded, fed, taken}

abbrev pub script_decoded : List Numbered
script_decoded = commands_of (
    Some (c.Grid (103 ∷ []) 1 2 1) ∷
    Some (c.Matrix (65 ∷ []) (103 ∷ []) 1 2 1 1 0 0 (97 ∷ 46 ∷ 116 ∷ 120 ∷ 116 ∷ [])) ∷
    Some (c.Print (65 ∷ [])) ∷
    Some (c.Lose 10 0) ∷ [])

abbrev pub files_decoded : ℕ → Matrix
files_decoded = λ line. by_line 2 line (record { rows = 1; columns = ((5 ∷ []) ∷ (7 ∷ []) ∷ []) }) (no_matrix)

abbrev pub setting_decoded : Setting
setting_decoded = setting_with script_decoded files_decoded

-- the words are sent to the code rank
abbrev pub decoded_sent : List Rec
decoded_sent =
    fed (0 ∷ 1 ∷ []) (d 2 0) ++
    r.Send 0 2 (piece.Whole (d 2 0)) ∷
    r.Send 1 2 (piece.Whole (d 2 0)) ∷
    r.Kernel 2 (k.Zero (co 2 0) 1 1) ∷
    []

-- the words are sent to the code rank, and the first one comes
abbrev pub decoded_received : List Rec
decoded_received =
    decoded_sent ++
    r.Recv 2 0 (piece.Whole (w 0 0)) ∷
    []

-- the code rank has the sum of the words
abbrev pub decoded_coded : List Rec
decoded_coded =
    fed (0 ∷ 1 ∷ []) (d 2 0) ++
    coded 0 2 0 1 1

-- the matrix is fed
abbrev pub decoded_fed : List Rec
decoded_fed =
    decoded_coded ++
    r.Commit (mark 2 true 0 false 0) false ∷
    []

-- rank 0 is lost and replaced, and the word of rank 1 comes
abbrev pub decoded_replaced : List Rec
decoded_replaced =
    r.Lose 0 ∷
    r.Restore ∷
    r.Spawn 0 ∷
    r.Kernel 0 (k.Zero (d 2 0) 1 1) ∷
    r.Send 1 0 (piece.Whole (d 2 0)) ∷
    r.Recv 0 1 (piece.Whole (w 0 0)) ∷
    []

-- the lost word is the sum of what is left
abbrev pub decoded_added : List Rec
decoded_added =
    r.Kernel 0 (k.Add (piece.Whole (d 2 0)) 65535 (piece.Whole (w 0 0)) cut.Whole) ∷
    r.Send 2 0 (piece.Whole (co 2 0)) ∷
    r.Recv 0 2 (piece.Whole (w 0 0)) ∷
    r.Kernel 0 (k.Add (piece.Whole (d 2 0)) 2 (piece.Whole (w 0 0)) cut.Whole) ∷
    []

-- the matrix is fed, and rank 0 replaced
abbrev pub decoded_restarted : List Rec
decoded_restarted =
    decoded_fed ++
    decoded_replaced

-- the matrix is fed, and its lost word decoded
abbrev pub decoded_restored : List Rec
decoded_restored =
    decoded_restarted ++
    decoded_added

-- the matrix is fed, its lost word decoded, and all committed
abbrev pub decoded_healed : List Rec
decoded_healed =
    decoded_restored ++
    r.Commit (mark 2 true 0 false 0) true ∷
    []

-- the healed commit and the print line
abbrev pub decoded_printed : List Rec
decoded_printed =
    r.Commit (mark 2 true 0 false 0) true ∷
    taken (0 ∷ 1 ∷ []) (d 2 0) ++
    r.Commit (mark 3 true 0 false 0) false ∷
    []

abbrev pub journal_decoded : List Rec
journal_decoded =
    decoded_restored ++
    decoded_printed

abbrev pub known_decoded : List Known
known_decoded = (record { q = 2; lost = (true ∷ false ∷ false ∷ []); which = 0; list = (0 ∷ 65535 ∷ 2 ∷ []) } ∷ [])

decode_decoded : AllDecode (quick_setting script_decoded files_decoded) known_decoded
unfolding quick_inverse inverse_walk
decode_decoded = (decoding-from_columns 65537 (quick_inverse 65537) 2 0 (true ∷ false ∷ false ∷ []) (0 ∷ 65535 ∷ []) (2 ∷ []) refl refl (All-from_recursion (λ k. k < 65537) (0 ∷ 65535 ∷ 2 ∷ []) (omega arith, (omega arith, (omega arith, tt)))) (refl, tt) (refl, (refl, tt)), tt)

legal_decoded : IsLegal setting_decoded journal_decoded
unfolding entry tabulate patched sum_to substituted solution quick_inverse inverse_walk
legal_decoded = legal_by_quick script_decoded files_decoded known_decoded journal_decoded decode_decoded refl

due_decoded : AreDue setting_decoded false journal_decoded
due_decoded = refl

abbrev pub script_two_codes : List Numbered
script_two_codes = commands_of (
    Some (c.Grid (103 ∷ []) 1 2 2) ∷
    Some (c.Matrix (65 ∷ []) (103 ∷ []) 1 2 1 1 0 0 (97 ∷ 46 ∷ 116 ∷ 120 ∷ 116 ∷ [])) ∷
    Some (c.Print (65 ∷ [])) ∷
    Some (c.Lose 17 0) ∷
    Some (c.Lose 17 2) ∷ [])

abbrev pub setting_two_codes : Setting
setting_two_codes = setting_with script_two_codes files_decoded

abbrev pub journal_two_codes : List Rec
journal_two_codes =
    fed (0 ∷ 1 ∷ []) (d 2 0) ++
    r.Send 0 2 (piece.Whole (d 2 0)) ∷
    r.Send 0 3 (piece.Whole (d 2 0)) ∷
    r.Send 1 2 (piece.Whole (d 2 0)) ∷
    r.Send 1 3 (piece.Whole (d 2 0)) ∷
    r.Kernel 2 (k.Zero (co 2 0) 1 1) ∷
    r.Recv 2 0 (piece.Whole (w 0 0)) ∷
    r.Kernel 2 (k.Add (piece.Whole (co 2 0)) 32769 (piece.Whole (w 0 0)) cut.Whole) ∷
    r.Recv 2 1 (piece.Whole (w 0 0)) ∷
    r.Kernel 2 (k.Add (piece.Whole (co 2 0)) 1 (piece.Whole (w 0 0)) cut.Whole) ∷
    r.Kernel 3 (k.Zero (co 2 0) 1 1) ∷
    r.Recv 3 0 (piece.Whole (w 0 0)) ∷
    r.Kernel 3 (k.Add (piece.Whole (co 2 0)) 21846 (piece.Whole (w 0 0)) cut.Whole) ∷
    r.Recv 3 1 (piece.Whole (w 0 0)) ∷
    r.Kernel 3 (k.Add (piece.Whole (co 2 0)) 32769 (piece.Whole (w 0 0)) cut.Whole) ∷
    r.Commit (mark 2 true 0 false 0) false ∷
    r.Lose 0 ∷
    r.Lose 2 ∷
    r.Restore ∷
    r.Spawn 0 ∷
    r.Spawn 2 ∷
    r.Kernel 0 (k.Zero (d 2 0) 1 1) ∷
    r.Send 1 0 (piece.Whole (d 2 0)) ∷
    r.Recv 0 1 (piece.Whole (w 0 0)) ∷
    r.Kernel 0 (k.Add (piece.Whole (d 2 0)) 32767 (piece.Whole (w 0 0)) cut.Whole) ∷
    r.Send 1 2 (piece.Whole (d 2 0)) ∷
    r.Kernel 2 (k.Zero (co 2 0) 1 1) ∷
    r.Send 3 0 (piece.Whole (co 2 0)) ∷
    r.Recv 0 3 (piece.Whole (w 0 0)) ∷
    r.Kernel 0 (k.Add (piece.Whole (d 2 0)) 3 (piece.Whole (w 0 0)) cut.Whole) ∷
    r.Send 0 2 (piece.Whole (d 2 0)) ∷
    r.Recv 2 0 (piece.Whole (w 0 0)) ∷
    r.Kernel 2 (k.Add (piece.Whole (co 2 0)) 32769 (piece.Whole (w 0 0)) cut.Whole) ∷
    r.Recv 2 1 (piece.Whole (w 0 0)) ∷
    r.Kernel 2 (k.Add (piece.Whole (co 2 0)) 1 (piece.Whole (w 0 0)) cut.Whole) ∷
    r.Commit (mark 2 true 0 false 0) true ∷
    taken (0 ∷ 1 ∷ []) (d 2 0) ++
    r.Commit (mark 3 true 0 false 0) false ∷
    []

abbrev pub known_two_codes : List Known
known_two_codes = (record { q = 2; lost = (true ∷ false ∷ false ∷ false ∷ []); which = 0; list = (0 ∷ 65535 ∷ 2 ∷ 0 ∷ []) } ∷ record { q = 2; lost = (true ∷ false ∷ true ∷ false ∷ []); which = 0; list = (0 ∷ 32767 ∷ 0 ∷ 3 ∷ []) } ∷ [])

decode_two_codes : AllDecode (quick_setting script_two_codes files_decoded) known_two_codes
unfolding quick_inverse inverse_walk
decode_two_codes = (decoding-from_columns 65537 (quick_inverse 65537) 2 0 (true ∷ false ∷ false ∷ false ∷ []) (0 ∷ 65535 ∷ []) (2 ∷ 0 ∷ []) refl refl (All-from_recursion (λ k. k < 65537) (0 ∷ 65535 ∷ 2 ∷ 0 ∷ []) (omega arith, (omega arith, (omega arith, (omega arith, tt))))) (refl, (refl, tt)) (refl, (refl, tt)), (decoding-from_columns 65537 (quick_inverse 65537) 2 0 (true ∷ false ∷ true ∷ false ∷ []) (0 ∷ 32767 ∷ []) (0 ∷ 3 ∷ []) refl refl (All-from_recursion (λ k. k < 65537) (0 ∷ 32767 ∷ 0 ∷ 3 ∷ []) (omega arith, (omega arith, (omega arith, (omega arith, tt))))) (refl, (refl, tt)) (refl, (refl, tt)), tt))

legal_two_codes : IsLegal setting_two_codes journal_two_codes
unfolding entry tabulate patched sum_to substituted solution quick_inverse inverse_walk
legal_two_codes = legal_by_quick script_two_codes files_decoded known_two_codes journal_two_codes decode_two_codes refl

due_two_codes : AreDue setting_two_codes false journal_two_codes
due_two_codes = refl
