-- More spoiled steps: no journal that begins so is legal. Above each stands what it breaks.
use Rattle.std.proofs.Common.{◌≡◌, ◌++◌, ◌∷◌, ℕ, true, false, Some, List, ap, []}
use Rattle.field_core.specs.Sums.{sum_to}
use Rattle.run_data.specs.Matrix.{Matrix, entry, tabulate}
use Rattle.run_data.specs.Parts.{patched}
use Rattle.run_data.specs.declared.command.Command.TheVariants as c
use Rattle.run_data.specs.Script.{commands_of, Numbered}
use Rattle.rank_machine.specs.declared.slot.Piece.TheVariants as piece
use Rattle.rank_machine.specs.declared.kernel.Cut.TheVariants as cut
use Rattle.rank_machine.specs.declared.kernel.Kernel.TheVariants as k
use Rattle.rank_machine.specs.declared.record.Rec.{Rec}
use Rattle.rank_machine.specs.declared.record.Rec.TheVariants as r
use Rattle.rank_machine.specs.Setting.{Setting}
use Rattle.rank_machine.specs.Legal.{IsLegal}
use Rattle.rank_machine.specs.Losses.{AreDue}
use Rattle.field_core.proofs.Computing.{quick_inverse, inverse_walk}
use Rattle.local_blas.specs.Kernels.{substituted, solution}
use Rattle.rank_machine.proofs.Terms.{as_quick, by_line, co, d, is_loss_at, legal_past, no_matrix, setting_with, w}
use Rattle.rank_machine.proofs.Decoded.{decoded_added, decoded_fed, decoded_healed, decoded_printed, decoded_received, decoded_replaced, decoded_sent, files_decoded, script_decoded, setting_decoded}
use Rattle.rank_machine.proofs.Multiplied.{files_multiplied, multiplied_begun, multiplied_done, script_multiplied, setting_multiplied}
use Rattle.rank_machine.proofs.Smallest.{files_smallest, script_smallest, setting_smallest}

-- the written slot is among those that are read
abbrev pub spoiled_read_and_written : List Rec → List Rec
spoiled_read_and_written rest =
    r.Kernel 2 (k.Add (piece.Whole (co 2 0)) 32769 (piece.Whole (co 2 0)) cut.Whole) ∷
    rest

not_read_and_written : (rest : List Rec) → IsLegal setting_decoded (decoded_received ++ spoiled_read_and_written rest) → ⊥
unfolding entry tabulate patched sum_to substituted solution quick_inverse inverse_walk
not_read_and_written rest h =
    let q = legal_past script_decoded files_decoded decoded_received (spoiled_read_and_written rest) h in
    let e : false ≡ true = q.0.apart in cc

-- a slot is read that is not there
abbrev pub spoiled_unheld : List Rec → List Rec
spoiled_unheld rest =
    r.Kernel 2 (k.Add (piece.Whole (co 2 0)) 32769 (piece.Whole (w 7 0)) cut.Whole) ∷
    rest

not_unheld : (rest : List Rec) → IsLegal setting_decoded (decoded_received ++ spoiled_unheld rest) → ⊥
unfolding entry tabulate patched sum_to substituted solution quick_inverse inverse_walk
not_unheld rest h =
    let q = legal_past script_decoded files_decoded decoded_received (spoiled_unheld rest) h in
    let e : false ≡ true = q.0.held in cc

-- a message of a lost rank is received
abbrev pub spoiled_from_lost : List Rec → List Rec
spoiled_from_lost rest =
    r.Lose 0 ∷
    r.Recv 2 0 (piece.Whole (w 0 0)) ∷
    rest

not_from_lost : (rest : List Rec) → IsLegal setting_decoded (decoded_sent ++ spoiled_from_lost rest) → ⊥
unfolding entry tabulate patched sum_to substituted solution quick_inverse inverse_walk
not_from_lost rest h =
    let q = legal_past script_decoded files_decoded decoded_sent (spoiled_from_lost rest) h in
    let e : false ≡ true = q.1.0.fitting in cc

-- the diagonal of a solve has a zero
abbrev pub files_zero_divisor : ℕ → Matrix
files_zero_divisor = λ line. by_line 2 line (record { rows = 1; columns = ((0 ∷ []) ∷ []) }) (no_matrix)

abbrev pub setting_zero_divisor : Setting
setting_zero_divisor = setting_with script_smallest files_zero_divisor

abbrev pub journal_zero_divisor : List Rec → List Rec
journal_zero_divisor rest =
    r.Feed 0 (d 2 0) ∷
    r.Kernel 0 (k.Copy (piece.Whole (w 0 0)) (piece.Whole (d 2 0))) ∷
    r.Kernel 0 (k.Lower (piece.Whole (w 0 0)) (piece.Whole (d 2 0)) false) ∷
    rest

not_zero_divisor : (rest : List Rec) → IsLegal setting_zero_divisor (journal_zero_divisor rest) → ⊥
unfolding entry tabulate patched sum_to substituted solution quick_inverse inverse_walk
not_zero_divisor rest h =
    let q = as_quick script_smallest files_zero_divisor (journal_zero_divisor rest) h in
    let e : false ≡ true = q.1.1.0.divisors in cc

-- a search for a row in a slot that lies in no matrix
abbrev pub journal_not_placed : List Rec → List Rec
journal_not_placed rest =
    r.Feed 0 (d 2 0) ∷
    r.Kernel 0 (k.Copy (piece.Whole (w 1 0)) (piece.Whole (d 2 0))) ∷
    r.Kernel 0 (k.First (w 0 0) (piece.Whole (w 1 0)) 0 0) ∷
    rest

not_not_placed : (rest : List Rec) → IsLegal setting_smallest (journal_not_placed rest) → ⊥
unfolding entry tabulate patched sum_to substituted solution quick_inverse inverse_walk
not_not_placed rest h =
    let q = as_quick script_smallest files_smallest (journal_not_placed rest) h in
    let e : false ≡ true = q.1.1.0.placed in cc

-- an exchange with a row that is not there
abbrev pub journal_row_not_there : List Rec → List Rec
journal_row_not_there rest =
    r.Feed 0 (d 2 0) ∷
    r.Kernel 0 (k.Swap (d 2 0) 0 1) ∷
    rest

not_row_not_there : (rest : List Rec) → IsLegal setting_smallest (journal_row_not_there rest) → ⊥
unfolding entry tabulate patched sum_to substituted solution quick_inverse inverse_walk
not_row_not_there rest h =
    let q = as_quick script_smallest files_smallest (journal_row_not_there rest) h in
    let e : false ≡ true = q.1.0.shaped in cc

-- a send of a product leaves the path of its topology
abbrev pub spoiled_other_path : List Rec → List Rec
spoiled_other_path rest =
    r.Send 0 2 (piece.Whole (d 2 0)) ∷
    rest

not_other_path : (rest : List Rec) → IsLegal setting_multiplied (multiplied_done ++ spoiled_other_path rest) → ⊥
unfolding entry tabulate patched sum_to substituted solution quick_inverse inverse_walk
not_other_path rest h =
    let q = legal_past script_multiplied files_multiplied multiplied_done (spoiled_other_path rest) h in
    let e : false ≡ true = q.0.path in cc

-- a slot is saved that is saved already
abbrev pub spoiled_saved_twice : List Rec → List Rec
spoiled_saved_twice rest =
    r.Save 0 (d 4 0) ∷
    rest

not_saved_twice : (rest : List Rec) → IsLegal setting_multiplied (multiplied_begun ++ spoiled_saved_twice rest) → ⊥
unfolding entry tabulate patched sum_to substituted solution quick_inverse inverse_walk
not_saved_twice rest h =
    let q = legal_past script_multiplied files_multiplied multiplied_begun (spoiled_saved_twice rest) h in
    let e : false ≡ true = q.0.unsaved in cc

-- a rank is replaced that is not lost
abbrev pub spoiled_early_spawn : List Rec → List Rec
spoiled_early_spawn rest =
    r.Spawn 0 ∷
    rest

not_early_spawn : (rest : List Rec) → IsLegal setting_decoded (decoded_healed ++ spoiled_early_spawn rest) → ⊥
unfolding entry tabulate patched sum_to substituted solution quick_inverse inverse_walk
not_early_spawn rest h =
    let q = legal_past script_decoded files_decoded decoded_healed (spoiled_early_spawn rest) h in
    let e : false ≡ true = q.0.gone in cc

-- a loss falls a record late
abbrev pub journal_late : List Rec
journal_late =
    decoded_fed ++
    r.Take 0 (d 2 0) ∷
    decoded_replaced ++
    decoded_added ++
    decoded_printed

not_late : AreDue setting_decoded false journal_late → ⊥
not_late h = let e : false ≡ true = ap (λ j. is_loss_at j 10) h in cc

-- a search of the diagonal on a rank that lacks a strip of the matrix
abbrev pub script_strip_missing : List Numbered
script_strip_missing = commands_of (
    Some (c.Grid (103 ∷ []) 1 1 0) ∷
    Some (c.Matrix (65 ∷ []) (103 ∷ []) 1 2 1 1 0 0 (97 ∷ 46 ∷ 116 ∷ 120 ∷ 116 ∷ [])) ∷
    Some (c.Print (65 ∷ [])) ∷ [])

abbrev pub setting_strip_missing : Setting
setting_strip_missing = setting_with script_strip_missing files_decoded

abbrev pub journal_strip_missing : List Rec → List Rec
journal_strip_missing rest =
    r.Feed 0 (d 2 0) ∷
    r.Kernel 0 (k.Diag (w 0 0) (piece.Whole (d 2 0)) 1) ∷
    rest

not_strip_missing : (rest : List Rec) → IsLegal setting_strip_missing (journal_strip_missing rest) → ⊥
unfolding entry tabulate patched sum_to substituted solution quick_inverse inverse_walk
not_strip_missing rest h =
    let q = as_quick script_strip_missing files_decoded (journal_strip_missing rest) h in
    let e : false ≡ true = q.1.0.strips in cc
