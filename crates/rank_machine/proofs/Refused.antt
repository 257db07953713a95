-- Short journals at the edge of what is legal: some that are, and some that look so and are refused.
use Rattle.std.proofs.Common.{◌≡◌, ◌∷◌, ℕ, true, false, Some, List, refl, arith, []}
use Rattle.field_core.specs.Sums.{sum_to}
use Rattle.run_data.specs.Matrix.{Matrix, entry, tabulate}
use Rattle.run_data.specs.Parts.{patched}
use Rattle.run_data.specs.declared.command.Command.TheVariants as c
use Rattle.run_data.specs.Script.{commands_of, Numbered}
use Rattle.rank_machine.specs.declared.slot.Tile.TheVariants.{Words}
use Rattle.rank_machine.specs.declared.slot.Piece.TheVariants as piece
use Rattle.rank_machine.specs.declared.kernel.Kernel.TheVariants as k
use Rattle.rank_machine.specs.declared.record.Rec.{Rec}
use Rattle.rank_machine.specs.declared.record.Rec.TheVariants as r
use Rattle.rank_machine.specs.Effect.{state_after}
use Rattle.rank_machine.specs.Legal.{IsLegal}
use Rattle.rank_machine.proofs.Checks.{printed_test}
use Rattle.field_core.proofs.Computing.{quick_inverse, inverse_walk}
use Rattle.local_blas.specs.Kernels.{substituted, solution}
use Rattle.rank_machine.specs.Losses.{LacksSpare}
use Rattle.rank_machine.proofs.Terms.{as_quick, by_line, d, legal_by_quick, mark, no_matrix, quick_setting, rect, setting_with, v, w}
use Rattle.rank_machine.proofs.Smallest.{files_smallest, script_smallest}

-- one word 7, then a drop line: no print line in the script
abbrev pub script_leak : List Numbered
script_leak = commands_of (
    Some (c.Grid (103 ∷ []) 1 1 0) ∷
    Some (c.Matrix (65 ∷ []) (103 ∷ []) 1 1 1 1 0 0 (97 ∷ 46 ∷ 116 ∷ 120 ∷ 116 ∷ [])) ∷
    Some (c.Discard (65 ∷ [])) ∷ [])

-- the host takes the residue 7 from a Pivots slot, in a drop line
abbrev pub journal_leak : List Rec → List Rec
journal_leak rest =
    r.Feed 0 (d 2 0) ∷
    r.Commit (mark 2 true 0 false 0) false ∷
    r.Kernel 0 (k.Copy (piece.Whole (v 3 0)) (piece.Whole (d 2 0))) ∷
    r.Take 0 (v 3 0) ∷
    rest

not_leak : (rest : List Rec) → IsLegal (setting_with script_leak files_smallest) (journal_leak rest) → ⊥
unfolding entry tabulate patched sum_to substituted solution quick_inverse inverse_walk
not_leak rest h =
    let q = as_quick script_leak files_smallest (journal_leak rest) h in
    let e : false ≡ true = q.1.1.1.0.allowed in cc

-- slots that no line has: Work of group 5, Data of line 99 and group 7, Open of group 3
abbrev pub journal_slots : List Rec
journal_slots =
    r.Kernel 0 (k.Zero (w 0 5) 1 1) ∷
    r.Kernel 0 (k.Zero (d 99 7) 1 1) ∷
    r.Feed 0 (d 2 0) ∷
    r.Commit (mark 2 true 0 false 0) false ∷
    []

legal_slots : IsLegal (setting_with script_leak files_smallest) journal_slots
unfolding entry tabulate patched sum_to substituted solution quick_inverse inverse_walk
legal_slots = legal_by_quick script_leak files_smallest [] journal_slots tt refl

-- a take of a tile of no rows, in the print line of a matrix whose word is 7: the word 0 is not printed from it
abbrev pub journal_shrunk : List Rec
journal_shrunk =
    r.Feed 0 (d 2 0) ∷
    r.Commit (mark 2 true 0 false 0) false ∷
    r.Kernel 0 (k.Copy (piece.Whole (w 0 0)) (piece.Whole (d 2 0))) ∷
    r.Save 0 (d 2 0) ∷
    r.Kernel 0 (k.Zero (d 2 0) 0 0) ∷
    r.Take 0 (d 2 0) ∷
    r.Kernel 0 (k.Zero (d 2 0) 1 1) ∷
    r.Kernel 0 (k.Copy (piece.Whole (d 2 0)) (piece.Whole (w 0 0))) ∷
    r.Commit (mark 3 true 0 false 0) false ∷
    []

legal_shrunk : IsLegal (setting_with script_smallest files_smallest) journal_shrunk
unfolding entry tabulate patched sum_to substituted solution quick_inverse inverse_walk
legal_shrunk = legal_by_quick script_smallest files_smallest [] journal_shrunk tt refl

printed_shrunk : printed_test (quick_setting script_smallest files_smallest) (state_after (quick_setting script_smallest files_smallest) journal_shrunk).committed 3 2 (record { rows = 1; columns = (0 ∷ []) ∷ [] }) ≡ false
unfolding entry tabulate patched sum_to substituted solution quick_inverse inverse_walk
printed_shrunk = refl

-- diag of a strip that was made empty: a zero is found where no entry is
abbrev pub journal_diag : List Rec → List Rec
journal_diag rest =
    r.Feed 0 (d 2 0) ∷
    r.Commit (mark 2 true 0 false 0) false ∷
    r.Save 0 (d 2 0) ∷
    r.Kernel 0 (k.Zero (d 2 0) 0 0) ∷
    r.Kernel 0 (k.Diag (w 0 0) (piece.Whole (d 2 0)) 1) ∷
    rest

not_diag : (rest : List Rec) → IsLegal (setting_with script_leak files_smallest) (journal_diag rest) → ⊥
unfolding entry tabulate patched sum_to substituted solution quick_inverse inverse_walk
not_diag rest h =
    let q = as_quick script_leak files_smallest (journal_diag rest) h in
    let e : false ≡ true = q.1.1.1.1.0.strips in cc

-- a print line of A takes the word of B, which was copied into A's saved strip
abbrev pub script_other : List Numbered
script_other = commands_of (
    Some (c.Grid (103 ∷ []) 1 1 0) ∷
    Some (c.Matrix (65 ∷ []) (103 ∷ []) 1 1 1 1 0 0 (97 ∷ [])) ∷
    Some (c.Matrix (66 ∷ []) (103 ∷ []) 1 1 1 1 0 0 (98 ∷ [])) ∷
    Some (c.Print (65 ∷ [])) ∷ [])

abbrev pub files_other : ℕ → Matrix
files_other = λ line. by_line 2 line (record { rows = 1; columns = ((7 ∷ []) ∷ []) }) (by_line 3 line (record { rows = 1; columns = ((9 ∷ []) ∷ []) }) (no_matrix))

abbrev pub journal_other : List Rec
journal_other =
    r.Feed 0 (d 2 0) ∷
    r.Commit (mark 2 true 0 false 0) false ∷
    r.Feed 0 (d 3 0) ∷
    r.Commit (mark 3 true 0 false 0) false ∷
    r.Save 0 (d 2 0) ∷
    r.Kernel 0 (k.Copy (piece.Whole (d 2 0)) (piece.Whole (d 3 0))) ∷
    r.Take 0 (d 2 0) ∷
    r.Restore ∷
    r.Take 0 (d 2 0) ∷
    r.Commit (mark 4 true 0 false 0) false ∷
    []

legal_other : IsLegal (setting_with script_other files_other) journal_other
unfolding entry tabulate patched sum_to substituted solution quick_inverse inverse_walk
legal_other = legal_by_quick script_other files_other [] journal_other tt refl

-- one spare for the only rank, which is lost twice
abbrev pub script_spares : List Numbered
script_spares = commands_of (
    Some (c.Grid (103 ∷ []) 1 1 0) ∷
    Some (c.Spares 1) ∷ [])

abbrev pub files_spares : ℕ → Matrix
files_spares = λ line. no_matrix

abbrev pub journal_spares : List Rec → List Rec
journal_spares rest =
    r.Lose 0 ∷
    r.Restore ∷
    r.Spawn 0 ∷
    r.Commit (mark 0 false 0 false 0) true ∷
    r.Lose 0 ∷
    rest

legal_spares : IsLegal (setting_with script_spares files_spares) (journal_spares [])
unfolding entry tabulate patched sum_to substituted solution quick_inverse inverse_walk
legal_spares = legal_by_quick script_spares files_spares [] (journal_spares []) tt refl

-- no rank takes its place the second time
not_spares : (rest : List Rec) → IsLegal (setting_with script_spares files_spares) (journal_spares (r.Spawn 0 ∷ rest)) → ⊥
unfolding entry tabulate patched sum_to substituted solution quick_inverse inverse_walk
not_spares rest h =
    let q = as_quick script_spares files_spares (journal_spares (r.Spawn 0 ∷ rest)) h in
    let e : false ≡ true = q.1.1.1.1.1.0.spare in cc

lacks_spares : LacksSpare (setting_with script_spares files_spares) (state_after (setting_with script_spares files_spares) (journal_spares [])) 0
unfolding sum_to
lacks_spares = (omega arith, refl, refl)

-- a rectangle is transposed, and back
abbrev pub script_trans : List Numbered
script_trans = commands_of (
    Some (c.Grid (103 ∷ []) 1 1 0) ∷
    Some (c.Matrix (65 ∷ []) (103 ∷ []) 2 3 2 3 0 0 (97 ∷ [])) ∷ [])

abbrev pub files_trans : ℕ → Matrix
files_trans = λ line. by_line 2 line (record { rows = 2; columns = (1 ∷ 2 ∷ []) ∷ (3 ∷ 4 ∷ []) ∷ (5 ∷ 6 ∷ []) ∷ [] }) (no_matrix)

abbrev pub journal_trans : List Rec
journal_trans =
    r.Feed 0 (d 2 0) ∷
    r.Kernel 0 (k.Trans (w 0 0) (piece.Whole (d 2 0))) ∷
    r.Kernel 0 (k.Trans (w 1 0) (piece.Whole (w 0 0))) ∷
    r.Kernel 0 (k.Trans (w 2 0) (piece.Part (d 2 0) (rect 0 2 1 2))) ∷
    []

legal_trans : IsLegal (setting_with script_trans files_trans) journal_trans
unfolding entry tabulate patched sum_to substituted solution quick_inverse inverse_walk
legal_trans = legal_by_quick script_trans files_trans [] journal_trans tt refl

turned : (state_after (setting_with script_trans files_trans) journal_trans).tiles 0 (w 0 0) ≡ Some (Words (record { rows = 3; columns = (1 ∷ 3 ∷ 5 ∷ []) ∷ (2 ∷ 4 ∷ 6 ∷ []) ∷ [] }))
unfolding entry tabulate patched sum_to
turned = refl

turned_twice : (state_after (setting_with script_trans files_trans) journal_trans).tiles 0 (w 1 0) ≡ Some (Words (record { rows = 2; columns = (1 ∷ 2 ∷ []) ∷ (3 ∷ 4 ∷ []) ∷ (5 ∷ 6 ∷ []) ∷ [] }))
unfolding entry tabulate patched sum_to
turned_twice = refl

turned_part : (state_after (setting_with script_trans files_trans) journal_trans).tiles 0 (w 2 0) ≡ Some (Words (record { rows = 1; columns = (3 ∷ []) ∷ (4 ∷ []) ∷ [] }))
unfolding entry tabulate patched sum_to
turned_part = refl

-- not into the slot that is read
abbrev pub journal_in_place : List Rec → List Rec
journal_in_place rest = r.Feed 0 (d 2 0) ∷ r.Kernel 0 (k.Trans (d 2 0) (piece.Whole (d 2 0))) ∷ rest

not_trans : (rest : List Rec) → IsLegal (setting_with script_trans files_trans) (journal_in_place rest) → ⊥
unfolding entry tabulate patched sum_to substituted solution quick_inverse inverse_walk
not_trans rest h =
    let q = as_quick script_trans files_trans (journal_in_place rest) h in
    let e : false ≡ true = q.1.0.apart in cc
