-- A window copied from one grid to another, and strips with sources: worked journals, 193 records.
use Rattle.std.proofs.Common.{◌∷◌, ◌++◌, ℕ, true, false, Some, List, refl, []}
use Rattle.field_core.specs.Sums.{sum_to}
use Rattle.run_data.specs.Matrix.{Matrix, entry, tabulate}
use Rattle.run_data.specs.Parts.{patched}
use Rattle.run_data.specs.declared.command.Command.TheVariants as c
use Rattle.run_data.specs.Script.{commands_of, Numbered}
use Rattle.rank_machine.specs.declared.slot.Piece.TheVariants as piece
use Rattle.rank_machine.specs.declared.record.Rec.{Rec}
use Rattle.rank_machine.specs.declared.record.Rec.TheVariants as r
use Rattle.rank_machine.specs.Setting.{Setting}
use Rattle.rank_machine.specs.Legal.{IsLegal}
use Rattle.rank_machine.specs.Losses.{AreDue}
use Rattle.field_core.proofs.Computing.{quick_inverse, inverse_walk}
use Rattle.local_blas.specs.Kernels.{substituted, solution}
use Rattle.rank_machine.proofs.Terms.{by_line, d, legal_by_quick, mark, no_matrix, rect, setting_with}
use Rattle.rank_machine.proofs.Parts.{coded_by_three, fed, saved, taken}

abbrev pub script_redistributed : List Numbered
script_redistributed = commands_of (
    Some (c.Grid (103 ∷ []) 2 3 1) ∷
    Some (c.Grid (104 ∷ []) 3 1 0) ∷
    Some (c.Matrix (65 ∷ []) (103 ∷ []) 3 4 2 2 1 2 (97 ∷ [])) ∷
    Some (c.Matrix (66 ∷ []) (104 ∷ []) 3 4 5 5 0 0 (98 ∷ [])) ∷
    Some (c.Pgemr2d 3 3 (65 ∷ []) 1 2 (66 ∷ []) 1 1 (97 ∷ 108 ∷ 108 ∷ [])) ∷
    Some (c.Print (66 ∷ [])) ∷ [])

abbrev pub files_redistributed : ℕ → Matrix
files_redistributed = λ line. by_line 3 line (record { rows = 3; columns = ((11 ∷ 21 ∷ 31 ∷ []) ∷ (12 ∷ 22 ∷ 32 ∷ []) ∷ (13 ∷ 23 ∷ 33 ∷ []) ∷ (14 ∷ 24 ∷ 34 ∷ []) ∷ []) }) (by_line 4 line (record { rows = 3; columns = ((0 ∷ 0 ∷ 0 ∷ []) ∷ (0 ∷ 0 ∷ 0 ∷ []) ∷ (0 ∷ 0 ∷ 0 ∷ []) ∷ (0 ∷ 0 ∷ 0 ∷ []) ∷ []) }) (no_matrix))

abbrev pub setting_redistributed : Setting
setting_redistributed = setting_with script_redistributed files_redistributed

-- A is fed, up to its commit
abbrev pub redistributed_fed : List Rec
redistributed_fed =
    fed (0 ∷ 1 ∷ 2 ∷ 4 ∷ 5 ∷ 6 ∷ []) (d 3 0) ++
    coded_by_three 0 3 0 1 2 ++
    coded_by_three 4 3 0 2 2

-- A and B are fed
abbrev pub redistributed_begun : List Rec
redistributed_begun =
    redistributed_fed ++
    r.Commit (mark 3 true 0 false 0) false ∷
    fed (8 ∷ 9 ∷ 10 ∷ []) (d 4 0) ++
    r.Commit (mark 4 true 0 false 0) false ∷
    []

-- A and B are fed, and the strips of B saved
abbrev pub redistributed_saved : List Rec
redistributed_saved =
    redistributed_begun ++
    saved (8 ∷ 9 ∷ 10 ∷ []) (d 4 0)

-- the parts of the window are sent
abbrev pub redistributed_sent : List Rec
redistributed_sent =
    r.Send 0 8 (piece.Part (d 3 0) (rect 0 1 0 2)) ∷
    r.Send 2 8 (piece.Part (d 3 0) (rect 0 1 1 2)) ∷
    r.Send 4 8 (piece.Part (d 3 0) (rect 0 2 0 2)) ∷
    r.Send 6 8 (piece.Part (d 3 0) (rect 0 2 1 2)) ∷
    []

abbrev pub journal_redistributed : List Rec
journal_redistributed =
    redistributed_saved ++
    redistributed_sent ++
    r.Recv 8 6 (piece.Part (d 4 0) (rect 0 2 0 1)) ∷
    r.Recv 8 2 (piece.Part (d 4 0) (rect 2 3 0 1)) ∷
    r.Recv 8 4 (piece.Part (d 4 0) (rect 0 2 1 3)) ∷
    r.Recv 8 0 (piece.Part (d 4 0) (rect 2 3 1 3)) ∷
    r.Commit (mark 5 true 0 false 0) false ∷
    taken (8 ∷ 9 ∷ 10 ∷ []) (d 4 0) ++
    r.Commit (mark 6 true 0 false 0) false ∷
    []

legal_redistributed : IsLegal setting_redistributed journal_redistributed
unfolding entry tabulate patched sum_to substituted solution quick_inverse inverse_walk
legal_redistributed = legal_by_quick script_redistributed files_redistributed [] journal_redistributed tt refl

due_redistributed : AreDue setting_redistributed false journal_redistributed
due_redistributed = refl

abbrev pub script_sources : List Numbered
script_sources = commands_of (
    Some (c.Grid (103 ∷ []) 3 3 1) ∷
    Some (c.Matrix (65 ∷ []) (103 ∷ []) 5 7 2 1 1 2 (97 ∷ [])) ∷
    Some (c.Print (65 ∷ [])) ∷ [])

abbrev pub files_sources : ℕ → Matrix
files_sources = λ line. by_line 2 line (record { rows = 5; columns = ((0 ∷ 10 ∷ 20 ∷ 30 ∷ 40 ∷ []) ∷ (1 ∷ 11 ∷ 21 ∷ 31 ∷ 41 ∷ []) ∷ (2 ∷ 12 ∷ 22 ∷ 32 ∷ 42 ∷ []) ∷ (3 ∷ 13 ∷ 23 ∷ 33 ∷ 43 ∷ []) ∷ (4 ∷ 14 ∷ 24 ∷ 34 ∷ 44 ∷ []) ∷ (5 ∷ 15 ∷ 25 ∷ 35 ∷ 45 ∷ []) ∷ (6 ∷ 16 ∷ 26 ∷ 36 ∷ 46 ∷ []) ∷ []) }) (no_matrix)

abbrev pub setting_sources : Setting
setting_sources = setting_with script_sources files_sources

abbrev pub journal_sources : List Rec
journal_sources =
    fed (0 ∷ 1 ∷ 2 ∷ 4 ∷ 5 ∷ 6 ∷ 8 ∷ 9 ∷ 10 ∷ []) (d 2 0) ++
    fed (0 ∷ 1 ∷ 2 ∷ 4 ∷ 5 ∷ 6 ∷ 8 ∷ 9 ∷ 10 ∷ []) (d 2 1) ++
    fed (0 ∷ 1 ∷ 2 ∷ 4 ∷ 5 ∷ 6 ∷ 8 ∷ 9 ∷ 10 ∷ []) (d 2 2) ++
    coded_by_three 0 2 0 1 1 ++
    coded_by_three 4 2 0 2 1 ++
    coded_by_three 8 2 0 2 1 ++
    coded_by_three 0 2 1 1 1 ++
    coded_by_three 4 2 1 2 1 ++
    coded_by_three 8 2 1 2 1 ++
    coded_by_three 0 2 2 1 1 ++
    coded_by_three 4 2 2 2 1 ++
    coded_by_three 8 2 2 2 1 ++
    r.Commit (mark 2 true 0 false 0) false ∷
    taken (0 ∷ 1 ∷ 2 ∷ 4 ∷ 5 ∷ 6 ∷ 8 ∷ 9 ∷ 10 ∷ []) (d 2 0) ++
    taken (0 ∷ 1 ∷ 2 ∷ 4 ∷ 5 ∷ 6 ∷ 8 ∷ 9 ∷ 10 ∷ []) (d 2 1) ++
    taken (0 ∷ 1 ∷ 2 ∷ 4 ∷ 5 ∷ 6 ∷ 8 ∷ 9 ∷ 10 ∷ []) (d 2 2) ++
    r.Commit (mark 3 true 0 false 0) false ∷
    []

legal_sources : IsLegal setting_sources journal_sources
unfolding entry tabulate patched sum_to substituted solution quick_inverse inverse_walk
legal_sources = legal_by_quick script_sources files_sources [] journal_sources tt refl

due_sources : AreDue setting_sources false journal_sources
due_sources = refl
