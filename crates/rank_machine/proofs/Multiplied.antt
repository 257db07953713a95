-- Products, with links of capacity 1 and 3: worked journals, 228 records.
use Rattle.std.proofs.Common.{◌∷◌, ◌++◌, ℕ, true, false, Some, List, refl, []}
use Rattle.field_core.specs.Sums.{sum_to}
use Rattle.run_data.specs.Matrix.{Matrix, entry, tabulate}
use Rattle.run_data.specs.Parts.{patched}
use Rattle.run_data.specs.declared.command.Command.TheVariants as c
use Rattle.run_data.specs.Script.{commands_of, Numbered}
use Rattle.rank_machine.specs.declared.slot.Piece.TheVariants as piece
use Rattle.rank_machine.specs.declared.kernel.Kernel.TheVariants as k
use Rattle.rank_machine.specs.declared.record.Rec.{Rec}
use Rattle.rank_machine.specs.declared.record.Rec.TheVariants as r
use Rattle.rank_machine.specs.Setting.{Setting}
use Rattle.rank_machine.specs.Legal.{IsLegal}
use Rattle.rank_machine.specs.Losses.{AreDue}
use Rattle.field_core.proofs.Computing.{quick_inverse, inverse_walk}
use Rattle.local_blas.specs.Kernels.{substituted, solution}
use Rattle.rank_machine.proofs.Terms.{by_line, co, d, legal_by_quick, mark, no_matrix, rect, setting_with, w}
use Rattle.rank_machine.proofs.Parts.{coded, coded_by_one, fed, multiplied_in, passed_on, run_on, saved, saved_column, taken, through}

abbrev pub script_multiplied : List Numbered
script_multiplied = commands_of (
    Some (c.Grid (103 ∷ []) 2 2 1) ∷
    Some (c.Matrix (65 ∷ []) (103 ∷ []) 2 2 1 1 0 0 (97 ∷ [])) ∷
    Some (c.Matrix (66 ∷ []) (103 ∷ []) 2 2 1 1 0 0 (98 ∷ [])) ∷
    Some (c.Matrix (67 ∷ []) (103 ∷ []) 2 2 1 1 0 0 (99 ∷ [])) ∷
    Some (c.Pgemm (78 ∷ []) (78 ∷ []) 2 2 2 3 (65 ∷ []) 1 1 (66 ∷ []) 1 1 5 (67 ∷ []) 1 1) ∷
    Some (c.Print (67 ∷ [])) ∷ [])

abbrev pub files_multiplied : ℕ → Matrix
files_multiplied = λ line. by_line 2 line (record { rows = 2; columns = ((1 ∷ 3 ∷ []) ∷ (2 ∷ 4 ∷ []) ∷ []) }) (by_line 3 line (record { rows = 2; columns = ((5 ∷ 7 ∷ []) ∷ (6 ∷ 8 ∷ []) ∷ []) }) (by_line 4 line (record { rows = 2; columns = ((3 ∷ 1 ∷ []) ∷ (9 ∷ 1 ∷ []) ∷ []) }) (no_matrix)))

abbrev pub setting_multiplied : Setting
setting_multiplied = setting_with script_multiplied files_multiplied

-- a column of the product: its strips saved and scaled, and both panels multiplied in
abbrev pub wide_product : ℕ → List Rec
wide_product group =
    saved_column 5 group ++
    r.Kernel 0 (k.Scale (piece.Whole (d 5 group)) 0) ∷
    r.Kernel 1 (k.Scale (piece.Whole (co 5 group)) 0) ∷
    r.Kernel 2 (k.Scale (piece.Whole (d 5 group)) 0) ∷
    r.Kernel 3 (k.Scale (piece.Whole (co 5 group)) 0) ∷
    r.Send 0 1 (piece.Whole (d 4 0)) ∷
    r.Send 0 2 (piece.Part (d 4 group) (rect 0 1 0 1)) ∷
    r.Kernel 0 (k.MulAdd (piece.Whole (d 5 group)) 1 (piece.Part (d 4 0) (rect 0 1 0 1)) (piece.Part (d 4 group) (rect 0 1 0 1))) ∷
    r.Recv 1 0 (piece.Whole (w 0 0)) ∷
    r.Send 1 3 (piece.Part (co 4 group) (rect 0 1 0 1)) ∷
    r.Kernel 1 (k.MulAdd (piece.Whole (co 5 group)) 1 (piece.Part (w 0 0) (rect 0 1 0 1)) (piece.Part (co 4 group) (rect 0 1 0 1))) ∷
    r.Send 2 3 (piece.Whole (d 4 0)) ∷
    multiplied_in 2 0 1 1 (d 5 group) (d 4 0) ++
    r.Recv 3 2 (piece.Whole (w 0 0)) ∷
    multiplied_in 3 1 1 1 (co 5 group) (w 0 0) ++
    r.Send 0 1 (piece.Whole (d 4 1)) ∷
    r.Recv 1 0 (piece.Whole (w 0 0)) ∷
    r.Send 2 3 (piece.Whole (d 4 1)) ∷
    r.Send 2 0 (piece.Part (d 4 group) (rect 0 1 0 1)) ∷
    multiplied_in 0 2 1 1 (d 5 group) (d 4 1) ++
    r.Kernel 2 (k.MulAdd (piece.Whole (d 5 group)) 1 (piece.Part (d 4 1) (rect 0 1 0 1)) (piece.Part (d 4 group) (rect 0 1 0 1))) ∷
    r.Recv 3 2 (piece.Whole (w 0 0)) ∷
    r.Send 3 1 (piece.Part (co 4 group) (rect 0 1 0 1)) ∷
    multiplied_in 1 3 1 1 (co 5 group) (w 0 0) ++
    r.Kernel 3 (k.MulAdd (piece.Whole (co 5 group)) 1 (piece.Part (w 0 0) (rect 0 1 0 1)) (piece.Part (co 4 group) (rect 0 1 0 1))) ∷
    []

-- A and B are fed
abbrev pub multiplied_fed : List Rec
multiplied_fed =
    fed (0 ∷ 1 ∷ 3 ∷ 4 ∷ []) (d 2 0) ++
    coded 0 2 0 1 1 ++
    coded 3 2 0 1 1 ++
    r.Commit (mark 2 true 0 false 0) false ∷
    fed (0 ∷ 1 ∷ 3 ∷ 4 ∷ []) (d 3 0) ++
    coded 0 3 0 1 1 ++
    coded 3 3 0 1 1 ++
    r.Commit (mark 3 true 0 false 0) false ∷
    []

-- C is fed, and a first strip saved
abbrev pub multiplied_begun : List Rec
multiplied_begun =
    multiplied_fed ++
    fed (0 ∷ 1 ∷ 3 ∷ 4 ∷ []) (d 4 0) ++
    coded 0 4 0 1 1 ++
    coded 3 4 0 1 1 ++
    r.Commit (mark 4 true 0 false 0) false ∷
    r.Save 0 (d 4 0) ∷
    []

-- the product is made, up to its commit
abbrev pub multiplied_done : List Rec
multiplied_done =
    multiplied_begun ++
    r.Save 1 (d 4 0) ∷
    r.Save 2 (co 4 0) ∷
    saved (3 ∷ 4 ∷ []) (d 4 0) ++
    r.Save 5 (co 4 0) ∷
    run_on (0 ∷ 1 ∷ []) (k.Scale (piece.Whole (d 4 0)) 5) ++
    r.Kernel 2 (k.Scale (piece.Whole (co 4 0)) 5) ∷
    run_on (3 ∷ 4 ∷ []) (k.Scale (piece.Whole (d 4 0)) 5) ++
    r.Kernel 5 (k.Scale (piece.Whole (co 4 0)) 5) ∷
    r.Send 0 1 (piece.Whole (d 2 0)) ∷
    r.Send 0 3 (piece.Part (d 3 0) (rect 0 1 0 1)) ∷
    r.Kernel 0 (k.MulAdd (piece.Whole (d 4 0)) 3 (piece.Part (d 2 0) (rect 0 1 0 1)) (piece.Part (d 3 0) (rect 0 1 0 1))) ∷
    r.Recv 1 0 (piece.Whole (w 0 0)) ∷
    r.Send 1 2 (piece.Whole (w 0 0)) ∷
    r.Send 1 4 (piece.Part (d 3 0) (rect 0 1 0 1)) ∷
    r.Kernel 1 (k.MulAdd (piece.Whole (d 4 0)) 3 (piece.Part (w 0 0) (rect 0 1 0 1)) (piece.Part (d 3 0) (rect 0 1 0 1))) ∷
    r.Recv 2 1 (piece.Whole (w 0 0)) ∷
    r.Send 2 5 (piece.Part (co 3 0) (rect 0 1 0 1)) ∷
    r.Kernel 2 (k.MulAdd (piece.Whole (co 4 0)) 3 (piece.Part (w 0 0) (rect 0 1 0 1)) (piece.Part (co 3 0) (rect 0 1 0 1))) ∷
    r.Send 3 4 (piece.Whole (d 2 0)) ∷
    multiplied_in 3 0 3 1 (d 4 0) (d 2 0) ++
    r.Recv 4 3 (piece.Whole (w 0 0)) ∷
    r.Send 4 5 (piece.Whole (w 0 0)) ∷
    multiplied_in 4 1 3 1 (d 4 0) (w 0 0) ++
    r.Recv 5 4 (piece.Whole (w 0 0)) ∷
    multiplied_in 5 2 3 1 (co 4 0) (w 0 0) ++
    through 1 2 0 (d 2 0) ++
    r.Send 4 5 (piece.Whole (d 2 0)) ∷
    r.Send 4 1 (piece.Part (d 3 0) (rect 0 1 0 1)) ∷
    multiplied_in 1 4 3 1 (d 4 0) (d 2 0) ++
    r.Kernel 4 (k.MulAdd (piece.Whole (d 4 0)) 3 (piece.Part (d 2 0) (rect 0 1 0 1)) (piece.Part (d 3 0) (rect 0 1 0 1))) ∷
    passed_on 4 5 3 ++
    r.Send 3 0 (piece.Part (d 3 0) (rect 0 1 0 1)) ∷
    multiplied_in 0 3 3 1 (d 4 0) (w 0 0) ++
    r.Kernel 3 (k.MulAdd (piece.Whole (d 4 0)) 3 (piece.Part (w 0 0) (rect 0 1 0 1)) (piece.Part (d 3 0) (rect 0 1 0 1))) ∷
    r.Send 5 2 (piece.Part (co 3 0) (rect 0 1 0 1)) ∷
    multiplied_in 2 5 3 1 (co 4 0) (w 0 0) ++
    r.Kernel 5 (k.MulAdd (piece.Whole (co 4 0)) 3 (piece.Part (w 0 0) (rect 0 1 0 1)) (piece.Part (co 3 0) (rect 0 1 0 1))) ∷
    []

abbrev pub journal_multiplied : List Rec
journal_multiplied =
    multiplied_done ++
    r.Commit (mark 5 true 0 false 0) false ∷
    taken (0 ∷ 1 ∷ 3 ∷ 4 ∷ []) (d 4 0) ++
    r.Commit (mark 6 true 0 false 0) false ∷
    []

legal_multiplied : IsLegal setting_multiplied journal_multiplied
unfolding entry tabulate patched sum_to substituted solution quick_inverse inverse_walk
legal_multiplied = legal_by_quick script_multiplied files_multiplied [] journal_multiplied tt refl

due_multiplied : AreDue setting_multiplied false journal_multiplied
due_multiplied = refl

abbrev pub script_wide_links : List Numbered
script_wide_links = commands_of (
    Some (c.Grid (103 ∷ []) 2 1 1) ∷
    Some (c.Links 3) ∷
    Some (c.Topology (116 ∷ [])) ∷
    Some (c.Matrix (65 ∷ []) (103 ∷ []) 2 2 1 1 0 0 (97 ∷ 46 ∷ 116 ∷ 120 ∷ 116 ∷ [])) ∷
    Some (c.Matrix (66 ∷ []) (103 ∷ []) 2 2 1 1 0 0 (98 ∷ 46 ∷ 116 ∷ 120 ∷ 116 ∷ [])) ∷
    Some (c.Pgemm (78 ∷ []) (78 ∷ []) 2 2 2 1 (65 ∷ []) 1 1 (65 ∷ []) 1 1 0 (66 ∷ []) 1 1) ∷
    Some (c.Print (66 ∷ [])) ∷ [])

abbrev pub files_wide_links : ℕ → Matrix
files_wide_links = λ line. by_line 4 line (record { rows = 2; columns = ((0 ∷ 2 ∷ []) ∷ (1 ∷ 3 ∷ []) ∷ []) }) (by_line 5 line (record { rows = 2; columns = ((4 ∷ 11 ∷ []) ∷ (1 ∷ 1 ∷ []) ∷ []) }) (no_matrix))

abbrev pub setting_wide_links : Setting
setting_wide_links = setting_with script_wide_links files_wide_links

abbrev pub journal_wide_links : List Rec
journal_wide_links =
    fed (0 ∷ 2 ∷ []) (d 4 0) ++
    fed (0 ∷ 2 ∷ []) (d 4 1) ++
    coded_by_one 0 4 0 1 1 ++
    coded_by_one 2 4 0 1 1 ++
    coded_by_one 0 4 1 1 1 ++
    coded_by_one 2 4 1 1 1 ++
    r.Commit (mark 4 true 0 false 0) false ∷
    fed (0 ∷ 2 ∷ []) (d 5 0) ++
    fed (0 ∷ 2 ∷ []) (d 5 1) ++
    coded_by_one 0 5 0 1 1 ++
    coded_by_one 2 5 0 1 1 ++
    coded_by_one 0 5 1 1 1 ++
    coded_by_one 2 5 1 1 1 ++
    r.Commit (mark 5 true 0 false 0) false ∷
    wide_product 0 ++
    r.Commit (mark 6 false 0 false 0) false ∷
    wide_product 1 ++
    r.Commit (mark 6 true 0 false 0) false ∷
    taken (0 ∷ 2 ∷ []) (d 5 0) ++
    taken (0 ∷ 2 ∷ []) (d 5 1) ++
    r.Commit (mark 7 true 0 false 0) false ∷
    []

legal_wide_links : IsLegal setting_wide_links journal_wide_links
unfolding entry tabulate patched sum_to substituted solution quick_inverse inverse_walk
legal_wide_links = legal_by_quick script_wide_links files_wide_links [] journal_wide_links tt refl

due_wide_links : AreDue setting_wide_links false journal_wide_links
due_wide_links = refl
