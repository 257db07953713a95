-- Edges: two grids, repeated losses, losses at the end, links above 1, words held.
use Rattle.std.proofs.Common.{◌≡◌, ◌++◌, ◌∷◌, ℕ, true, false, Some, List, refl, []}
use Rattle.field_core.specs.Sums.{sum_to}
use Rattle.run_data.specs.Matrix.{Matrix, entry, tabulate}
use Rattle.run_data.specs.Parts.{patched}
use Rattle.run_data.specs.declared.command.Command.TheVariants as c
use Rattle.run_data.specs.Script.{commands_of, Numbered}
use Rattle.rank_machine.specs.declared.slot.Tile.TheVariants.{Words}
use Rattle.rank_machine.specs.declared.slot.Piece.TheVariants as piece
use Rattle.rank_machine.specs.declared.kernel.Kernel.TheVariants as k
use Rattle.rank_machine.specs.declared.record.Rec.{Rec}
use Rattle.rank_machine.specs.declared.record.Rec.TheVariants as r
use Rattle.rank_machine.specs.Effect.{state_after}
use Rattle.rank_machine.specs.Legal.{IsLegal}
use Rattle.rank_machine.specs.Losses.{AreDue, is_beyond_at, last_ended}
use Rattle.rank_machine.specs.Held.{most_words}
use Rattle.field_core.proofs.Computing.{quick_inverse, inverse_walk}
use Rattle.local_blas.specs.Kernels.{substituted, solution}
use Rattle.rank_machine.proofs.Terms.{by_line, d, legal_by_quick, mark, no_matrix, setting_with, w}
use Rattle.rank_machine.proofs.Parts.{fed}

abbrev pub script_grids : List Numbered
script_grids = commands_of (
    Some (c.Grid (103 ∷ []) 1 1 0) ∷
    Some (c.Grid (104 ∷ []) 2 1 0) ∷
    Some (c.Matrix (65 ∷ []) (104 ∷ []) 2 1 1 1 0 0 (97 ∷ [])) ∷
    Some (c.Matrix (66 ∷ []) (103 ∷ []) 1 1 1 1 0 0 (98 ∷ [])) ∷
    Some (c.Print (65 ∷ [])) ∷
    Some (c.Lose 8 2) ∷ Some (c.Lose 3 0) ∷ Some (c.Lose 3 0) ∷ Some (c.Lose 8 0) ∷ Some (c.Lose 9 1) ∷ [])

abbrev pub files_grids : ℕ → Matrix
files_grids = λ line. by_line 3 line (record { rows = 2; columns = ((7 ∷ 8 ∷ []) ∷ []) }) (by_line 4 line (record { rows = 1; columns = ((9 ∷ []) ∷ []) }) (no_matrix))

abbrev pub journal_grids : List Rec
journal_grids =
    fed (1 ∷ 2 ∷ []) (d 3 0) ++
    r.Commit (mark 3 true 0 false 0) false ∷
    r.Lose 0 ∷
    r.Lose 0 ∷
    r.Restore ∷
    r.Spawn 0 ∷
    r.Commit (mark 3 true 0 false 0) true ∷
    r.Feed 0 (d 4 0) ∷
    r.Commit (mark 4 true 0 false 0) false ∷
    r.Lose 2 ∷
    r.Lose 0 ∷
    []

legal_grids : IsLegal (setting_with script_grids files_grids) journal_grids
unfolding entry tabulate patched sum_to substituted solution quick_inverse inverse_walk
legal_grids = legal_by_quick script_grids files_grids [] journal_grids tt refl

due_grids : AreDue (setting_with script_grids files_grids) true journal_grids
due_grids = refl

-- after both ends: grid 0 row 0 and grid 1 row 1 are beyond, grid 1 row 0 is not; after the first two losses nothing is
beyond_here : is_beyond_at (setting_with script_grids files_grids) (state_after (setting_with script_grids files_grids) journal_grids) 0 0 ≡ true
unfolding entry tabulate patched sum_to
beyond_here = refl

beyond_there : is_beyond_at (setting_with script_grids files_grids) (state_after (setting_with script_grids files_grids) journal_grids) 1 1 ≡ true
unfolding entry tabulate patched sum_to
beyond_there = refl

not_beyond_there : is_beyond_at (setting_with script_grids files_grids) (state_after (setting_with script_grids files_grids) journal_grids) 1 0 ≡ false
unfolding entry tabulate patched sum_to
not_beyond_there = refl

abbrev pub begun : List Rec
begun = r.Feed 1 (d 3 0) ∷ r.Feed 2 (d 3 0) ∷ r.Commit (mark 3 true 0 false 0) false ∷ r.Lose 0 ∷ r.Lose 0 ∷ []

not_beyond_begun : is_beyond_at (setting_with script_grids files_grids) (state_after (setting_with script_grids files_grids) begun) 0 0 ≡ false
unfolding entry tabulate patched sum_to
not_beyond_begun = refl

last_is : last_ended journal_grids ≡ 4
last_is = refl

-- B is being fed after the commit of line 3: words that a rank may hold
held_g : most_words (setting_with script_grids files_grids) (state_after (setting_with script_grids files_grids) begun) 0 ≡ 9
unfolding entry tabulate patched sum_to
held_g = refl

-- ---- links of two messages, in order
abbrev pub script_links : List Numbered
script_links = commands_of (
    Some (c.Grid (103 ∷ []) 1 2 0) ∷
    Some (c.Matrix (65 ∷ []) (103 ∷ []) 1 2 1 1 0 0 (97 ∷ [])) ∷
    Some (c.Links 2) ∷ [])

abbrev pub files_links : ℕ → Matrix
files_links = λ line. by_line 2 line (record { rows = 1; columns = ((7 ∷ []) ∷ (8 ∷ []) ∷ []) }) (no_matrix)

abbrev pub journal_links : List Rec
journal_links =
    r.Feed 0 (d 2 0) ∷
    r.Kernel 0 (k.Zero (w 0 0) 1 1) ∷
    r.Send 0 1 (piece.Whole (d 2 0)) ∷
    r.Send 0 1 (piece.Whole (w 0 0)) ∷
    r.Recv 1 0 (piece.Whole (w 1 0)) ∷
    r.Recv 1 0 (piece.Whole (w 2 0)) ∷
    r.Feed 1 (d 2 0) ∷
    []

legal_links : IsLegal (setting_with script_links files_links) journal_links
unfolding entry tabulate patched sum_to substituted solution quick_inverse inverse_walk
legal_links = legal_by_quick script_links files_links [] journal_links tt refl

in_order : (state_after (setting_with script_links files_links) journal_links).tiles 1 (w 1 0) ≡ Some (Words (record { rows = 1; columns = (7 ∷ []) ∷ [] }))
unfolding entry tabulate patched sum_to
in_order = refl

-- a message sent to a lost rank goes where that rank is lost again
abbrev pub script_again : List Numbered
script_again = commands_of (
    Some (c.Grid (103 ∷ []) 1 2 0) ∷
    Some (c.Matrix (65 ∷ []) (103 ∷ []) 1 2 1 1 0 0 (97 ∷ [])) ∷
    Some (c.Lose 1 1) ∷ Some (c.Lose 2 1) ∷ [])

abbrev pub journal_again : List Rec
journal_again = r.Feed 0 (d 2 0) ∷ r.Lose 1 ∷ r.Send 0 1 (piece.Whole (d 2 0)) ∷ r.Lose 1 ∷ []

legal_again : IsLegal (setting_with script_again files_links) journal_again
unfolding entry tabulate patched sum_to substituted solution quick_inverse inverse_walk
legal_again = legal_by_quick script_again files_links [] journal_again tt refl

gone_again : (state_after (setting_with script_again files_links) journal_again).links 0 1 ≡ []
unfolding entry tabulate patched sum_to
gone_again = refl
