-- One rank and one word, with and without losses: worked journals, 37 records.
use Rattle.std.proofs.Common.{◌≡◌, ◌++◌, ◌<◌, ◌∷◌, ℕ, true, false, Option, Some, List, refl, ⊎_elim, arith, []}
use Rattle.field_core.specs.Sums.{sum_to}
use Rattle.run_data.specs.Matrix.{Matrix, entry, tabulate}
use Rattle.run_data.specs.Parts.{patched}
use Rattle.run_data.specs.declared.command.Command.{Command}
use Rattle.run_data.specs.declared.command.Command.TheVariants as c
use Rattle.run_data.specs.Script.{commands_of, Numbered}
use Rattle.rank_machine.specs.declared.record.Rec.{Rec}
use Rattle.rank_machine.specs.declared.record.Rec.TheVariants as r
use Rattle.rank_machine.specs.Setting.{Setting}
use Rattle.rank_machine.specs.Effect.{state_after}
use Rattle.rank_machine.specs.Legal.{IsLegal}
use Rattle.rank_machine.specs.Losses.{AreDue, IsBeyond}
use Rattle.field_core.proofs.Computing.{quick_inverse, inverse_walk}
use Rattle.local_blas.specs.Kernels.{substituted, solution}
use Rattle.rank_machine.proofs.Terms.{by_line, d, legal_by_quick, mark, no_matrix, setting_with}

abbrev pub lines_smallest : List (Option Command)
lines_smallest =
    Some (c.Grid (103 ∷ []) 1 1 0) ∷
    Some (c.Matrix (65 ∷ []) (103 ∷ []) 1 1 1 1 0 0 (97 ∷ 46 ∷ 116 ∷ 120 ∷ 116 ∷ [])) ∷
    Some (c.Print (65 ∷ [])) ∷ []

abbrev pub script_smallest : List Numbered
script_smallest = commands_of lines_smallest

abbrev pub files_smallest : ℕ → Matrix
files_smallest = λ line. by_line 2 line (record { rows = 1; columns = ((7 ∷ []) ∷ []) }) (no_matrix)

abbrev pub setting_smallest : Setting
setting_smallest = setting_with script_smallest files_smallest

abbrev pub journal_smallest : List Rec
journal_smallest =
    r.Feed 0 (d 2 0) ∷
    r.Commit (mark 2 true 0 false 0) false ∷
    r.Take 0 (d 2 0) ∷
    r.Commit (mark 3 true 0 false 0) false ∷
    []

legal_smallest : IsLegal setting_smallest journal_smallest
unfolding entry tabulate patched sum_to substituted solution quick_inverse inverse_walk
legal_smallest = legal_by_quick script_smallest files_smallest [] journal_smallest tt refl

due_smallest : AreDue setting_smallest false journal_smallest
due_smallest = refl

-- a loss past the last record doesn't fall
abbrev pub script_not_reached : List Numbered
script_not_reached = commands_of (lines_smallest ++ Some (c.Lose 4 0) ∷ [])

abbrev pub setting_not_reached : Setting
setting_not_reached = setting_with script_not_reached files_smallest

legal_not_reached : IsLegal setting_not_reached journal_smallest
unfolding entry tabulate patched sum_to substituted solution quick_inverse inverse_walk
legal_not_reached = legal_by_quick script_not_reached files_smallest [] journal_smallest tt refl

due_not_reached : AreDue setting_not_reached false journal_smallest
due_not_reached = refl

abbrev pub script_fed_again : List Numbered
script_fed_again = commands_of (lines_smallest ++ Some (c.Lose 1 0) ∷ [])

abbrev pub setting_fed_again : Setting
setting_fed_again = setting_with script_fed_again files_smallest

-- the rank is replaced before its first commit, and all is done anew
abbrev pub smallest_begun_again : List Rec
smallest_begun_again =
    r.Lose 0 ∷
    r.Restore ∷
    r.Spawn 0 ∷
    r.Commit (mark 0 false 0 false 0) true ∷
    journal_smallest

abbrev pub journal_fed_again : List Rec
journal_fed_again =
    r.Feed 0 (d 2 0) ∷
    smallest_begun_again

legal_fed_again : IsLegal setting_fed_again journal_fed_again
unfolding entry tabulate patched sum_to substituted solution quick_inverse inverse_walk
legal_fed_again = legal_by_quick script_fed_again files_smallest [] journal_fed_again tt refl

due_fed_again : AreDue setting_fed_again false journal_fed_again
due_fed_again = refl

abbrev pub script_no_code : List Numbered
script_no_code = commands_of (lines_smallest ++ Some (c.Lose 2 0) ∷ [])

abbrev pub setting_no_code : Setting
setting_no_code = setting_with script_no_code files_smallest

abbrev pub journal_no_code : List Rec
journal_no_code =
    r.Feed 0 (d 2 0) ∷
    r.Commit (mark 2 true 0 false 0) false ∷
    r.Lose 0 ∷
    []

legal_no_code : IsLegal setting_no_code journal_no_code
unfolding entry tabulate patched sum_to substituted solution quick_inverse inverse_walk
legal_no_code = legal_by_quick script_no_code files_smallest [] journal_no_code tt refl

due_no_code : AreDue setting_no_code true journal_no_code
due_no_code = refl

abbrev pub script_lost_twice : List Numbered
script_lost_twice = commands_of (lines_smallest ++ Some (c.Lose 1 0) ∷ Some (c.Lose 1 0) ∷ [])

abbrev pub setting_lost_twice : Setting
setting_lost_twice = setting_with script_lost_twice files_smallest

abbrev pub journal_lost_twice : List Rec
journal_lost_twice =
    r.Feed 0 (d 2 0) ∷
    r.Lose 0 ∷
    smallest_begun_again

legal_lost_twice : IsLegal setting_lost_twice journal_lost_twice
unfolding entry tabulate patched sum_to substituted solution quick_inverse inverse_walk
legal_lost_twice = legal_by_quick script_lost_twice files_smallest [] journal_lost_twice tt refl

due_lost_twice : AreDue setting_lost_twice false journal_lost_twice
due_lost_twice = refl

abbrev pub script_lost_healing : List Numbered
script_lost_healing = commands_of (lines_smallest ++ Some (c.Lose 1 0) ∷ Some (c.Lose 2 0) ∷ [])

abbrev pub setting_lost_healing : Setting
setting_lost_healing = setting_with script_lost_healing files_smallest

abbrev pub journal_lost_healing : List Rec
journal_lost_healing =
    r.Feed 0 (d 2 0) ∷
    r.Lose 0 ∷
    r.Restore ∷
    smallest_begun_again

legal_lost_healing : IsLegal setting_lost_healing journal_lost_healing
unfolding entry tabulate patched sum_to substituted solution quick_inverse inverse_walk
legal_lost_healing = legal_by_quick script_lost_healing files_smallest [] journal_lost_healing tt refl

due_lost_healing : AreDue setting_lost_healing false journal_lost_healing
due_lost_healing = refl

beyond_no_code : IsBeyond setting_no_code (state_after setting_no_code journal_no_code) 0 0
unfolding sum_to
beyond_no_code = record {
  here = refl;
  first = λ other place h. ⊎_elim (λ (l : other < 0). absurd (omega (arith, l))) (λ (e : (other ≡ 0) × (place < 0)). absurd (omega (arith, e.1))) h;
}
