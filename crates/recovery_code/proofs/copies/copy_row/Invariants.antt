use Rattle.std.proofs.Common.{◌≡◌, ◌++◌, ◌∷◌, []}
use Rattle.std.specs.Prelude.{slice_index_or, if◌then◌else◌, false}
use Rattle.blacs_grid.specs.Places.{rank_at}
use Rattle.round_laws.specs.Turns.{each_below}
use Rattle.recovery_rounds.specs.Mending.{copy_events}
use Rattle.recovery_code.specs.Copies.{first_kept}
use Rattle.recovery_code.proofs.copies.copy_row.Given as goal

abbrev pub invariant-loop-col : goal.invariant-loop-col
invariant-loop-col g l =
    l.round ≡ l.initial.round ++ copy_events l.list (each_below l.col (λ col. if slice_index_or l.lost col false then (rank_at l.grid l.row (first_kept l.lost), rank_at l.grid l.row col) ∷ [] else []))
