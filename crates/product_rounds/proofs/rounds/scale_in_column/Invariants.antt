use Rattle.std.proofs.Common.{◌≡◌, ◌++◌, ◌∷◌, []}
use Rattle.rank_run.specs.declared.round.Event.TheVariants.{Local}
use Rattle.rank_machine.specs.declared.slot.Piece.TheVariants.{Whole}
use Rattle.rank_machine.specs.declared.kernel.Kernel.TheVariants.{Scale}
use Rattle.blacs_grid.specs.Places.{rank_at}
use Rattle.round_laws.specs.Turns.{each_below}
use Rattle.product_rounds.specs.Rounds.{strip_slot}
use Rattle.product_rounds.proofs.rounds.scale_in_column.Given as goal

abbrev pub invariant-loop-row : goal.invariant-loop-row
invariant-loop-row g l = l.round ≡ l.initial.round ++ each_below l.row (λ row. Local (rank_at l.x.grid row l.col) (Scale (Whole (strip_slot l.x l.x.line_c l.col)) l.x.beta) ∷ [])
