use Rattle.std.proofs.Common.{◌+◌, ◌++◌, ◌∷◌, [], refl, ◌∙◌}
use Rattle.rank_run.specs.declared.round.Event.TheVariants.{Local}
use Rattle.rank_machine.specs.declared.slot.Piece.TheVariants.{Whole}
use Rattle.rank_machine.specs.declared.kernel.Kernel.TheVariants.{Scale}
use Rattle.blacs_grid.specs.Places.{rank_at}
use Rattle.round_laws.proofs.Laws.{each_more}
use Rattle.product_rounds.specs.Rounds.{strip_slot}
use Rattle.product_rounds.proofs.rounds.scale_in_column.Goals as goal

pub loop-row-preserved : goal.loop-row-preserved
loop-row-preserved g c =
    each_more c.loop-row.row (c.loop-row.row + 1) (λ row. Local (rank_at c.args.x.now.grid row c.args.col) (Scale (Whole (strip_slot c.args.x.now c.args.x.now.line_c c.args.col)) c.args.x.now.beta) ∷ []) c.args.round.now c.loop-row.round c.work_at.new.round refl
    c.loop-row.invariant (c.in_ok-work_at.ensures.events ∙ (λ i. c.loop-row.round ++ Local (c.rank-rank.ensures.value i) (Scale (Whole (c.strip_slot-slot.ensures i)) c.args.x.now.beta) ∷ []))
