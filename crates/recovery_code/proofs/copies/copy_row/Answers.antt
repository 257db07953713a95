use Rattle.std.proofs.Common.{◌∷◌, [], ◌∙◌, sym, ap, subst, ◌<◌}
use Rattle.std.specs.Prelude.{slice_index_or, if◌then◌else◌, false}
use Rattle.blacs_grid.specs.Places.{rank_at}
use Rattle.recovery_code.specs.Copies.{first_kept}
use Rattle.recovery_code.proofs.Copying.{copy-apart, copy-next}
use Rattle.recovery_code.proofs.copies.copy_row.Goals as goal

pub copy_if-requires : goal.copy_if-requires
copy_if-requires g c wanted same =
    copy-apart c.args.grid.now c.args.lost.now c.first_kept-first.result c.loop-col.col c.rank-from.result c.rank-to.result c.first_kept-first.ensures.value (subst (λ n. first_kept c.args.lost.now < n) (sym c.requires.columns) c.requires.some_kept)
    c.rank-from.ensures.at_col c.rank-to.ensures.at_col wanted same

pub loop-col-preserved : goal.loop-col-preserved
loop-col-preserved g c =
    let lost = c.args.lost.now in
    let grid = c.args.grid.now in
    let first_is = c.rank-from.ensures.value ∙ ap (rank_at grid c.args.row) c.first_kept-first.ensures.value in
    copy-next c.args.list c.args.round.now c.loop-col.round c.copy_if.new.round c.loop-col.col
    (λ col. if slice_index_or lost col false then (rank_at grid c.args.row (first_kept lost), rank_at grid c.args.row col) ∷ [] else [])
    (if slice_index_or lost c.loop-col.col false then (c.rank-from.result, c.rank-to.result) ∷ [] else []) c.loop-col.invariant c.in_ok-copy_if.ensures
    (λ i. if slice_index_or lost c.loop-col.col false then (first_is i, c.rank-to.ensures.value i) ∷ [] else [])
