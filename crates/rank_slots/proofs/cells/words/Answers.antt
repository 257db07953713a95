use Rattle.std.proofs.Common.{length, ap, ◌∙◌, arith}
use Rattle.std.proofs.lemmas.List.{drop_all}
use Rattle.rank_slots.specs.Cells.{words_of_cells}
use Rattle.rank_slots.proofs.cells.words.Goals as goal

pub returns-clause-count : goal.returns-clause-count
returns-clause-count c =
    let same = ap length (c.deref-cell-items.ensures.value ∙ c.cells.view_is) in
    let none = ap words_of_cells (drop_all c.loop-cell.cell-index c.args.cells.now (omega (arith, same, c.loop-cell-test.false))) in
    omega (arith, none, c.loop-cell.invariant.fits, c.loop-cell.invariant.counted)
