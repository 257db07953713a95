use Rattle.std.proofs.Common.{rules, set, sym, ap, subst, ◌∙◌}
use Rattle.std.proofs.lemmas.Fn.{filter_same}
use Rattle.std.proofs.lemmas.List.Edits.{map_over_more}
use Rattle.rank_slots.specs.declared.cells.Cell.{Cell}
use Rattle.rank_slots.specs.Cells.{AreOrdered}
use Rattle.rank_slots.specs.Undone.{stays, undone, undone_in}
use Rattle.rank_slots.proofs.Kept.{lent_back}
use Rattle.rank_slots.proofs.Undone.{undone_is, ordered-undone}
use Rattle.rank_slots.proofs.cells.undo.Goals as goal

pub loop-cell-preserved : goal.loop-cell-preserved
loop-cell-preserved c =
    ap (λ (y : Cell). set c.loop-cell.cell-items c.loop-cell.cell-index y) (c.put_back.ensures ∙ ap undone (sym c.cell-item.is))
    ∙ map_over_more undone c.deref_mut-cell-items.result.now c.loop-cell.cell-items c.loop-cell.cell-index c.cell-item.result c.loop-cell-test.true c.loop-cell.invariant c.cell-item.is

pub invariant_of-cells : goal.invariant_of-cells
invariant_of-cells c =
    let old = c.cells.inside.items.items in
    let zs = c.loop-cell.cell-items in
    let passed = c.deref_mut-cell-items.ensures.value ∙ filter_same _ stays _ (λ x b f' k. search rules) old c.retain.new.self.items c.retain.ensures.filtered in
    let back = lent_back zs c.retain.new.self.items c.retain.new.self.len (c.loop-cell.auto.cell-items ∙ c.deref_mut-cell-items.ensures.len) in
    subst AreOrdered (sym (back ∙ undone_is old c.deref_mut-cell-items.result.now zs c.loop-cell.cell-index passed c.loop-cell-test.false c.loop-cell.invariant)) (ordered-undone old c.cells.invariant)

pub returns-clause-undone : goal.returns-clause-undone
returns-clause-undone c =
    let old = c.cells.inside.items.items in
    let zs = c.loop-cell.cell-items in
    let passed = c.deref_mut-cell-items.ensures.value ∙ filter_same _ stays _ (λ x b f' k. search rules) old c.retain.new.self.items c.retain.ensures.filtered in
    let back = lent_back zs c.retain.new.self.items c.retain.new.self.len (c.loop-cell.auto.cell-items ∙ c.deref_mut-cell-items.ensures.len) in
    back
    ∙ undone_is old c.deref_mut-cell-items.result.now zs c.loop-cell.cell-index passed c.loop-cell-test.false c.loop-cell.invariant
    ∙ ap undone_in c.cells.view_is
