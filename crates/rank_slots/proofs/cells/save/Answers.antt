use Rattle.std.proofs.Common.{is_some, sym, ap, subst, ◌∙◌, arith}
use Rattle.rank_slots.specs.Cells.{tiles_in, AreOrdered, with_saved_in}
use Rattle.rank_slots.proofs.PlaceLaws.{is_there, below_found, save_found, ordered-save}
use Rattle.rank_slots.proofs.cells.save.Goals as goal

pub index_mut-cell-requires : goal.index_mut-cell-requires
index_mut-cell-requires c =
    let xs = c.cells.inside.items.items in
    let there = is_there xs c.args.slot (ap (λ l. is_some (tiles_in l c.args.slot)) c.cells.view_is ∙ c.requires) in
    let lt = below_found c.deref.result.now xs c.args.slot c.place_of-at.result c.deref.ensures.value c.cells.invariant c.place_of-at.ensures there in
    omega (arith, lt, c.deref.ensures.len)

pub invariant_of-cells-2 : goal.invariant_of-cells-2
invariant_of-cells-2 c =
    let xs = c.cells.inside.items.items in
    let there = is_there xs c.args.slot (ap (λ l. is_some (tiles_in l c.args.slot)) c.cells.view_is ∙ c.requires) in
    subst AreOrdered
    (sym (save_found c.deref.result.now xs c.args.slot c.place_of-at.result c.index_mut-cell.result.now c.in_ok-copy.field-0 c.deref.ensures.value c.cells.invariant c.place_of-at.ensures there c.index_mut-cell.ensures.value c.in_ok-copy.ensures))
    (ordered-save xs c.args.slot c.cells.invariant)

pub returns-clause-done : goal.returns-clause-done
returns-clause-done c =
    let xs = c.cells.inside.items.items in
    let there = is_there xs c.args.slot (ap (λ l. is_some (tiles_in l c.args.slot)) c.cells.view_is ∙ c.requires) in
    save_found c.deref.result.now xs c.args.slot c.place_of-at.result c.index_mut-cell.result.now c.in_ok-copy.field-0 c.deref.ensures.value c.cells.invariant c.place_of-at.ensures there c.index_mut-cell.ensures.value c.in_ok-copy.ensures
    ∙ ap (λ l. with_saved_in l c.args.slot) c.cells.view_is
