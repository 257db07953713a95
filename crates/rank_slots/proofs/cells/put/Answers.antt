use Rattle.std.proofs.Common.{is_some, sym, ap, subst, ◌∙◌, arith}
use Rattle.rank_slots.specs.Cells.{cell_in, AreOrdered, with_tile_in}
use Rattle.rank_slots.proofs.PlaceLaws.{below_found, place_within, put_found, put_missing, ordered-put}
use Rattle.rank_slots.proofs.cells.put.Goals as goal

pub index_mut-cell-requires : goal.index_mut-cell-requires
index_mut-cell-requires c =
    let e = c.deref.ensures.value in
    let lt = below_found c.deref.result.now c.cells.inside.items.items c.args.slot c.in-Ok.at e c.cells.invariant c.in-Ok.ensures.found.0 (ap (λ l. is_some (cell_in l c.args.slot)) (sym e) ∙ c.in-Ok.ensures.found.1) in
    omega (arith, lt, c.deref.ensures.len)

pub invariant_of-cells : goal.invariant_of-cells
invariant_of-cells c =
    let e = c.deref.ensures.value in
    let xs = c.cells.inside.items.items in
    subst AreOrdered
    (sym (put_found c.deref.result.now xs c.args.slot c.in-Ok.at c.index_mut-cell.result.now c.args.tile e c.cells.invariant c.in-Ok.ensures.found.0 (ap (λ l. is_some (cell_in l c.args.slot)) (sym e) ∙ c.in-Ok.ensures.found.1) c.index_mut-cell.ensures.value))
    (ordered-put xs c.args.slot c.args.tile c.cells.invariant)

pub insert-requires : goal.insert-requires
insert-requires c =
    let le = place_within c.deref.result.now c.args.slot in
    omega (arith, le, c.in-Err.ensures.missing.0, c.deref.ensures.len)

pub invariant_of-cells-in-Err : goal.invariant_of-cells-in-Err
invariant_of-cells-in-Err c =
    let xs = c.cells.inside.items.items in
    subst AreOrdered
    (sym (c.in_ok-insert-in-Err.ensures.items ∙ put_missing c.deref.result.now xs c.args.slot c.in-Err.at c.args.tile c.deref.ensures.value c.in-Err.ensures.missing.0 c.in-Err.ensures.missing.1))
    (ordered-put xs c.args.slot c.args.tile c.cells.invariant)

pub returns-in-Ok-clause-done : goal.returns-in-Ok-clause-done
returns-in-Ok-clause-done c =
    let e = c.deref.ensures.value in
    put_found c.deref.result.now c.cells.inside.items.items c.args.slot c.in-Ok.at c.index_mut-cell.result.now c.args.tile e c.cells.invariant c.in-Ok.ensures.found.0 (ap (λ l. is_some (cell_in l c.args.slot)) (sym e) ∙ c.in-Ok.ensures.found.1) c.index_mut-cell.ensures.value
    ∙ ap (λ l. with_tile_in l c.args.slot c.args.tile) c.cells.view_is

pub returns-in_ok-insert-in-Err-clause-done : goal.returns-in_ok-insert-in-Err-clause-done
returns-in_ok-insert-in-Err-clause-done c =
    c.in_ok-insert-in-Err.ensures.items
    ∙ put_missing c.deref.result.now c.cells.inside.items.items c.args.slot c.in-Err.at c.args.tile c.deref.ensures.value c.in-Err.ensures.missing.0 c.in-Err.ensures.missing.1
    ∙ ap (λ l. with_tile_in l c.args.slot c.args.tile) c.cells.view_is
