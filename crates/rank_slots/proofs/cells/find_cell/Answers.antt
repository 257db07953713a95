use Rattle.std.proofs.Common.{is_some, sym, ap, ◌∙◌, arith}
use Rattle.rank_slots.specs.Cells.{cell_in}
use Rattle.rank_slots.proofs.PlaceLaws.{below_found, cell_found}
use Rattle.rank_slots.proofs.cells.find_cell.Goals as goal

pub index-requires : goal.index-requires
index-requires c =
    let e = c.deref.ensures.value in
    let lt = below_found c.deref.result.now c.cells.inside.items.items c.args.slot c.in-Ok.at e c.cells.invariant c.in-Ok.ensures.found.0 (ap (λ l. is_some (cell_in l c.args.slot)) (sym e) ∙ c.in-Ok.ensures.found.1) in
    omega (arith, lt, c.deref.ensures.len)

pub returns-in-Ok : goal.returns-in-Ok
returns-in-Ok c =
    let e = c.deref.ensures.value in
    sym (cell_found c.deref.result.now c.cells.inside.items.items c.args.slot c.in-Ok.at c.index.result.now e c.cells.invariant c.in-Ok.ensures.found.0 (ap (λ l. is_some (cell_in l c.args.slot)) (sym e) ∙ c.in-Ok.ensures.found.1) c.index.ensures)
    ∙ ap (λ l. cell_in l c.args.slot) c.cells.view_is
