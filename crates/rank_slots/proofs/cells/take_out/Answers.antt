use Rattle.std.proofs.Common.{is_some, Some, sym, ap, subst, ◌∙◌, arith}
use Rattle.rank_machine.specs.declared.slot.Tile.{Tile}
use Rattle.rank_machine.specs.declared.slot.Tile.TheVariants.{Index}
use Rattle.rank_slots.specs.Cells.{tile_of, tiles_in, AreOrdered, with_tile_in, empty_tile}
use Rattle.rank_slots.proofs.PlaceLaws.{is_there, below_found, cell_found, put_found, ordered-put}
use Rattle.rank_slots.proofs.cells.take_out.Goals as goal

pub index_mut-cell-requires : goal.index_mut-cell-requires
index_mut-cell-requires c =
    let xs = c.cells.inside.items.items in
    let there = is_there xs c.args.slot (ap (λ l. is_some (tiles_in l c.args.slot)) c.cells.view_is ∙ c.requires) in
    let lt = below_found c.deref.result.now xs c.args.slot c.place_of-at.result c.deref.ensures.value c.cells.invariant c.place_of-at.ensures there in
    omega (arith, lt, c.deref.ensures.len)

pub invariant_of-cells : goal.invariant_of-cells
invariant_of-cells c =
    let xs = c.cells.inside.items.items in
    let there = is_there xs c.args.slot (ap (λ l. is_some (tiles_in l c.args.slot)) c.cells.view_is ∙ c.requires) in
    subst AreOrdered
    (sym (put_found c.deref.result.now xs c.args.slot c.place_of-at.result c.index_mut-cell.result.now c.replace.new.dest c.deref.ensures.value c.cells.invariant c.place_of-at.ensures there c.index_mut-cell.ensures.value))
    (ordered-put xs c.args.slot c.replace.new.dest c.cells.invariant)

pub returns-clause-tile : goal.returns-clause-tile
returns-clause-tile c =
    let xs = c.cells.inside.items.items in
    let there = is_there xs c.args.slot (ap (λ l. is_some (tiles_in l c.args.slot)) c.cells.view_is ∙ c.requires) in
    ap (λ l. tiles_in l c.args.slot) (sym c.cells.view_is)
    ∙ ap tile_of (cell_found c.deref.result.now xs c.args.slot c.place_of-at.result c.index_mut-cell.result.now c.deref.ensures.value c.cells.invariant c.place_of-at.ensures there c.index_mut-cell.ensures.value)
    ∙ ap (λ (t : Tile). Some t) (sym c.replace.ensures.value)

pub returns-clause-left : goal.returns-clause-left
returns-clause-left c =
    let xs = c.cells.inside.items.items in
    let there = is_there xs c.args.slot (ap (λ l. is_some (tiles_in l c.args.slot)) c.cells.view_is ∙ c.requires) in
    put_found c.deref.result.now xs c.args.slot c.place_of-at.result c.index_mut-cell.result.now c.replace.new.dest c.deref.ensures.value c.cells.invariant c.place_of-at.ensures there c.index_mut-cell.ensures.value
    ∙ ap (λ (t : Tile). with_tile_in xs c.args.slot t) (c.replace.ensures.after ∙ ap Index c.new.ensures)
    ∙ ap (λ l. with_tile_in l c.args.slot empty_tile) c.cells.view_is
