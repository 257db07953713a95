use Rattle.std.proofs.Common.{◌<◌, ◌∙◌, sym, subst, arith}
use Rattle.script_lines.specs.Lines.{setting_on}
use Rattle.rank_slots.specs.Cells.{with_tile_in, tiles_in, IsTileOf, AreCellsOf}
use Rattle.rank_slots.proofs.CellWords.{cells_put, on_ok}
use Rattle.rank_machine.specs.Effect.{slot_of, target, made_by}
use Rattle.rank_memory.proofs.TakenOut.{either, fit_out, put_back, makes_residues, taken_residues, left_residues}
use Rattle.rank_memory.proofs.applied.apply_to.Goals as goal

pub returns-then-may_make-clause-residues : goal.returns-then-may_make-clause-residues
returns-then-may_make-clause-residues g c =
    let p = g.K.Field.MODULUS in
    let some : 0 < p = omega (arith, g.met.K.Field.at_least) in
    let xs = c.args.cells.now in
    let made = subst (IsTileOf p) (sym c.in_ok-tile.ensures) (makes_residues p c.args.table.now c.args.rank xs c.args.kernel.now some c.requires.residues) in
    either c.put.result (AreCellsOf p) xs (with_tile_in xs c.target_of-to.result c.in_ok-tile.tile) c.put.new.cells c.put.ensures.done c.put.ensures.kept
    (cells_put p xs c.target_of-to.result c.in_ok-tile.tile made c.requires.residues) c.requires.residues

pub changed-requires-clause-residues : goal.changed-requires-clause-residues
changed-requires-clause-residues g c = left_residues g.K.Field.MODULUS c.args.cells.now c.take_out-old.new.cells c.target_of-to.result c.take_out-old.ensures.left c.requires.residues

pub changed-requires-clause-tile_words : goal.changed-requires-clause-tile_words
changed-requires-clause-tile_words g c = taken_residues g.K.Field.MODULUS c.args.cells.now c.target_of-to.result c.take_out-old.result c.take_out-old.ensures.tile c.requires.residues

pub changed-requires-clause-fit : goal.changed-requires-clause-fit
changed-requires-clause-fit g c =
    let p = g.K.Field.MODULUS in
    fit_out p (setting_on p c.args.table.now) c.args.rank c.args.cells.now c.take_out-old.new.cells c.args.kernel.now c.target_of-to.result c.take_out-old.result c.target_of-to.ensures c.take_out-old.ensures.tile c.take_out-old.ensures.left c.requires.fit

pub returns-in_err-tile-2-clause-residues : goal.returns-in_err-tile-2-clause-residues
returns-in_err-tile-2-clause-residues g c = left_residues g.K.Field.MODULUS c.args.cells.now c.take_out-old.new.cells c.target_of-to.result c.take_out-old.ensures.left c.requires.residues

pub returns-clause-done : goal.returns-clause-done
returns-clause-done g c =
    let s = setting_on g.K.Field.MODULUS c.args.table.now in
    on_ok c.put-2.result _ _
    (λ e. e ∙ put_back s c.args.rank c.args.cells.now c.take_out-old.new.cells c.args.kernel.now c.target_of-to.result c.take_out-old.result c.in_ok-tile-2.tile c.target_of-to.ensures c.take_out-old.ensures.tile c.take_out-old.ensures.left c.in_ok-tile-2.ensures)
    c.put-2.ensures.done

pub returns-clause-residues : goal.returns-clause-residues
returns-clause-residues g c =
    let p = g.K.Field.MODULUS in
    let s = setting_on p c.args.table.now in
    let some : 0 < p = omega (arith, g.met.K.Field.at_least) in
    let xs = c.args.cells.now in
    let out = c.take_out-old.new.cells in
    let k = c.args.kernel.now in
    let back = put_back s c.args.rank xs out k c.target_of-to.result c.take_out-old.result c.in_ok-tile-2.tile c.target_of-to.ensures c.take_out-old.ensures.tile c.take_out-old.ensures.left c.in_ok-tile-2.ensures in
    let made = makes_residues p c.args.table.now c.args.rank xs k some c.requires.residues in
    either c.put-2.result (AreCellsOf p) out (with_tile_in out c.target_of-to.result c.in_ok-tile-2.tile) c.put-2.new.cells c.put-2.ensures.done c.put-2.ensures.kept
    (subst (AreCellsOf p) (sym back) (cells_put p xs (slot_of (target k)) (made_by s c.args.rank (tiles_in xs) k) made c.requires.residues))
    (left_residues p xs out c.target_of-to.result c.take_out-old.ensures.left c.requires.residues)
