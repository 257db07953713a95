use Rattle.std.proofs.Common.{◌<◌, ◌∙◌, sym, subst, arith}
use Rattle.rank_machine.specs.declared.slot.Tile.TheVariants.{Words}
use Rattle.rank_slots.specs.Cells.{with_tile_in, AreCellsOf}
use Rattle.rank_slots.proofs.CellWords.{on_ok}
use Rattle.rank_memory.proofs.TakenOut.{either, left_residues, part_back, part_residues}
use Rattle.rank_memory.proofs.applied.write_part.Goals as goal

pub returns-clause-done : goal.returns-clause-done
returns-clause-done g c =
    on_ok c.put.result _ _
    (λ e. e ∙ part_back c.args.cells.now c.take_out.new.cells c.args.slot c.take_out.result c.in-Words.dst c.put_words.new.dst c.args.words.now c.args.at c.take_out.ensures.tile c.in-Words.is c.take_out.ensures.left c.put_words.ensures)
    c.put.ensures.done

pub returns-clause-residues : goal.returns-clause-residues
returns-clause-residues g c =
    let p = g.K.Field.MODULUS in
    let some : 0 < p = omega (arith, g.met.K.Field.at_least) in
    let out = c.take_out.new.cells in
    let new = c.put_words.new.dst in
    let back = part_back c.args.cells.now out c.args.slot c.take_out.result c.in-Words.dst new c.args.words.now c.args.at c.take_out.ensures.tile c.in-Words.is c.take_out.ensures.left c.put_words.ensures in
    either c.put.result (AreCellsOf p) out (with_tile_in out c.args.slot (Words new)) c.put.new.cells c.put.ensures.done c.put.ensures.kept
    (subst (AreCellsOf p) (sym back) (part_residues p c.args.cells.now c.args.slot c.args.at c.args.words.now some c.requires.words c.requires.residues))
    (left_residues p c.args.cells.now out c.args.slot c.take_out.ensures.left c.requires.residues)
