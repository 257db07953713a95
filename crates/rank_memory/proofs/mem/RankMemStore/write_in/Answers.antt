use Rattle.rank_slots.specs.Cells.{with_tile_in, AreCellsOf}
use Rattle.rank_slots.proofs.CellWords.{cells_put}
use Rattle.rank_memory.proofs.TakenOut.{either}
use Rattle.rank_memory.proofs.mem.RankMemStore.write_in.Goals as goal

pub invariant_of-self : goal.invariant_of-self
invariant_of-self g c =
    let p = g.K.Field.MODULUS in
    let old = c.self.inside.cells in
    record {
      sound = c.self.invariant.sound;
      residues = either c.put.result (AreCellsOf p) old (with_tile_in old c.in-Whole.slot c.args.msg) c.put.new.cells c.put.ensures.done c.put.ensures.kept (cells_put p old c.in-Whole.slot c.args.msg c.requires.residues c.self.invariant.residues) c.self.invariant.residues;
    }
