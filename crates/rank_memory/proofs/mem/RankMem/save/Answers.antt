use Rattle.rank_slots.specs.Cells.{with_saved_in, AreCellsOf}
use Rattle.rank_slots.proofs.CellWords.{cells_save}
use Rattle.rank_memory.proofs.TakenOut.{either}
use Rattle.rank_memory.proofs.mem.RankMem.save.Goals as goal

pub invariant_of-self : goal.invariant_of-self
invariant_of-self g c =
    let p = g.K.Field.MODULUS in
    let old = c.self.inside.cells in
    record {
      sound = c.self.invariant.sound;
      residues = either c.save.result (AreCellsOf p) old (with_saved_in old c.args.slot) c.save.new.cells c.save.ensures.done c.save.ensures.kept (cells_save p old c.args.slot c.self.invariant.residues) c.self.invariant.residues;
    }
