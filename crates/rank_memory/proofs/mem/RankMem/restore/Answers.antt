use Rattle.std.proofs.Common.{sym, subst}
use Rattle.rank_slots.specs.Cells.{AreCellsOf}
use Rattle.rank_slots.proofs.Undone.{cells_undone}
use Rattle.rank_memory.proofs.mem.RankMem.restore.Goals as goal

pub invariant_of-self : goal.invariant_of-self
invariant_of-self g c = record {
  sound = c.self.invariant.sound;
  residues = subst (AreCellsOf g.K.Field.MODULUS) (sym c.undo.ensures.undone) (cells_undone g.K.Field.MODULUS c.self.inside.cells c.self.invariant.residues);
}
