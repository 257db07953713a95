use Rattle.std.proofs.Common.{sym, subst}
use Rattle.rank_slots.specs.Cells.{AreCellsOf}
use Rattle.rank_slots.proofs.CellWords.{cells_kept}
use Rattle.rank_memory.proofs.mem.RankMem.commit.Goals as goal

pub invariant_of-self : goal.invariant_of-self
invariant_of-self g c = record {
  sound = c.self.invariant.sound;
  residues = subst (AreCellsOf g.K.Field.MODULUS) (sym c.keep.ensures) (cells_kept g.K.Field.MODULUS _ c.self.inside.cells c.self.invariant.residues);
}
