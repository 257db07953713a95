use Rattle.run_data.proofs.Matrices.{place_fits, with_entry_is}
use Rattle.run_data.proofs.matrix.Mat.set.Goals as goal

pub index_mut-requires : goal.index_mut-requires
index_mut-requires c = place_fits _ _ _ _ _ c.self.view_is c.self.invariant.0 c.args.i c.args.j c.requires.row c.requires.column

pub returns : goal.returns
returns c = with_entry_is _ _ _ _ c.self.view_is c.self.invariant.1 c.args.i c.args.j c.args.x c.requires.row c.requires.column
