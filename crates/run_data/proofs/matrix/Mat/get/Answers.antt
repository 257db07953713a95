use Rattle.std.proofs.Common.{◌∙◌}
use Rattle.std.proofs.lemmas.List.{get_or_default}
use Rattle.run_data.proofs.Matrices.{place_fits, entry_of}
use Rattle.run_data.proofs.matrix.Mat.get.Goals as goal

pub index-requires : goal.index-requires
index-requires c = place_fits _ _ _ _ _ c.self.view_is c.self.invariant.0 c.args.i c.args.j c.requires.row c.requires.column

pub returns : goal.returns
returns c =
    c.index.ensures ∙ get_or_default _ _ _ 0 (place_fits _ _ _ _ _ c.self.view_is c.self.invariant.1 c.args.i c.args.j c.requires.row c.requires.column)
    ∙ entry_of _ _ _ _ c.self.view_is c.args.i c.args.j c.requires.row c.requires.column
