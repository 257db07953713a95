use Rattle.std.proofs.Common.{◌≤◌, length, ap, ◌∙◌, arith}
use Rattle.run_data.specs.Script.{commands_of}
use Rattle.rank_machine.specs.Scripts.{grids_from}
use Rattle.dist_matrix.proofs.SiteGrids.{few-grids}
use Rattle.dist_matrix.proofs.site.Site.grid_list.Goals as goal

pub returns-clause-few : goal.returns-clause-few
returns-clause-few c =
    let few : length (grids_from 0 (commands_of c.self.inside.script.now)) ≤ 64 = few-grids (commands_of c.self.inside.script.now) c.self.invariant.grids_within in
    omega (arith, few, ap length (c.deref.ensures.value ∙ c.self.invariant.grids_are))
