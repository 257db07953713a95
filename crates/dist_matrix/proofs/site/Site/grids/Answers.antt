use Rattle.std.proofs.Common.{◌≤◌, length, ap, arith}
use Rattle.run_data.specs.Script.{commands_of}
use Rattle.rank_machine.specs.Scripts.{grids_from}
use Rattle.dist_matrix.proofs.SiteGrids.{few-grids}
use Rattle.dist_matrix.proofs.site.Site.grids.Goals as goal

pub overflow_cast-result : goal.overflow_cast-result
overflow_cast-result c =
    let few : length (grids_from 0 (commands_of c.self.inside.script.now)) ≤ 64 = few-grids (commands_of c.self.inside.script.now) c.self.invariant.grids_within in
    omega (arith, few, ap length c.self.invariant.grids_are)

pub returns-clause-few : goal.returns-clause-few
returns-clause-few c =
    let few : length (grids_from 0 (commands_of c.self.inside.script.now)) ≤ 64 = few-grids (commands_of c.self.inside.script.now) c.self.invariant.grids_within in
    omega (arith, few, ap length c.self.invariant.grids_are)
