use Rattle.std.proofs.Common.{◌<◌, List, length, subst, sym, ◌∙◌, ap}
use Rattle.run_data.specs.Script.{commands_of}
use Rattle.blacs_grid.specs.declared.Grid.{Grid}
use Rattle.blacs_grid.specs.Limits.{IsGrid}
use Rattle.rank_machine.specs.Scripts.{grids_from}
use Rattle.script_lines.specs.Layouts.{AreGrids}
use Rattle.dist_matrix.specs.Site.{SiteView}
use Rattle.dist_matrix.proofs.SiteGrids.{grid-within}
use Rattle.dist_matrix.proofs.site.Site.grid.Goals as goal

pub returns-clause-within : goal.returns-clause-within
returns-clause-within c =
    let same = c.self.invariant.grids_are ∙ ap (λ (w : SiteView). grids_from 0 (commands_of w.script)) c.self.view_is in
    subst IsGrid (sym c.index.ensures)
    (grid-within c.self.inside.grids.items c.args.g c.index.result.now (subst AreGrids (sym c.self.invariant.grids_are) c.self.invariant.grids_within) (subst (λ (gs : List Grid). c.args.g < length gs) (sym same) c.requires.there))
