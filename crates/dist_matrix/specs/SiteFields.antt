-- What a site keeps of its script.
use Rattle.std.specs.Prelude.{◌≡◌}
use Rattle.run_data.specs.Script.{commands_of}
use Rattle.rank_machine.specs.Scripts.{grids_from}
use Rattle.script_lines.specs.Layouts.{AreGrids, jobs_of}
use Rattle.script_lines.specs.Lines.{IsTableOf, AreSound}
use Rattle.dist_matrix.specs.declared.site.Site.TheInside.{Inside}
use Rattle.dist_matrix.specs.Site.{SiteView}

abbrev pub view_of : Inside → SiteView
view_of w = record { script = w.script.now; mark = w.mark }

-- the grids of the script, each within its limits, and the table of its lines
pub record AreFields (w : Inside) : Type 0 where
  pub grids_are : w.grids.items ≡ grids_from 0 (commands_of w.script.now)
  pub grids_within : AreGrids (grids_from 0 (commands_of w.script.now))
  pub table_is : IsTableOf (jobs_of w.script.now) w.table.items
  pub sound : AreSound w.table.items
