use Rattle.elimination.proofs.PanelLaws.{columns-agree}
use Rattle.elimination.proofs.panel.panel_reads_its_columns.Goals as goal

pub returns : goal.returns
returns c = columns-agree
