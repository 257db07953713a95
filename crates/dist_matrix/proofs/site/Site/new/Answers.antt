use Rattle.dist_matrix.proofs.SiteLaws.{bare-first}
use Rattle.dist_matrix.proofs.site.Site.new.Goals as goal

pub returns-clause-bare : goal.returns-clause-bare
returns-clause-bare c = bare-first _ c.first.ensures
