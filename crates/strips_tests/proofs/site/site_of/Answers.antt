use Rattle.strips_tests.proofs.FactoredScript.{grids-within, laid-out}
use Rattle.strips_tests.proofs.site.site_of.Goals as goal

pub new-requires : goal.new-requires
new-requires g c = record { grids = grids-within c.args.script.now c.requires; laid_out = laid-out c.args.script.now c.requires }
