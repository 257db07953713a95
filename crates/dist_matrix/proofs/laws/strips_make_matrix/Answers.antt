use Rattle.dist_matrix.proofs.EntryLaws.{LiesInOneStrip-entry}
use Rattle.dist_matrix.proofs.StripLaws.{with_strips-every, HasEveryStrip-all_strips}
use Rattle.dist_matrix.proofs.laws.strips_make_matrix.Goals as goal

pub returns-clause-one_strip : goal.returns-clause-one_strip
returns-clause-one_strip c = LiesInOneStrip-entry

pub returns-clause-any_order : goal.returns-clause-any_order
returns-clause-any_order c = with_strips-every

pub returns-clause-in_order : goal.returns-clause-in_order
returns-clause-in_order c = HasEveryStrip-all_strips
