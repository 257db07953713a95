use Rattle.product_rounds.proofs.Group.{group_legal, group_held, group_changes}
use Rattle.product_rounds.proofs.laws.group_rounds_multiply.Goals as goal

pub returns-clause-legal : goal.returns-clause-legal
returns-clause-legal c s st x l n y words quiet may can = group_legal s st x l n y words quiet may can

pub returns-clause-words : goal.returns-clause-words
returns-clause-words c s st x l n y words quiet may can col hc = group_held s st x l n y words quiet may can col hc

pub returns-clause-else_kept : goal.returns-clause-else_kept
returns-clause-else_kept c s st x l n y words quiet may can = group_changes s st x l n y words quiet may can
