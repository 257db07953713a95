use Rattle.phase_rounds.proofs.Exchanges.{exchanges, exchange_legal, exchange_held, exchange_changes}
use Rattle.phase_rounds.proofs.rounds.exchange_rounds_exchange_rows.Goals as goal

pub returns-clause-turns : goal.returns-clause-turns
returns-clause-turns c = λ s st d slot i j words f may can. exchanges s st d slot i j words may f can

pub returns-clause-legal : goal.returns-clause-legal
returns-clause-legal c = λ s st d slot i j words quiet may can. exchange_legal s st d slot i j words may quiet can

pub returns-clause-words : goal.returns-clause-words
returns-clause-words c = λ s st d slot i j words quiet may can. exchange_held s st d slot i j words may quiet can

pub returns-clause-else_kept : goal.returns-clause-else_kept
returns-clause-else_kept c = λ s st d slot i j words quiet may can. exchange_changes s st d slot i j words may quiet can
