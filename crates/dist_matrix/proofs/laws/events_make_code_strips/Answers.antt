use Rattle.dist_matrix.proofs.CodeStrips.{encode_replays, has_code_strips, keeps_else, keeps_run}
use Rattle.dist_matrix.proofs.laws.events_make_code_strips.Goals as goal

pub returns-clause-legal : goal.returns-clause-legal
returns-clause-legal c = λ s st d line group can. (encode_replays s st d line group can).legal

pub returns-clause-sums : goal.returns-clause-sums
returns-clause-sums c = has_code_strips

pub returns-clause-else_kept : goal.returns-clause-else_kept
returns-clause-else_kept c = keeps_else

pub returns-clause-run_kept : goal.returns-clause-run_kept
returns-clause-run_kept c = keeps_run
