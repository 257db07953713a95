use Rattle.std.proofs.Common.{All}
use Rattle.rank_run.specs.Parts.{IsWithin}
use Rattle.ranks_tests.proofs.rounds.scheduled.make_round.Given as goal

-- the ranks of the events so far are there
abbrev pub invariant-loop-place : goal.invariant-loop-place
invariant-loop-place l = All (IsWithin l.count) l.round
