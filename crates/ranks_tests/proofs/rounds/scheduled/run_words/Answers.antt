use Rattle.rank_run.proofs.AlwaysMay.{may_run_always}
use Rattle.ranks_tests.proofs.rounds.scheduled.run_words.Goals as goal

pub run_round-requires-clause-may : goal.run_round-requires-clause-may
run_round-requires-clause-may c =
    may_run_always _ (record { can_apply = λ x op. tt; can_read = λ x p. tt; can_write = λ x p w. tt }) c.args.round.now c.args.words.now c.args.links.now.ranks c.requires.words c.requires.within
