use Rattle.recovery_words.proofs.Beginnings.{commit-holds}
use Rattle.recovery_words.proofs.states.healed_commits_hold.Goals as goal

pub returns : goal.returns
returns c = commit-holds
