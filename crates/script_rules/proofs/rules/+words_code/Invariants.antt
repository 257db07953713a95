use Rattle.std.proofs.Common.{length}
use Rattle.script_rules.proofs.rules.+words_code.Given as goal

abbrev pub decreases-words_code : goal.decreases-words_code
decreases-words_code l = length l.kinds.now
