use Rattle.elimination.proofs.whole.+eliminate_strip.Given as goal

abbrev pub decreases-eliminate_strip : goal.decreases-eliminate_strip
decreases-eliminate_strip g l = l.n
