use Rattle.run_data.specs.Script.{commands_of}
use Rattle.script_text.specs.Check.{ranks_shaped, told_of}
use Rattle.script_bounds.proofs.Summing.{IsSummed}
use Rattle.script_text.proofs.checking.all_ranks.Given as goal

abbrev pub invariant-loop-i : goal.invariant-loop-i
invariant-loop-i l = IsSummed (λ n. ranks_shaped n.command) l.lines 320 l.i l.ranks (told_of (commands_of l.fn.script)).ranks
