use Rattle.std.proofs.Common.{subst, sym, arith}
use Rattle.run_data.specs.Script.{commands_of}
use Rattle.script_rules.specs.Rules.{ranks_made}
use Rattle.script_bounds.proofs.Sized.{ranks_limited}
use Rattle.script_bounds.proofs.Summing.{IsSummed, summed_start, ranks_of-sum}
use Rattle.script_bounds.proofs.recovery.ranks_of.Goals as goal

pub loop-i-init : goal.loop-i-init
loop-i-init c =
    subst (IsSummed (λ n. ranks_made n.command) c.as_slice-lines.result.now 320 0 0) (sym (ranks_of-sum (commands_of c.args.script.now)))
    (summed_start (λ n. ranks_made n.command) c.args.script.now c.as_slice-lines.result.now 320 c.as_slice-lines.ensures)

pub returns-clause-few : goal.returns-clause-few
returns-clause-few c = omega (arith, c.loop-i.invariant.all, ranks_limited c.args.script.now c.requires)
