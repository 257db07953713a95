use Rattle.std.proofs.Common.{◌||◌, get_or, false, sym, ap, ◌∙◌}
use Rattle.block_world.specs.Ranks.{some_flag}
use Rattle.block_world.proofs.Falling.{flag_more, flag_all}
use Rattle.block_world.proofs.ranks.has_flag.Goals as goal
use Rattle.block_world.proofs.ranks.has_flag.Goals.{then-some, else-some}

pub loop-flag-preserved : goal.loop-flag-preserved
loop-flag-preserved c =
    let bs = c.args.lost.now in
    let i = c.loop-flag.flag-index in
    flag_more c.loop-flag.some (some_flag bs) c.if-some.some bs i c.loop-flag-test.true
    (elim c.if-some.branch [
      | then-some w ↦ w.some-is ∙ w.if-some.true ∙ sym (ap (λ b. b || get_or bs i false) w.if-some.true)
      | else-some w ↦ w.some-is ∙ sym (ap (λ b. b || get_or bs i false) w.if-some.false)
    ])
    c.loop-flag.invariant

pub returns : goal.returns
returns c = flag_all c.loop-flag.some (some_flag c.args.lost.now) c.args.lost.now c.loop-flag.flag-index c.loop-flag-test.false c.loop-flag.invariant
