use Rattle.std.proofs.Common.{◌∙◌, ap, sym, set, arith}
use Rattle.std.proofs.lemmas.List.Edits.{map_over_more}
use Rattle.block_world.specs.Ranks.{restarted}
use Rattle.block_world.proofs.ranks.restart_all.Goals as goal

pub loop-mem-preserved : goal.loop-mem-preserved
loop-mem-preserved g c =
    let i = c.loop-mem.mem-index in
    ap (λ y. set c.loop-mem.mems i y) (c.restart.ensures ∙ ap restarted (sym c.mem-item.is))
    ∙ map_over_more restarted c.args.mems.now c.loop-mem.mems i c.mem-item.result (omega (arith, c.loop-mem-test.true)) c.loop-mem.invariant c.mem-item.is
