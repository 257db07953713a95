use Rattle.std.proofs.Common.{◌≤◌, subst, sym, arith}
use Rattle.run_data.specs.Script.{commands_of}
use Rattle.rank_machine.specs.Setting.{sizes}
use Rattle.script_lines.specs.Layouts.{AreGrids}
use Rattle.world_heal.proofs.RankCounts.{sizes-few, grid-within, sizes-more}
use Rattle.world_heal.proofs.healing.ranks_in.Goals as goal

pub loop-i-init : goal.loop-i-init
loop-i-init g c = (omega arith, subst (λ gs. sizes gs ≤ 64) (sym c.requires.grids) (sizes-few (commands_of c.args.world.now.script) c.journal-sound.ensures.sound.grids))

pub size-ranks-requires : goal.size-ranks-requires
size-ranks-requires g c = grid-within c.args.grids.now _ c.loop-i.i (subst AreGrids (sym c.requires.grids) c.journal-sound.ensures.sound.grids) c.loop-i-test.true

pub overflow_add-ranks : goal.overflow_add-ranks
overflow_add-ranks g c =
    let all = sizes-more c.args.grids.now _ c.loop-i.i c.loop-i.ranks c.size-ranks.result c.loop-i-test.true c.size-ranks.ensures c.loop-i.invariant.0 in
    omega (arith, all, c.loop-i.invariant.1)

pub loop-i-preserved : goal.loop-i-preserved
loop-i-preserved g c = (sizes-more c.args.grids.now _ c.loop-i.i c.loop-i.ranks c.size-ranks.result c.loop-i-test.true c.size-ranks.ensures c.loop-i.invariant.0, c.loop-i.invariant.1)
