use Rattle.std.proofs.lemmas.List.Edits.{map_over_more}
use Rattle.std.proofs.lemmas.List.{get_or_default}
use Rattle.std.proofs.Common.{◌<◌, length, get_or, false, arith}
use Rattle.block_world.specs.Ranks.{lowered}
use Rattle.block_world.proofs.ranks.lower_all.Goals as goal

pub loop-flag-preserved : goal.loop-flag-preserved
loop-flag-preserved c =
    let bs = c.loop-flag.lost in
    let i = c.loop-flag.flag-index in
    let same = c.loop-flag.auto.lost in
    let lt : i < length bs = (let t = c.loop-flag-test.true in omega (arith, t, same)) in
    map_over_more lowered c.args.lost.now bs i (get_or bs i false) c.loop-flag-test.true c.loop-flag.invariant (get_or_default bs i false (get_or bs i false) lt)
