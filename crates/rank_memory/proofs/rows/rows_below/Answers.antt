use Rattle.std.proofs.Common.{◌<◌, ◌∙◌, ap, sym, subst, arith}
use Rattle.array_desc.specs.Maps.{global}
use Rattle.rank_machine.specs.Setting.{global_row}
use Rattle.rank_memory.proofs.RowLaws.{global-rises, one_more_below}
use Rattle.rank_memory.proofs.rows.rows_below.Goals as goal

pub returns-else-global_of-limit-clause-above : goal.returns-else-global_of-limit-clause-above
returns-else-global_of-limit-clause-above c = λ i h k.
    let x = c.args.placed.now in
    let sound = c.requires.sound.desc in
    let rise = global-rises c.loop-count.count i x.desc.mb c.row_on-row.result x.desc.rsrc x.grid.p sound.some_block_rows sound.row_source c.row_on-row.ensures.in_grid h in
    rw (sym c.row_on-row.ensures.value) (omega (arith, c.if-global_of-limit.false, c.global_of.ensures, rise))

pub loop-count-preserved : goal.loop-count-preserved
loop-count-preserved c =
    let x = c.args.placed.now in
    let here = c.global_of.ensures ∙ ap (λ row. global c.loop-count.count x.desc.mb row x.desc.rsrc x.grid.p) c.row_on-row.ensures.value in
    record {
      most = omega (arith, c.loop-count-test.true);
      below = one_more_below (global_row x c.args.rank) c.loop-count.count c.args.limit c.loop-count.invariant.below (subst (λ n. n < c.args.limit) here c.if-global_of-limit.true);
    }

pub returns-else-global_of-limit-clause-below : goal.returns-else-global_of-limit-clause-below
returns-else-global_of-limit-clause-below c = c.loop-count.invariant.below

pub returns-after-loop-count-clause-below : goal.returns-after-loop-count-clause-below
returns-after-loop-count-clause-below c = c.loop-count.invariant.below

pub returns-after-loop-count-clause-above : goal.returns-after-loop-count-clause-above
returns-after-loop-count-clause-above c = λ i h k. absurd (omega (arith, c.loop-count-test.false, h, k))
