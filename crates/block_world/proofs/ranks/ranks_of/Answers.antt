use Rattle.std.proofs.Common.{◌+◌, ◌*◌, ◌≤◌, rules}
use Rattle.block_world.proofs.GridLines.{few_columns, few_ranks}
use Rattle.block_world.proofs.ranks.ranks_of.Goals as goal

pub overflow_add-ranks : goal.overflow_add-ranks
overflow_add-ranks c =
    let few : c.in-Some-Grid.q + c.in-Some-Grid.f ≤ 64 = few_columns c.as_slice-lines.result.now c.loop-i.i c.loop-i.ranks c.in-Some-Grid.field-0-0 c.in-Some-Grid.p c.in-Some-Grid.q c.in-Some-Grid.f c.index-lines-i.result c.in-Some-Grid.field-0 c.loop-i-test.true c.index-lines-i.is c.in-Some-Grid.is (rw c.in-Some-Grid.is at c.in-Some-Grid.field-0-is) c.loop-i.invariant.sound in
    search rules

pub overflow_mul-ranks : goal.overflow_mul-ranks
overflow_mul-ranks c =
    let few : c.loop-i.ranks + c.in-Some-Grid.p * (c.in-Some-Grid.q + c.in-Some-Grid.f) ≤ 64 = few_ranks c.as_slice-lines.result.now c.loop-i.i c.loop-i.ranks c.in-Some-Grid.field-0-0 c.in-Some-Grid.p c.in-Some-Grid.q c.in-Some-Grid.f c.index-lines-i.result c.in-Some-Grid.field-0 c.loop-i-test.true c.index-lines-i.is c.in-Some-Grid.is (rw c.in-Some-Grid.is at c.in-Some-Grid.field-0-is) c.loop-i.invariant.sound in
    search rules

pub overflow_add-ranks-in-Some-Grid : goal.overflow_add-ranks-in-Some-Grid
overflow_add-ranks-in-Some-Grid c =
    let few : c.loop-i.ranks + c.in-Some-Grid.p * (c.in-Some-Grid.q + c.in-Some-Grid.f) ≤ 64 = few_ranks c.as_slice-lines.result.now c.loop-i.i c.loop-i.ranks c.in-Some-Grid.field-0-0 c.in-Some-Grid.p c.in-Some-Grid.q c.in-Some-Grid.f c.index-lines-i.result c.in-Some-Grid.field-0 c.loop-i-test.true c.index-lines-i.is c.in-Some-Grid.is (rw c.in-Some-Grid.is at c.in-Some-Grid.field-0-is) c.loop-i.invariant.sound in
    search rules
