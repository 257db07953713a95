use Rattle.std.proofs.Common.{[]}
use Rattle.rank_machine.specs.Legal.{lost_columns}
use Rattle.block_world.specs.World.{state_of}
use Rattle.recovery_code.specs.Copies.{row_copies}
use Rattle.recovery_code.proofs.Copying.{copy-next}
use Rattle.world_heal.proofs.ListSteps.{columns-counted, columns-kept, copies-are}
use Rattle.world_heal.proofs.lists.copies.Goals as goal

pub copy_row-requires : goal.copy_row-requires
copy_row-requires g c =
    let st = state_of c.args.world.now in
    let grid = c.args.grid.now in
    let row = c.loop-row.row in
    record {
      grid = c.requires.grid;
      row_in = c.loop-row-test.true;
      columns = columns-counted st grid row c.deref.result.now c.in_ok-lost.lost.items c.deref.ensures.value c.in_ok-lost.ensures;
      some_kept = columns-kept st grid row c.deref.result.now c.in_ok-lost.lost.items c.deref.ensures.value c.in_ok-lost.ensures c.requires.grid (c.requires.few_lost row c.loop-row-test.true);
    }

pub loop-row-preserved : goal.loop-row-preserved
loop-row-preserved g c =
    let st = state_of c.args.world.now in
    let grid = c.args.grid.now in
    let row = c.loop-row.row in
    copy-next c.args.list [] c.loop-row.round c.copy_row.new.round row (λ row. row_copies grid row (lost_columns st grid row)) (row_copies grid row c.deref.result.now) c.loop-row.invariant c.in_ok-copy_row.ensures
    (copies-are st grid row c.deref.result.now c.in_ok-lost.lost.items c.deref.ensures.value c.in_ok-lost.ensures)
