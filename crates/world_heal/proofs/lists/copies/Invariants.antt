use Rattle.std.proofs.Common.{◌≡◌}
use Rattle.rank_machine.specs.Legal.{lost_columns}
use Rattle.block_world.specs.World.{state_of}
use Rattle.round_laws.specs.Turns.{each_below}
use Rattle.recovery_code.specs.Copies.{row_copies}
use Rattle.recovery_rounds.specs.Mending.{copy_events}
use Rattle.world_heal.proofs.lists.copies.Given as goal

abbrev pub invariant-loop-row : goal.invariant-loop-row
invariant-loop-row g l = l.round ≡ copy_events l.list (each_below l.row (λ row. row_copies l.grid row (lost_columns (state_of l.world) l.grid row)))
