use Rattle.std.proofs.Common.{◌≡◌, ◌≤◌, ◌+◌, drop}
use Rattle.rank_machine.specs.Setting.{sizes}
use Rattle.world_heal.proofs.healing.ranks_in.Given as goal

abbrev pub invariant-loop-i : goal.invariant-loop-i
invariant-loop-i g l = (l.ranks + sizes (drop l.i l.grids) ≡ sizes l.grids) × (sizes l.grids ≤ 64)
