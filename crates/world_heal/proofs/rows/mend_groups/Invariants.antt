use Rattle.std.proofs.Common.{◌*◌}
use Rattle.recovery_counts.specs.Counted.{round_most}
use Rattle.world_heal.specs.Mended.{HasMended, AreGroupsHealed}
use Rattle.world_heal.proofs.rows.mend_groups.Given as goal

abbrev pub invariant-loop-group : goal.invariant-loop-group
invariant-loop-group g l = HasMended (l.group * round_most l.layout) (AreGroupsHealed l.line l.row l.group) l.initial.world l.world
