use Rattle.std.proofs.Common.{refl}
use Rattle.run_data.specs.Matrix as m
use Rattle.memory_tests.proofs.Examples.{may_apply}
use Rattle.memory_tests.proofs.memory.eliminates_on_another_process_row.Goals as goal

pub applied_above-both-requires : goal.applied_above-both-requires
unfolding m.tabulate m.entry
applied_above-both-requires g c = may_apply _ _ _ refl

pub applied_above-second-requires : goal.applied_above-second-requires
unfolding m.tabulate m.entry
applied_above-second-requires g c = may_apply _ _ _ refl

pub applied_above-none-requires : goal.applied_above-none-requires
unfolding m.tabulate m.entry
applied_above-none-requires g c = may_apply _ _ _ refl

pub applied_above-diagonal-requires : goal.applied_above-diagonal-requires
unfolding m.tabulate m.entry
applied_above-diagonal-requires g c = may_apply _ _ _ refl
