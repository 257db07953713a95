use Rattle.std.proofs.Common.{refl}
use Rattle.run_data.specs.Matrix as m
use Rattle.memory_tests.proofs.Examples.{may_apply}
use Rattle.memory_tests.proofs.memory.solves.Goals as goal

pub check_kernel-requires : goal.check_kernel-requires
unfolding m.tabulate m.entry
check_kernel-requires g c = may_apply _ _ _ refl

pub check_kernel-requires-2 : goal.check_kernel-requires-2
unfolding m.tabulate m.entry
check_kernel-requires-2 g c = may_apply _ _ _ refl

pub check_kernel-requires-3 : goal.check_kernel-requires-3
unfolding m.tabulate m.entry
check_kernel-requires-3 g c = may_apply _ _ _ refl
