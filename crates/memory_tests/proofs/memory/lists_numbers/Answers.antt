use Rattle.std.proofs.Common.{refl}
use Rattle.run_data.specs.Matrix as m
use Rattle.memory_tests.proofs.Examples.{may_apply}
use Rattle.memory_tests.proofs.memory.lists_numbers.Goals as goal

pub check_number-requires : goal.check_number-requires
unfolding m.tabulate m.entry
check_number-requires g c = may_apply _ _ _ refl

pub check_number-requires-2 : goal.check_number-requires-2
unfolding m.tabulate m.entry
check_number-requires-2 g c = may_apply _ _ _ refl

pub check_number-requires-3 : goal.check_number-requires-3
unfolding m.tabulate m.entry
check_number-requires-3 g c = may_apply _ _ _ refl
