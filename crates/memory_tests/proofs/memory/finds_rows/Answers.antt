use Rattle.std.proofs.Common.{refl}
use Rattle.run_data.specs.Matrix as m
use Rattle.memory_tests.proofs.Examples.{may_apply}
use Rattle.memory_tests.proofs.memory.finds_rows.Goals as goal

pub check_number-requires : goal.check_number-requires
unfolding m.tabulate m.entry
check_number-requires g c = may_apply _ _ _ refl

pub check_number-requires-2 : goal.check_number-requires-2
unfolding m.tabulate m.entry
check_number-requires-2 g c = may_apply _ _ _ refl

pub check_number-requires-3 : goal.check_number-requires-3
unfolding m.tabulate m.entry
check_number-requires-3 g c = may_apply _ _ _ refl

pub check_number-requires-4 : goal.check_number-requires-4
unfolding m.tabulate m.entry
check_number-requires-4 g c = may_apply _ _ _ refl

pub check_number-requires-5 : goal.check_number-requires-5
unfolding m.tabulate m.entry
check_number-requires-5 g c = may_apply _ _ _ refl

pub check_number-requires-6 : goal.check_number-requires-6
unfolding m.tabulate m.entry
check_number-requires-6 g c = may_apply _ _ _ refl

pub check_number-requires-7 : goal.check_number-requires-7
unfolding m.tabulate m.entry
check_number-requires-7 g c = may_apply _ _ _ refl

pub check_number-requires-8 : goal.check_number-requires-8
unfolding m.tabulate m.entry
check_number-requires-8 g c = may_apply _ _ _ refl

pub check_number-requires-9 : goal.check_number-requires-9
unfolding m.tabulate m.entry
check_number-requires-9 g c = may_apply _ _ _ refl
