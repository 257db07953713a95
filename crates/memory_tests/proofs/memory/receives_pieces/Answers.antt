use Rattle.std.proofs.Common.{refl}
use Rattle.run_data.specs.Matrix as m
use Rattle.memory_tests.proofs.memory.receives_pieces.Goals as goal

pub check_received-requires : goal.check_received-requires
unfolding m.tabulate m.entry
check_received-requires g c = refl

pub check_received-requires-2 : goal.check_received-requires-2
unfolding m.tabulate m.entry
check_received-requires-2 g c = refl

pub check_received-requires-3 : goal.check_received-requires-3
unfolding m.tabulate m.entry
check_received-requires-3 g c = refl
