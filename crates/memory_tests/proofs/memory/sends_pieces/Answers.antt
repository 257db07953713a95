use Rattle.std.proofs.Common.{refl}
use Rattle.run_data.specs.Matrix as m
use Rattle.memory_tests.proofs.memory.sends_pieces.Goals as goal

pub check_sent-requires : goal.check_sent-requires
unfolding m.tabulate m.entry
check_sent-requires g c = record { live = refl; held = refl }

pub check_sent-requires-2 : goal.check_sent-requires-2
unfolding m.tabulate m.entry
check_sent-requires-2 g c = record { live = refl; held = refl }
