use Rattle.std.proofs.Common.{arith}
use Rattle.scalapack_top.proofs.Fields.{other_field}
use Rattle.scalapack_top.proofs.run.run.Goals as goal

pub run_over-requires-clause-field : goal.run_over-requires-clause-field
run_over-requires-clause-field c = omega arith

pub run_over-requires-else-modulus-eq65521-clause-field : goal.run_over-requires-else-modulus-eq65521-clause-field
run_over-requires-else-modulus-eq65521-clause-field c = other_field c.args.script.now c.modulus.result c.requires.accepted c.modulus.ensures (omega arith)
