use Rattle.serial_laws.proofs.SerialRun.{can_run}
use Rattle.scalapack_top.proofs.run.run_serially.Goals as goal

pub serial-requires-clause-can_run : goal.serial-requires-clause-can_run
serial-requires-clause-can_run g c = can_run c.args.script.now c.args.files.now c.requires.prepared.accepted c.requires.prepared.file
