use Rattle.scalapack_top.proofs.OneRead.{read_step}
use Rattle.scalapack_top.proofs.reading.read_file.Goals as goal

pub returns-clause-read : goal.returns-clause-read
returns-clause-read g c = rw c.settled.ensures (read_step c.args.file c.args.name.now _ _ _ _ _ _ c.read.result c.read.ensures.bytes c.read.ensures.cause)
