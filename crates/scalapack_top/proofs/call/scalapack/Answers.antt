use Rattle.std.proofs.Common.{false}
use Rattle.scalapack_top.specs.Words.{texts}
use Rattle.scalapack_top.proofs.Answered.{read_written}
use Rattle.scalapack_top.proofs.call.scalapack.Goals as goal

pub returns-clause-reads : goal.returns-clause-reads
returns-clause-reads g c = read_written (texts c.args.words.now) _ _ c.answer_words-work.result.answer false c.answer_words-work.ensures.read
