use Rattle.std.specs.Prelude.{true, false}
use Rattle.io_edge.proofs.Puts.{is_put}
use Rattle.io_edge.proofs.mem_sink.MemSinkSink.put.Goals as goal

pub returns-then-keep-clause-bytes : goal.returns-then-keep-clause-bytes
returns-then-keep-clause-bytes c = is_put _ _ c.args.bytes.now true c.if-keep.ensures.state c.if-keep.ensures.fails

pub returns-else-keep-clause-bytes : goal.returns-else-keep-clause-bytes
returns-else-keep-clause-bytes c = is_put _ _ c.args.bytes.now false c.if-keep.ensures.state c.if-keep.ensures.fails
