use Rattle.array_desc.proofs.CountLaws.{numroc-by_rounds, numroc-reached, AreNumbered-numroc}
use Rattle.array_desc.proofs.numroc.Goals as goal

pub returns-clause-count : goal.returns-clause-count
returns-clause-count c =
    let a = c.args in
    let r = c.requires in
    let last = c.in_last_round.ensures in
    numroc-by_rounds a.n a.nb a.proc a.src a.procs c.distance-from_source.result c.in_last_round.result r.block_size r.source r.process
    c.distance-from_source.ensures last.whole_block last.last_block last.no_block

pub returns-clause-numbered : goal.returns-clause-numbered
returns-clause-numbered c =
    let a = c.args in
    let r = c.requires in
    rw (returns-clause-count c) (AreNumbered-numroc a.n a.nb a.proc a.src a.procs r.block_size r.source r.process)

pub returns-clause-reached : goal.returns-clause-reached
returns-clause-reached c =
    let a = c.args in
    let r = c.requires in
    rw (returns-clause-count c) (numroc-reached a.n a.nb a.proc a.src a.procs r.block_size r.source r.process)
