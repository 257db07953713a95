use Rattle.array_desc.proofs.MapLaws.{global-by_rounds, owner-global, local-global, some_process}
use Rattle.array_desc.proofs.global.Goals as goal

pub returns-clause-on_process : goal.returns-clause-on_process
returns-clause-on_process c =
    let a = c.args in
    rw (global-by_rounds a.l a.nb a.proc a.src a.procs c.distance.result c.distance.ensures)
    (owner-global a.l a.nb a.proc a.src a.procs c.requires.block_size c.requires.source c.requires.process)

pub returns-clause-at_place : goal.returns-clause-at_place
returns-clause-at_place c =
    let a = c.args in
    rw (global-by_rounds a.l a.nb a.proc a.src a.procs c.distance.result c.distance.ensures)
    (local-global a.l a.nb a.proc a.src a.procs c.requires.block_size (some_process a.proc a.procs c.requires.process))
