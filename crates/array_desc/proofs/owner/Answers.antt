use Rattle.std.proofs.Common.{◌≡◌, ◌+◌, ◌%◌}
use Rattle.array_desc.specs.Maps.{owner}
use Rattle.array_desc.proofs.MapLaws.{global-local, only-owner}
use Rattle.array_desc.proofs.owner.Goals as goal

pub returns-clause-holds : goal.returns-clause-holds
returns-clause-holds c =
    let a = c.args in
    let e : (c.from.result + c.from-2.result) % c.from-3.result ≡ owner a.g a.nb a.src a.procs = cc in
    rw e (global-local a.g a.nb a.src a.procs c.requires.block_size c.requires.source)

pub returns-clause-alone : goal.returns-clause-alone
returns-clause-alone c =
    let a = c.args in
    let e : (c.from.result + c.from-2.result) % c.from-3.result ≡ owner a.g a.nb a.src a.procs = cc in
    λ proc l proc_in is. rw e (only-owner l a.nb proc a.src a.procs a.g c.requires.block_size c.requires.source proc_in is)
