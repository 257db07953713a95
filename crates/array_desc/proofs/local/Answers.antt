use Rattle.std.proofs.Common.{refl}
use Rattle.array_desc.specs.Maps.{owner}
use Rattle.array_desc.proofs.MapLaws.{local-by_rounds}
use Rattle.array_desc.proofs.CountLaws.{numroc-local, local-lt}
use Rattle.array_desc.proofs.local.Goals as goal

pub returns-clause-value : goal.returns-clause-value
returns-clause-value c = local-by_rounds c.args.g c.args.nb c.args.procs

pub returns-clause-counts_before : goal.returns-clause-counts_before
returns-clause-counts_before c = λ src src_in.
    rw (local-by_rounds c.args.g c.args.nb c.args.procs) (numroc-local c.args.g c.args.nb src c.args.procs c.requires.block_size src_in)

pub returns-clause-within : goal.returns-clause-within
returns-clause-within c = λ n src src_in before.
    let a = c.args in
    rw (local-by_rounds a.g a.nb a.procs) (local-lt a.g n a.nb (owner a.g a.nb src a.procs) src a.procs c.requires.block_size src_in before refl)
