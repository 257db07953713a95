use Rattle.array_desc.proofs.GroupLaws.{block_in-group_of}
use Rattle.array_desc.proofs.group_of.Goals as goal

pub returns-clause-alone : goal.returns-clause-alone
returns-clause-alone c = λ src src_in. block_in-group_of c.args.block src c.args.q src_in
