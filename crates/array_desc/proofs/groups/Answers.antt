use Rattle.std.proofs.Common.{◌∙◌, ap}
use Rattle.array_desc.specs.Maps.{ceil_div}
use Rattle.array_desc.proofs.GroupLaws.{ceil_div-rounded, groups-reached}
use Rattle.array_desc.proofs.groups.Goals as goal

pub returns-clause-value : goal.returns-clause-value
returns-clause-value c =
    let a = c.args in
    c.div_ceil-2.ensures ∙ ceil_div-rounded c.div_ceil.result a.q c.requires.process_columns
    ∙ ap (λ blocks. ceil_div blocks a.q) (c.div_ceil.ensures ∙ ceil_div-rounded a.n a.nb c.requires.block_size)

pub returns-clause-reached : goal.returns-clause-reached
returns-clause-reached c =
    rw (returns-clause-value c) (groups-reached c.args.n c.args.nb c.args.q c.requires.block_size c.requires.process_columns)
