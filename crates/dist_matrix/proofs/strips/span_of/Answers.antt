use Rattle.std.proofs.Common.{◌*◌, ◌∙◌, ap, arith}
use Rattle.array_desc.specs.Maps.{block_in}
use Rattle.dist_matrix.proofs.EntryLaws.{first_column}
use Rattle.dist_matrix.proofs.strips.span_of.Goals as goal

pub returns-clause-first_column : goal.returns-clause-first_column
returns-clause-first_column c =
    c.global-first_column.ensures.value
    ∙ first_column c.args.group c.args.d.now.nb c.coords-process_row.result.1 c.args.d.now.csrc c.args.grid.now.q (omega (arith, c.requires.descriptor.some_block_columns))
    ∙ ap (λ col. block_in c.args.group col c.args.d.now.csrc c.args.grid.now.q * c.args.d.now.nb) c.coords-process_row.ensures.column
