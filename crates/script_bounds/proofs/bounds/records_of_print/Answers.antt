use Rattle.std.proofs.Common.{Some, sym, ap, ◌∙◌}
use Rattle.std.specs.Option.{option_copied}
use Rattle.script_bounds.proofs.Sized.{matrix_sizes}
use Rattle.script_bounds.proofs.bounds.records_of_print.Goals as goal

pub print_on-requires-clause-columns : goal.print_on-requires-clause-columns
print_on-requires-clause-columns c =
    let e = sym c.command.ensures ∙ ap option_copied c.in-Some-Matrix.is ∙ ap (λ x. Some x) c.in-Some-Matrix.field-0-is in
    let h = matrix_sizes c.args.script.now c.in-Some.maker c.in-Some-Matrix.field-0-0 c.in-Some-Matrix.grid c.in-Some-Matrix.field-0-2 c.in-Some-Matrix.n c.in-Some-Matrix.field-0-4 c.in-Some-Matrix.nb c.in-Some-Matrix.field-0-6 c.in-Some-Matrix.field-0-7 c.in-Some-Matrix.field-0-8 c.requires e in
    h.0

pub print_on-requires-clause-block : goal.print_on-requires-clause-block
print_on-requires-clause-block c =
    let e = sym c.command.ensures ∙ ap option_copied c.in-Some-Matrix.is ∙ ap (λ x. Some x) c.in-Some-Matrix.field-0-is in
    let h = matrix_sizes c.args.script.now c.in-Some.maker c.in-Some-Matrix.field-0-0 c.in-Some-Matrix.grid c.in-Some-Matrix.field-0-2 c.in-Some-Matrix.n c.in-Some-Matrix.field-0-4 c.in-Some-Matrix.nb c.in-Some-Matrix.field-0-6 c.in-Some-Matrix.field-0-7 c.in-Some-Matrix.field-0-8 c.requires e in
    h.1
