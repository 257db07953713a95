use Rattle.std.proofs.Common.{◌<◌, sym, ◌∙◌, ap, arith}
use Rattle.std.specs.Option.{option_copied}
use Rattle.run_data.proofs.Lines.{command_at-before, command_at_found, command_at_past}
use Rattle.run_data.proofs.script.command_of.Goals as goal

pub returns-then-line-eq0 : goal.returns-then-line-eq0
returns-then-line-eq0 c = rw c.if-line-eq0.true (sym (command_at-before 1 c.args.lines.now 0 (omega arith)))

pub returns-in_err-get : goal.returns-in_err-get
returns-in_err-get c =
    let low : 0 < c.args.line = omega arith in
    ap option_copied c.from_residual.ensures ∙ sym (command_at_past c.args.lines.now c.args.line low c.in_err-get.ensures.lookup.3)

pub returns : goal.returns
returns c =
    let low : 0 < c.args.line = omega arith in
    c.as_ref.ensures.value ∙ sym (command_at_found c.args.lines.now c.args.line _ low c.in_ok-get.ensures.lookup.3.0 c.in_ok-get.ensures.lookup.1)
