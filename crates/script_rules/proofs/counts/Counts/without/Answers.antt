use Rattle.std.proofs.Common.{sym, ap, ◌∙◌}
use Rattle.script_rules.specs.Counted.{commands_before}
use Rattle.script_rules.proofs.Inside.{next_line, maker_command-before}
use Rattle.script_rules.specs.Rules.{is_matrix_line, is_list_line}
use Rattle.script_rules.proofs.Counting.{counts_dropped_matrix, counts_dropped_list, counts_dropped_none}
use Rattle.script_rules.proofs.counts.Counts.without.Goals as goal

pub returns-then-is_matrix : goal.returns-then-is_matrix
returns-then-is_matrix c =
    counts_dropped_matrix c.args.self _ c.args.line (commands_before c.args.script.now c.args.line) c.args.name.now c.requires.counts (next_line c.args.line c.requires.some) (ap is_matrix_line (maker_command-before c.args.script.now c.args.line c.args.name.now c.requires.some c.requires.within) ∙ sym c.is_matrix.ensures ∙ c.if-is_matrix.true)

pub returns-then-is_list : goal.returns-then-is_list
returns-then-is_list c =
    counts_dropped_list c.args.self _ c.args.line (commands_before c.args.script.now c.args.line) c.args.name.now c.requires.counts (next_line c.args.line c.requires.some) (ap is_matrix_line (maker_command-before c.args.script.now c.args.line c.args.name.now c.requires.some c.requires.within) ∙ sym c.is_matrix.ensures ∙ c.if-is_matrix.false) (ap is_list_line (maker_command-before c.args.script.now c.args.line c.args.name.now c.requires.some c.requires.within) ∙ sym c.is_list.ensures ∙ c.if-is_list.true)

pub returns : goal.returns
returns c =
    counts_dropped_none c.args.self _ c.args.line (commands_before c.args.script.now c.args.line) c.args.name.now c.requires.counts (next_line c.args.line c.requires.some) (ap is_matrix_line (maker_command-before c.args.script.now c.args.line c.args.name.now c.requires.some c.requires.within) ∙ sym c.is_matrix.ensures ∙ c.if-is_matrix.false) (ap is_list_line (maker_command-before c.args.script.now c.args.line c.args.name.now c.requires.some c.requires.within) ∙ sym c.is_list.ensures ∙ c.if-is_list.false)
