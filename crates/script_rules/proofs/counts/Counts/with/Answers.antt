use Rattle.std.proofs.Common.{◌+◌, sym, ap, ◌∙◌, subst}
use Rattle.script_rules.specs.Counted.{commands_before}
use Rattle.script_rules.proofs.Inside.{next_line, maker_command-before}
use Rattle.script_rules.specs.Rules.{matrix_words, maker_command}
use Rattle.script_rules.proofs.Counting.{CountWith, counts_grid, counts_matrix, counts_list, counts_print, counts_links, counts_spares, counts_field, counts_order, AreCounts-same, CountsNothing-from_others}
use Rattle.script_rules.proofs.counts.Counts.with.Goals as goal

pub returns-in-Grid : goal.returns-in-Grid
returns-in-Grid c =
    let w = c.in-Grid in
    counts_grid c.requires.kept.0 c.args.self _ c.args.line (commands_before c.args.script.now c.args.line) c.args.command.now w.name w.p w.q w.f w.is c.requires.counts (next_line c.args.line c.requires.some) c.requires.kept.1

pub returns-in-Matrix : goal.returns-in-Matrix
returns-in-Matrix c =
    let w = c.in-Matrix in
    counts_matrix c.requires.kept.0 c.args.self _ c.args.line (commands_before c.args.script.now c.args.line) c.args.command.now w.name w.grid w.m w.n w.mb w.nb w.rsrc w.csrc w.file w.is c.requires.counts (next_line c.args.line c.requires.some) c.requires.kept.1

pub returns-in-Pgetrf : goal.returns-in-Pgetrf
returns-in-Pgetrf c =
    let w = c.in-Pgetrf in
    counts_list c.requires.kept.0 c.args.self _ c.args.line (commands_before c.args.script.now c.args.line) c.args.command.now w.m w.n w.a w.ia w.ja w.v w.is c.requires.counts (next_line c.args.line c.requires.some) c.requires.kept.1

pub returns-in-Print : goal.returns-in-Print
returns-in-Print c =
    let cs = commands_before c.args.script.now c.args.line in
    let words =
    c.matrix_words.ensures.value ∙ ap matrix_words (sym (maker_command-before c.args.script.now c.args.line c.bytes.result.now c.requires.some c.requires.within))
    ∙ ap (λ n. matrix_words (maker_command cs c.args.line n)) c.bytes.ensures in
    subst (λ k. CountWith (record c.args.self { printed = c.args.self.printed + k }) cs c.args.line c.args.command.now) (sym words)
    (counts_print c.requires.kept.0 c.args.self _ c.args.line cs c.args.command.now c.in-Print.name c.in-Print.is c.requires.counts (next_line c.args.line c.requires.some) c.requires.kept.1)

pub returns-in-Links : goal.returns-in-Links
returns-in-Links c =
    counts_links c.requires.kept.0 c.args.self _ c.args.line (commands_before c.args.script.now c.args.line) c.args.command.now c.in-Links.n c.in-Links.is c.requires.counts (next_line c.args.line c.requires.some) c.requires.kept.1

pub returns-in-Spares : goal.returns-in-Spares
returns-in-Spares c =
    counts_spares c.requires.kept.0 c.args.self _ c.args.line (commands_before c.args.script.now c.args.line) c.args.command.now c.in-Spares.n c.in-Spares.is c.requires.counts (next_line c.args.line c.requires.some) c.requires.kept.1

pub returns-in-Field : goal.returns-in-Field
returns-in-Field c =
    counts_field c.requires.kept.0 c.args.self _ c.args.line (commands_before c.args.script.now c.args.line) c.args.command.now c.in-Field.n c.in-Field.is c.requires.counts (next_line c.args.line c.requires.some) c.requires.kept.1

pub returns-in-Order : goal.returns-in-Order
returns-in-Order c =
    let cs = commands_before c.args.script.now c.args.line in
    subst (λ k. CountWith (record c.args.self { ordered = c.args.self.ordered + k }) cs c.args.line c.args.command.now) (sym c.len.ensures)
    (counts_order c.requires.kept.0 c.args.self _ c.args.line cs c.args.command.now c.in-Order.numbers c.in-Order.is c.requires.counts (next_line c.args.line c.requires.some) c.requires.kept.1)

pub returns-in_default : goal.returns-in_default
returns-in_default c =
    let cs = commands_before c.args.script.now c.args.line in
    let w = c.in_default in
    AreCounts-same c.args.self _ c.args.line cs c.args.command.now c.requires.counts (next_line c.args.line c.requires.some)
    (CountsNothing-from_others cs c.args.line c.args.command.now w.not-Grid w.not-Matrix w.not-Pgetrf w.not-Print w.not-Discard w.not-Links w.not-Spares w.not-Order w.not-Field)
