use Rattle.std.proofs.Common.{ap, ◌∙◌}
use Rattle.run_data.specs.Script.{commands_of}
use Rattle.run_data.specs.Flips.{pending}
use Rattle.script_rules.specs.Rules.{maker_command, process_rows, process_columns, matrix_words, distribution_of}
use Rattle.script_rules.proofs.Inside.{own_matrix, own_list, own_flip, own_pverify, own_print}
use Rattle.script_rules.proofs.counts.Counts.own_code.Goals as goal

pub returns-in-Matrix : goal.returns-in-Matrix
returns-in-Matrix c =
    let w = c.in-Matrix in
    let cs = commands_of c.args.script.now in
    own_matrix c.args.told c.args.script.now c.args.line c.args.command.now c.args.self w.name w.grid w.m w.n w.mb w.nb w.rsrc w.csrc w.file _ _ _ _ w.is c.requires.some c.requires.within c.requires.counts
    c.saturating_sub-live.ensures (c.grid_shape-p.ensures.rows ∙ ap (λ g. process_rows (maker_command cs c.args.line g)) c.bytes.ensures)
    (c.grid_shape-p.ensures.columns ∙ ap (λ g. process_columns (maker_command cs c.args.line g)) c.bytes.ensures) c.matrix_code.ensures.code

pub returns-in-Pgetrf : goal.returns-in-Pgetrf
returns-in-Pgetrf c =
    let w = c.in-Pgetrf in
    own_list c.args.told c.args.script.now c.args.line c.args.command.now c.args.self w.m w.n w.a w.ia w.ja w.v _ _ w.is c.requires.counts c.saturating_sub-live-in-Pgetrf.ensures c.list_code.ensures

pub returns-in-Flip : goal.returns-in-Flip
returns-in-Flip c =
    let w = c.in-Flip in
    own_flip c.args.told c.args.script.now c.args.line c.args.command.now c.args.self w.name w.i w.j w.x _ _ _ w.is c.requires.some c.requires.within c.requires.counts
    (c.distribution_of-a.ensures ∙ ap (distribution_of (commands_of c.args.script.now) c.args.line) c.bytes-in-Flip.ensures)
    (ap (pending (commands_of c.args.script.now) c.args.line) c.bytes-in-Flip-2.ensures) c.flip_code.ensures

pub returns-in-Pverify : goal.returns-in-Pverify
returns-in-Pverify c =
    let w = c.in-Pverify in
    own_pverify c.args.told c.args.script.now c.args.line c.args.command.now w.name _ _ w.is c.requires.some c.requires.within
    (c.distribution_of.ensures ∙ ap (distribution_of (commands_of c.args.script.now) c.args.line) c.bytes-in-Pverify.ensures) c.pverify_code.ensures

pub returns-in-Print : goal.returns-in-Print
returns-in-Print c =
    own_print c.args.told c.args.script.now c.args.line c.args.command.now c.args.self c.in-Print.name _ _ c.in-Print.is c.requires.some c.requires.within c.requires.counts
    (c.matrix_words.ensures.value ∙ ap (λ n. matrix_words (maker_command (commands_of c.args.script.now) c.args.line n)) c.bytes-in-Print.ensures) c.print_code.ensures.code
