use Rattle.std.proofs.Common.{◌≡◌, ◌<◌, ◌≤◌, [], Ok, Err, sym, ap, ◌∙◌, arith}
use Rattle.run_data.specs.Script.{commands_of}
use Rattle.script_text.specs.Script.{script_after}
use Rattle.script_words.specs.Lines.{word_lines}
use Rattle.script_rules.specs.Told.{told_by}
use Rattle.script_bounds.specs.Bounds.{bound}
use Rattle.script_words.specs.Limits.{record_limit}
use Rattle.script_text.proofs.Keeping.{read-all, read-above}
use Rattle.script_text.proofs.Telling.{KeepsRules-from_script_after}
use Rattle.script_text.proofs.Passing.{first_refusal-from_script_after}
use Rattle.script_text.proofs.reading.parse_script.Goals as goal

pub bound-requires : goal.bound-requires
bound-requires c =
    let lines = word_lines c.args.bytes.now in
    let read : script_after (told_by lines) [] lines ≡ Ok c.in_ok-script.script = ap (λ t. script_after t [] lines) (sym c.in_ok-told.ensures) ∙ c.in_ok-script.ensures in
    KeepsRules-from_script_after lines c.in_ok-script.script read

pub returns-then-bound-gt-MAX_RECORDS-clause-read : goal.returns-then-bound-gt-MAX_RECORDS-clause-read
returns-then-bound-gt-MAX_RECORDS-clause-read c =
    let lines = word_lines c.args.bytes.now in
    let read : script_after (told_by lines) [] lines ≡ Ok c.in_ok-script.script = ap (λ t. script_after t [] lines) (sym c.in_ok-told.ensures) ∙ c.in_ok-script.ensures in
    let above : record_limit < bound (commands_of c.in_ok-script.script) = omega (arith, c.bound.ensures, c.if-bound-gt-MAX_RECORDS.true) in
    read-above c.args.bytes.now c.in_ok-script.script read above ∙ ap (λ r. Err r) (sym c.above_bound.ensures)

pub returns-clause-read : goal.returns-clause-read
returns-clause-read c =
    let lines = word_lines c.args.bytes.now in
    let read : script_after (told_by lines) [] lines ≡ Ok c.in_ok-script.script = ap (λ t. script_after t [] lines) (sym c.in_ok-told.ensures) ∙ c.in_ok-script.ensures in
    let within : bound (commands_of c.in_ok-script.script) ≤ record_limit = omega (arith, c.bound.ensures, c.if-bound-gt-MAX_RECORDS.false) in
    read-all c.args.bytes.now c.in_ok-script.script read within

pub returns-clause-accepted : goal.returns-clause-accepted
returns-clause-accepted c =
    let lines = word_lines c.args.bytes.now in
    let script = c.in_ok-script.script in
    let read : script_after (told_by lines) [] lines ≡ Ok script = ap (λ t. script_after t [] lines) (sym c.in_ok-told.ensures) ∙ c.in_ok-script.ensures in
    let within : bound (commands_of script) ≤ record_limit = omega (arith, c.bound.ensures, c.if-bound-gt-MAX_RECORDS.false) in
    record { lines = KeepsRules-from_script_after lines script read; bounded = within }

pub returns-clause-checked : goal.returns-clause-checked
returns-clause-checked c =
    let lines = word_lines c.args.bytes.now in
    let script = c.in_ok-script.script in
    let read : script_after (told_by lines) [] lines ≡ Ok script = ap (λ t. script_after t [] lines) (sym c.in_ok-told.ensures) ∙ c.in_ok-script.ensures in
    let within : bound (commands_of script) ≤ record_limit = omega (arith, c.bound.ensures, c.if-bound-gt-MAX_RECORDS.false) in
    first_refusal-from_script_after lines script read within
