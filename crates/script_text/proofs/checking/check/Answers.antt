use Rattle.std.proofs.Common.{◌<◌, ◌≤◌, sym, ap, ◌∙◌, arith}
use Rattle.std.specs.Prelude.{Some}
use Rattle.run_data.specs.Script.{commands_of}
use Rattle.script_bounds.specs.Bounds.{bound}
use Rattle.script_words.specs.Limits.{record_limit}
use Rattle.script_text.proofs.Places.{KeepsRules-from_check, IsAccepted-from_check, refused_line, refused_bound, refused_none}
use Rattle.script_text.proofs.checking.check.Goals as goal

pub returns-in-Some-clause-refused : goal.returns-in-Some-clause-refused
returns-in-Some-clause-refused c = refused_line c.args.script.now c.in-Some.refused (sym c.first_broken.ensures ∙ c.in-Some.is)

pub bound-requires : goal.bound-requires
bound-requires c = KeepsRules-from_check c.args.script.now (sym c.first_broken.ensures ∙ c.in_default.is)

pub returns-then-bound-gt-MAX_RECORDS-clause-refused : goal.returns-then-bound-gt-MAX_RECORDS-clause-refused
returns-then-bound-gt-MAX_RECORDS-clause-refused c =
    let above : record_limit < bound (commands_of c.args.script.now) = omega (arith, c.bound.ensures, c.if-bound-gt-MAX_RECORDS.true) in
    refused_bound c.args.script.now (sym c.first_broken.ensures ∙ c.in_default.is) above ∙ ap (λ r. Some r) (sym c.above_bound.ensures)

pub returns-clause-passes : goal.returns-clause-passes
returns-clause-passes c =
    let within : bound (commands_of c.args.script.now) ≤ record_limit = omega (arith, c.bound.ensures, c.if-bound-gt-MAX_RECORDS.false) in
    refused_none c.args.script.now (sym c.first_broken.ensures ∙ c.in_default.is) within

pub returns-clause-accepted : goal.returns-clause-accepted
returns-clause-accepted c =
    let within : bound (commands_of c.args.script.now) ≤ record_limit = omega (arith, c.bound.ensures, c.if-bound-gt-MAX_RECORDS.false) in
    IsAccepted-from_check c.args.script.now (sym c.first_broken.ensures ∙ c.in_default.is) within
