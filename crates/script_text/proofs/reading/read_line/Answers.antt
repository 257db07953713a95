use Rattle.std.proofs.Common.{◌≡◌, suc, ◌+◌, ◌-◌, ◌++◌, [], ◌∷◌, length, sym, ap, subst, ◌∙◌, arith}
use mir.Val.{SFits}
use mir.Syntax.{w32}
use Rattle.std.proofs.Common.{rules as search_rules}
use Rattle.std.proofs.lemmas.Int.{to_z-of_z}
use Rattle.std.specs.Prelude.{Err, Some, None}
use Rattle.run_data.specs.Script.{commands_of}
use Rattle.script_rules.specs.Counted.{AreCounts, commands_before}
use Rattle.script_words.specs.Tables.{first_code}
use Rattle.script_rules.specs.Rules.{rules}
use Rattle.script_text.specs.Script.{refused}
use Rattle.script_text.proofs.Keeping.{answer-form, answer-rule, answer-none, answer-some}
use Rattle.script_rules.proofs.Counting.{AreCounts-more, commands_of-none, commands_of-some}
use Rattle.script_rules.proofs.Inside.{before_next}
use Rattle.script_text.proofs.reading.read_line.Goals as goal

pub after-requires-clause-counts : goal.after-requires-clause-counts
after-requires-clause-counts c =
    let script = c.args.script.now in
    let line : c.lines-line.result + 1 ≡ suc (length script) = omega (arith, c.lines-line.ensures) in
    let lines : length script ≡ (c.lines-line.result + 1) - 1 = omega (arith, line) in
    subst (λ n. AreCounts c.args.counts n (commands_before script (c.lines-line.result + 1))) lines
    (subst (AreCounts c.args.counts (length script)) (sym (before_next script (c.lines-line.result + 1) line)) c.requires.counts)

pub returns-in-Some-clause-refused : goal.returns-in-Some-clause-refused
returns-in-Some-clause-refused c =
    let line : suc (length c.args.script.now) ≡ c.lines-line.result + 1 = omega (arith, c.lines-line.ensures) in
    answer-form c.args.told c.args.script.now c.args.words.now c.in-Some.code (sym c.form_code.ensures.code ∙ c.in-Some.is) ∙ ap (λ l. Err (refused l c.in-Some.code)) line
    ∙ (let f : SFits w32 c.in-Some.code = search search_rules in ap (λ z. Err (refused (c.lines-line.result + 1) z)) (sym (to_z-of_z w32 c.in-Some.code f)))

pub returns-in_default-2-clause-line : goal.returns-in_default-2-clause-line
returns-in_default-2-clause-line c =
    answer-none c.args.told c.args.script.now c.args.words.now (sym c.form_code.ensures.code ∙ c.in_default.is) (sym c.in_ok-command.ensures ∙ c.in_default-2.is)

pub returns-in_default-2-clause-counted : goal.returns-in_default-2-clause-counted
returns-in_default-2-clause-counted c =
    subst (AreCounts c.args.counts (suc (length c.args.script.now))) (sym (commands_of-none c.args.script.now))
    (AreCounts-more c.args.counts (length c.args.script.now) (suc (length c.args.script.now)) (commands_of c.args.script.now) c.requires.counts (omega arith))

pub returns-in-Ok-clause-line : goal.returns-in-Ok-clause-line
returns-in-Ok-clause-line c =
    let line : c.lines-line.result + 1 ≡ suc (length c.args.script.now) = omega (arith, c.lines-line.ensures) in
    answer-some c.args.told c.args.script.now c.args.words.now c.in-Some-2.command (sym c.form_code.ensures.code ∙ c.in_default.is) (sym c.in_ok-command.ensures ∙ c.in-Some-2.is)
    (subst (λ l. first_code (rules c.args.told (commands_of c.args.script.now) l c.in-Some-2.command) ≡ None) line
    (subst (λ cs. first_code (rules c.args.told cs (c.lines-line.result + 1) c.in-Some-2.command) ≡ None) (before_next c.args.script.now (c.lines-line.result + 1) line) c.in-Ok.ensures.kept))

pub returns-in-Ok-clause-counted : goal.returns-in-Ok-clause-counted
returns-in-Ok-clause-counted c =
    let line : c.lines-line.result + 1 ≡ suc (length c.args.script.now) = omega (arith, c.lines-line.ensures) in
    let counted = subst (λ cs. AreCounts c.in-Ok.counts (c.lines-line.result + 1) (cs ++ record { line = c.lines-line.result + 1; command = c.in-Some-2.command } ∷ [])) (before_next c.args.script.now (c.lines-line.result + 1) line) c.in-Ok.ensures.counted in
    let whole = subst (AreCounts c.in-Ok.counts (c.lines-line.result + 1)) (sym (commands_of-some c.args.script.now (c.lines-line.result + 1) c.in-Some-2.command line)) counted in
    subst (λ l. AreCounts c.in-Ok.counts l (commands_of (c.args.script.now ++ Some c.in-Some-2.command ∷ []))) line whole

pub returns-in-Err-clause-refused : goal.returns-in-Err-clause-refused
returns-in-Err-clause-refused c =
    let line : c.lines-line.result + 1 ≡ suc (length c.args.script.now) = omega (arith, c.lines-line.ensures) in
    answer-rule c.args.told c.args.script.now c.args.words.now c.in-Some-2.command c.in-Err.code (sym c.form_code.ensures.code ∙ c.in_default.is) (sym c.in_ok-command.ensures ∙ c.in-Some-2.is)
    (subst (λ l. first_code (rules c.args.told (commands_of c.args.script.now) l c.in-Some-2.command) ≡ Some c.in-Err.code) line
    (subst (λ cs. first_code (rules c.args.told cs (c.lines-line.result + 1) c.in-Some-2.command) ≡ Some c.in-Err.code) (before_next c.args.script.now (c.lines-line.result + 1) line) c.in-Err.ensures.broken)) ∙ ap (λ l. Err (refused l c.in-Err.code)) (sym line)
    ∙ (let f : SFits w32 c.in-Err.code = search search_rules in ap (λ z. Err (refused (c.lines-line.result + 1) z)) (sym (to_z-of_z w32 c.in-Err.code f)))
