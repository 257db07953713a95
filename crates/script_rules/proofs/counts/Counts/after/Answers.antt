use Rattle.std.proofs.Common.{sym, ap, ◌∙◌}
use mir.Val.{SFits}
use mir.Syntax.{w32}
use Rattle.std.proofs.Common.{rules as search_rules}
use Rattle.std.proofs.lemmas.Int.{to_z-of_z}
use Rattle.std.specs.Prelude.{Some, None}
use Rattle.script_rules.proofs.Inside.{rules_split, rules_routine}
use Rattle.script_rules.proofs.counts.Counts.after.Goals as goal

pub returns-in-Some-clause-broken : goal.returns-in-Some-clause-broken
returns-in-Some-clause-broken c =
    let fits : SFits w32 c.in-Some.code = search search_rules in
    rules_routine c.args.told c.args.script.now c.args.line c.args.command.now c.args.self.modulus c.in-Some.code c.requires.some c.requires.within c.requires.counts.modulus (sym c.in-Some.is ∙ c.routine_code.ensures)
    ∙ ap (λ z. Some z) (sym (to_z-of_z w32 c.in-Some.code fits))

pub returns-in-Some-own_code-clause-broken : goal.returns-in-Some-own_code-clause-broken
returns-in-Some-own_code-clause-broken c =
    let fits : SFits w32 c.in-Some-own_code.code = search search_rules in
    rules_split c.args.told c.args.script.now c.args.line c.args.command.now c.args.self.modulus None (Some c.in-Some-own_code.code) c.requires.some c.requires.within c.requires.counts.modulus (sym c.in_default.is ∙ c.routine_code.ensures)
    (sym c.in-Some-own_code.is ∙ c.own_code.ensures)
    ∙ ap (λ z. Some z) (sym (to_z-of_z w32 c.in-Some-own_code.code fits))

pub returns-in-None-clause-kept : goal.returns-in-None-clause-kept
returns-in-None-clause-kept c =
    rules_split c.args.told c.args.script.now c.args.line c.args.command.now c.args.self.modulus None None c.requires.some c.requires.within c.requires.counts.modulus (sym c.in_default.is ∙ c.routine_code.ensures)
    (sym c.in-None.is ∙ c.own_code.ensures)
