use Rattle.std.proofs.Common.{refl, sym, ap, ◌∙◌}
use mir.Val.{SFits}
use mir.Syntax.{w32}
use Rattle.std.proofs.Common.{rules as search_rules}
use Rattle.std.proofs.lemmas.Int.{to_z-of_z}
use Rattle.std.specs.Prelude.{Some, None}
use Rattle.script_text.proofs.Broken.{broken_split, broken_kept, broken_told}
use Rattle.script_text.proofs.checking.with_command.Goals as goal

pub returns-in-Some-clause-broken : goal.returns-in-Some-clause-broken
returns-in-Some-clause-broken c =
    let fits : SFits w32 c.in-Some.code = search search_rules in
    broken_split c.args.told c.args.script.now c.args.line c.args.command.now (Some c.in-Some.code) _ _ c.requires.some c.requires.within (sym c.in-Some.is ∙ c.count_code.ensures) refl refl
    ∙ ap (λ z. Some z) (sym (to_z-of_z w32 c.in-Some.code fits))

pub returns-in-Some-names_code-clause-broken : goal.returns-in-Some-names_code-clause-broken
returns-in-Some-names_code-clause-broken c =
    let fits : SFits w32 c.in-Some-names_code.code = search search_rules in
    broken_split c.args.told c.args.script.now c.args.line c.args.command.now None (Some c.in-Some-names_code.code) _ c.requires.some c.requires.within (sym c.in_default.is ∙ c.count_code.ensures)
    (sym c.in-Some-names_code.is ∙ c.names_code.ensures) refl
    ∙ ap (λ z. Some z) (sym (to_z-of_z w32 c.in-Some-names_code.code fits))

pub returns-in-None-clause-kept : goal.returns-in-None-clause-kept
returns-in-None-clause-kept c =
    broken_kept c.args.told c.args.script.now c.args.line c.args.command.now c.after.result _ _ c.requires.some c.requires.within c.count_code.ensures c.in_default.is c.names_code.ensures c.in-None.is c.after.ensures.kept

pub returns-in-None-clause-broken : goal.returns-in-None-clause-broken
returns-in-None-clause-broken c =
    broken_told c.args.told c.args.script.now c.args.line c.args.command.now c.after.result _ _ c.requires.some c.requires.within c.count_code.ensures c.in_default.is c.names_code.ensures c.in-None.is c.after.ensures.broken
