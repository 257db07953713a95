use Rattle.std.proofs.Common.{◌≡◌, length, sym, ap, ◌∙◌, arith}
use Rattle.std.proofs.Common.{rules as search_rules}
use mir.Val.{SFits}
use mir.Syntax.{w32}
use Rattle.std.proofs.lemmas.Int.{to_z-of_z}
use Rattle.std.specs.Prelude.{Some, slice_index_or, pos, false}
use Rattle.script_words.specs.Tables.{first_code}
use Rattle.script_words.proofs.Cuts.{drop_whole}
use Rattle.script_words.proofs.Tables.{first_code-kept, first_code-broken}
use Rattle.script_rules.proofs.routines.first_code.Goals as goal

pub returns-then-not-kept : goal.returns-then-not-kept
returns-then-not-kept c =
    let code = (slice_index_or c.args.rules.now c.loop-code.code-index (pos 0, false)).0 in
    let fits : SFits w32 code = search search_rules in
    ap (λ z. Some z) (to_z-of_z w32 code fits) ∙ sym (first_code-broken c.args.rules.now c.loop-code.code-index _ c.loop-code-test.true c.if-not-kept.true) ∙ c.loop-code.invariant

pub loop-code-preserved : goal.loop-code-preserved
loop-code-preserved c = sym (first_code-kept c.args.rules.now c.loop-code.code-index _ c.loop-code-test.true c.if-not-kept.false) ∙ c.loop-code.invariant

pub returns : goal.returns
returns c =
    let all : c.loop-code.code-index ≡ length c.args.rules.now = omega (arith, c.loop-code-test.false, c.loop-code.auto.code-index-end) in
    sym (ap first_code (drop_whole c.args.rules.now c.loop-code.code-index all)) ∙ c.loop-code.invariant
