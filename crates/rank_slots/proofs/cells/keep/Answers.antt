use Rattle.std.proofs.Common.{rules, sym, ap, subst, ◌∙◌, not}
use Rattle.std.proofs.lemmas.Fn.{filter_same}
use Rattle.rank_machine.specs.Effect.{is_live}
use Rattle.script_lines.specs.Lines.{setting_on}
use Rattle.rank_slots.specs.declared.cells.Cell.{Cell}
use Rattle.rank_slots.specs.Cells.{AreOrdered, kept_in}
use Rattle.rank_slots.proofs.Kept.{kept_of_lent}
use Rattle.rank_slots.proofs.PlaceLaws.{ordered-kept}
use Rattle.rank_slots.proofs.cells.keep.Goals as goal

pub invariant_of-cells : goal.invariant_of-cells
invariant_of-cells c =
    let test = is_live (setting_on 0 c.args.table.now) c.args.mark c.args.rank in
    let old = c.cells.inside.items.items in
    let passed = filter_same _ (λ (x : Cell). not x.fresh) _ (λ x b f' k. search rules) _ c.retain.new.self.items c.retain.ensures.filtered in
    let kept = passed ∙ kept_of_lent test old c.deref_mut.result.now c.judge.new.items old c.cells.inside.items.len c.deref_mut.ensures.value c.judge.ensures (c.judge.auto.items ∙ c.deref_mut.ensures.len) in
    subst AreOrdered (sym kept) (ordered-kept test old c.cells.invariant)

pub returns : goal.returns
returns c =
    let test = is_live (setting_on 0 c.args.table.now) c.args.mark c.args.rank in
    let old = c.cells.inside.items.items in
    let passed = filter_same _ (λ (x : Cell). not x.fresh) _ (λ x b f' k. search rules) _ c.retain.new.self.items c.retain.ensures.filtered in
    passed
    ∙ kept_of_lent test old c.deref_mut.result.now c.judge.new.items old c.cells.inside.items.len c.deref_mut.ensures.value c.judge.ensures (c.judge.auto.items ∙ c.deref_mut.ensures.len)
    ∙ ap (λ l. kept_in test l) c.cells.view_is
