use Rattle.std.proofs.Common.{◌≡◌, ◌+◌, ◌++◌, ℕ, suc, true, List, length, ap, sym, subst, ◌∙◌, arith}
use Rattle.std.proofs.lemmas.List.{length-append}
use Rattle.rank_machine.specs.declared.record.Loss.{Loss}
use Rattle.rank_machine.specs.Losses.{falls}
use Rattle.run_laws.specs.Due.{numbered, some_at}
use Rattle.block_world.specs.Log.{is_due_next}
use Rattle.block_world.specs.Kept.{next_from, left_from, IsNextAt}
use Rattle.block_world.proofs.Keeping.{steps-falls, left-splits, from-due, from-falls, due-some}
use Rattle.block_world.proofs.keeper.Keeper.fall.Goals as goal

pub push_losses-requires : goal.push_losses-requires
push_losses-requires c =
    let k = c.self.invariant in
    let js = c.self.inside.journal.items in
    let ls = c.self.inside.losses.items in
    let n = c.self.inside.steps in
    let due = ap is_due_next c.self.view_is ∙ c.requires in
    let falls_are = ap (λ (l : List Loss). length (falls l n)) c.deref.ensures.value in
    let from = ap (left_from ls) (from-due ls js due ∙ k.steps_are) in
    let splits = left-splits ls n in
    let has = k.has_room in
    omega (arith, falls_are, from, splits, has)

pub invariant_of-self : goal.invariant_of-self
invariant_of-self c =
    let k = c.self.invariant in
    let js = c.self.inside.journal.items in
    let ls = c.self.inside.losses.items in
    let n = c.self.inside.steps in
    let due = ap is_due_next c.self.view_is ∙ c.requires in
    let fallen = falls ls n in
    let items = c.push_losses.ensures.items ∙ ap (λ (l : List Loss). js ++ falls l n) c.deref.ensures.value in
    let sizes = ap (λ (l : List Loss). length (falls l n)) c.deref.ensures.value in
    let len = ap length items ∙ length-append js fallen in
    let pushed = c.push_losses.ensures.len in
    let grown = c.push_losses.ensures.capacity in
    let before = k.len_is in
    let some : some_at ls n ≡ true = ap (some_at ls) (sym k.steps_are) ∙ due-some ls js due in
    let from = ap (left_from ls) (from-due ls js due ∙ k.steps_are) in
    let splits = left-splits ls n in
    let next : next_from c.push_losses.new.journal.items ≡ suc n = ap next_from items ∙ from-falls js ls n some ∙ ap suc k.steps_are in
    let left = ap (left_from ls) next in
    let has = k.has_room in
    let all = k.all_fit in
    let at_one : c.from.result + 1 ≡ suc n = (let e = c.from.ensures in omega (arith, e)) in
    record {
      len_is = omega (arith, len, pushed, sizes, before);
      steps_are = ap numbered items ∙ steps-falls js ls n ∙ k.steps_are;
      has_room = omega (arith, left, from, splits, has, pushed, sizes, grown);
      all_fit = omega (arith, all, grown);
      few = k.few;
      next_is = subst (λ (m : ℕ). IsNextAt ls m c.next_at-self-inside.result) (sym next) (subst (λ (m : ℕ). IsNextAt ls m c.next_at-self-inside.result) at_one (subst (λ (l : List Loss). IsNextAt l (c.from.result + 1) c.next_at-self-inside.result) c.deref-2.ensures.value c.next_at-self-inside.ensures));
    }
