use Rattle.std.proofs.Common.{◌≡◌, ◌<◌, ◌≤◌, ◌++◌, ◌∷◌, [], List, length, ap, sym, subst, ◌∙◌, ⊎_elim, arith}
use Rattle.std.proofs.lemmas.Bool.{cases_lt}
use Rattle.std.proofs.lemmas.List.{length-append}
use Rattle.rank_machine.specs.declared.record.Rec.{Rec}
use Rattle.run_laws.specs.Due.{numbered}
use Rattle.block_world.specs.Log.{is_due_next}
use Rattle.block_world.specs.Kept.{next_from, left_from, IsNextAt}
use Rattle.block_world.proofs.Keeping.{steps-push, left-push, left-most, next-push}
use Rattle.block_world.proofs.keeper.Keeper.note.Goals as goal

pub invariant_of-self-2 : goal.invariant_of-self-2
invariant_of-self-2 c =
    let k = c.self.invariant in
    let js = c.self.inside.journal.items in
    let ls = c.self.inside.losses.items in
    let x = c.args.added in
    let made = c.in_ok-make_room.ensures in
    let items = c.push.ensures.items ∙ ap (λ (l : List Rec). l ++ x ∷ []) made.items in
    let due = ap is_due_next c.self.view_is ∙ c.requires.due in
    let len = ap length items ∙ length-append js (x ∷ []) in
    let pushed = c.push.ensures.len in
    let same = made.len in
    let grown = c.push.ensures.capacity in
    let kept = made.capacity in
    let before = k.len_is in
    let left = ap (λ (l : List Rec). left_from ls (next_from l)) items ∙ left-push ls js x c.requires.numbered due in
    let most = left-most ls (next_from js) in
    let room = c.saturating_sub-self-inside.ensures in
    let count = c.len.ensures in
    let has = k.has_room in
    let few = k.few in
    let fits = made.few in
    let all = k.all_fit in
    let losses = c.self.inside.losses.ok in
    record {
      len_is = omega (arith, len, pushed, same, before);
      steps_are = ap numbered items ∙ steps-push js x c.requires.numbered ∙ (let s = k.steps_are in omega (arith, s));
      has_room =
          ⊎_elim
          (λ (lt : 0 < c.self.inside.room). omega (arith, lt, left, room, has, pushed, same, grown, kept))
          (λ (le : c.self.inside.room ≤ 0). let none : c.self.inside.room ≡ 0 = omega (arith, le) in let ok = made.ok none in omega (arith, none, left, most, room, count, ok, pushed, same, grown, kept))
          (cases_lt 0 c.self.inside.room);
      all_fit = omega (arith, all, grown, kept);
      few = omega (arith, room, few, fits);
      next_is = subst (λ (l : List Rec). IsNextAt ls (next_from l) c.self.inside.next) (sym items) (next-push ls js x c.self.inside.next c.requires.numbered due k.next_is);
    }
