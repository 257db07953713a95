use Rattle.std.proofs.Common.{List, length, ap, sym, subst, arith}
use Rattle.rank_machine.specs.declared.record.Rec.{Rec}
use Rattle.rank_machine.specs.declared.record.Loss.{Loss}
use Rattle.run_laws.specs.Due.{numbered}
use Rattle.block_world.specs.Kept.{next_from, left_from, IsNextAt}
use Rattle.block_world.proofs.Keeping.{left-most}
use Rattle.block_world.proofs.keeper.Keeper.restart.Goals as goal

pub invariant_of-self : goal.invariant_of-self
invariant_of-self c =
    let k = c.self.invariant in
    let ls = c.self.inside.losses.items in
    let items = c.clear.ensures.items in
    let len = c.clear.ensures.len in
    let grown = c.clear.ensures.capacity in
    let none = ap length items in
    let left = ap (λ (l : List Rec). left_from ls (next_from l)) items in
    let most = left-most ls 0 in
    let all = k.all_fit in
    record {
      len_is = omega (arith, none, len);
      steps_are = ap numbered items;
      has_room = omega (arith, len, left, most, all, grown);
      all_fit = omega (arith, all, grown);
      few = omega arith;
      next_is = subst (λ (l : List Rec). IsNextAt ls (next_from l) c.next_at-self-inside.result) (sym items) (subst (λ (l : List Loss). IsNextAt l 0 c.next_at-self-inside.result) c.deref.ensures.value c.next_at-self-inside.ensures);
    }
