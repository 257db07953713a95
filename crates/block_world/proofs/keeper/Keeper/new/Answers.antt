use Rattle.std.proofs.Common.{List, length, ap, sym, subst, arith}
use Rattle.rank_machine.specs.declared.record.Rec.{Rec}
use Rattle.rank_machine.specs.declared.record.Loss.{Loss}
use Rattle.run_laws.specs.Due.{numbered}
use Rattle.block_world.specs.Kept.{next_from, left_from, IsNextAt}
use Rattle.block_world.proofs.Keeping.{left-most}
use Rattle.block_world.proofs.keeper.Keeper.new.Goals as goal

pub invariant_of-result : goal.invariant_of-result
invariant_of-result c =
    let ls = c.in_ok-losses.losses.items in
    let made = c.in_ok-journal.ensures in
    let items = made.items in
    let len = made.len in
    let grown = made.capacity in
    let count = c.len.ensures in
    let none = ap length items in
    let left = ap (λ (l : List Rec). left_from ls (next_from l)) items in
    let most = left-most ls 0 in
    let size = c.in_ok-losses.losses.ok in
    let fits = c.ranges.room.fits in
    record {
      len_is = omega (arith, none, len);
      steps_are = ap numbered items;
      has_room = omega (arith, len, left, most, grown, count);
      all_fit = omega (arith, grown, count);
      few = omega (arith, fits);
      next_is = subst (λ (l : List Rec). IsNextAt ls (next_from l) c.next_at-next.result) (sym items) (subst (λ (l : List Loss). IsNextAt l 0 c.next_at-next.result) c.deref.ensures.value c.next_at-next.ensures);
    }
