use Rattle.std.proofs.Common.{sym, subst, get_or, take, ◌+◌, ◌&&◌, nat_le, Some}
use Rattle.std.specs.Prelude.{if◌then◌else◌}
use Rattle.std.proofs.lemmas.List.{take_more}
use Rattle.rank_machine.specs.declared.record.Loss.{Loss}
use Rattle.block_world.specs.Kept.{IsNextAt, comes_first}
use Rattle.block_world.proofs.Keeping.{next-one}
use Rattle.block_world.proofs.keeper.next_at.Goals as goal

pub loop-loss-preserved : goal.loop-loss-preserved
loop-loss-preserved c =
    let ls = c.args.losses.now in
    let i = c.loop-loss.loss-index in
    let none : Loss = record { at = 0; rank = 0 } in
    subst (λ n. IsNextAt (take (i + 1) ls) c.args.from n) (sym c.earlier-next.ensures)
    (subst (λ xs. IsNextAt xs c.args.from (if nat_le c.args.from (get_or ls i none).at && comes_first (get_or ls i none).at c.loop-loss.next then Some (get_or ls i none).at else c.loop-loss.next)) (sym (take_more ls i none c.loop-loss-test.true))
    (next-one (take i ls) (get_or ls i none) c.args.from c.loop-loss.next c.loop-loss.invariant))
