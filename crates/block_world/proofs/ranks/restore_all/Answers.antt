use Rattle.std.proofs.Common.{◌<◌, ◌≤◌, ◌∙◌, ◌++◌, ap, sym, subst, set, length, map, get_or, arith, All}
use Rattle.std.proofs.lemmas.List.{take_all, drop_all, append-nil}
use Rattle.std.proofs.lemmas.List.Edits.{map_over_more}
use Rattle.std.proofs.lemmas.List.Elements.{All-more}
use Rattle.rank_slots.specs.Cells.{AreOrdered}
use Rattle.rank_slots.specs.Rank.{Rank}
use Rattle.rank_slots.specs.Lost.{restored}
use Rattle.block_world.proofs.Falling.{next_is}
use Rattle.block_world.proofs.ranks.restore_all.Goals as goal

pub loop-mem-preserved : goal.loop-mem-preserved
loop-mem-preserved g c =
    let i = c.loop-mem.mem-index in
    let k = c.loop-mem.invariant in
    let d = c.mem-item.result in
    let old = c.args.mems.now in
    let same = c.loop-mem.auto.mems in
    let lt : i < length old = (let t = c.loop-mem-test.true in omega (arith, t, same)) in
    record {
      ordered = All-more (λ (m : Rank). AreOrdered m.cells) old i d lt k.ordered (subst (λ (m : Rank). AreOrdered m.cells) (ap (λ ms. get_or ms i d) k.restored ∙ next_is restored old i d lt) c.restore.ensures.ordered);
      restored =
          ap (λ y. set c.loop-mem.mems i y) (c.restore.ensures.restored ∙ ap restored (sym c.mem-item.is))
          ∙ map_over_more restored old c.loop-mem.mems i d lt k.restored c.mem-item.is;
    }

pub returns : goal.returns
returns g c =
    let i = c.loop-mem.mem-index in
    let k = c.loop-mem.invariant in
    let old = c.args.mems.now in
    let same = c.loop-mem.auto.mems in
    let le : length old ≤ i = (let t = c.loop-mem-test.false in omega (arith, t, same)) in
    record {
      ordered = subst (λ ms. All (λ (m : Rank). AreOrdered m.cells) ms) (take_all i old le) k.ordered;
      restored = k.restored ∙ (λ n. map restored (take_all i old le n) ++ drop_all i old le n) ∙ append-nil (map restored old);
    }
