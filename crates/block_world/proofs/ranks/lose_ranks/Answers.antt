use Rattle.std.proofs.Common.{◌+◌, ◌∙◌, drop, get_or, ap, sym, arith}
use Rattle.rank_link.specs.Traffic.{Traffic}
use Rattle.rank_machine.specs.declared.slot.Tile.{Tile}
use Rattle.block_world.specs.Ranks.{mems_after, links_after, flags_after}
use Rattle.block_world.proofs.Falling.{no_loss, cut_off-sides, mems_here, mems_past, links_here, links_past, flags_here, flags_past, all_past}
use Rattle.block_world.proofs.ranks.lose_ranks.Goals as goal
use Rattle.block_world.proofs.ranks.lose_ranks.Goals.{then-loss-at, else-loss-at}

pub lose_on-requires : goal.lose_on-requires
lose_on-requires g c =
    let there = c.requires.ranks c.loop-loss.loss-index no_loss c.loop-loss-test.true in
    let count = c.loop-loss.invariant.count in
    omega (arith, there, count)

pub cut-requires : goal.cut-requires
cut-requires g c =
    let there = c.requires.ranks c.loop-loss.loss-index no_loss c.loop-loss-test.true in
    let sides = c.loop-loss.invariant.sides in
    omega (arith, there, sides)

pub bounds-lost-loss : goal.bounds-lost-loss
bounds-lost-loss g c =
    let there = c.requires.ranks c.loop-loss.loss-index no_loss c.loop-loss-test.true in
    let count = c.loop-loss.invariant.flags_count in
    omega (arith, there, count)

pub loop-loss-preserved : goal.loop-loss-preserved
loop-loss-preserved g c =
    let ls = c.args.losses.now in
    let i = c.loop-loss.loss-index in
    let n = c.args.at in
    let k = c.loop-loss.invariant in
    let lt = c.loop-loss-test.true in
    let rank = (get_or ls i no_loss).rank in
    elim c.if-loss-at.branch [
      | then-loss-at w ↦
          (let mems = w.mems-is ∙ w.lose_on.ensures in
          let links = w.links-is ∙ w.cut.ensures in
          let e = w.if-loss-at.true in
          record {
            count = c.if-loss-at.auto.mems ∙ k.count;
            flags_count = c.if-loss-at.auto.lost ∙ k.flags_count;
            sides = ap (λ (l : Traffic Tile). l.ranks) links ∙ cut_off-sides rank c.loop-loss.links ∙ k.sides;
            mems = ap (λ ms. mems_after (drop (i + 1) ls) n ms) mems ∙ sym (mems_here ls n i lt c.loop-loss.mems e) ∙ k.mems;
            links = ap (λ l. links_after (drop (i + 1) ls) n l) links ∙ sym (links_here ls n i lt c.loop-loss.links e) ∙ k.links;
            flags = ap (λ bs. flags_after (drop (i + 1) ls) n bs) w.lost-is ∙ sym (flags_here ls n i lt c.loop-loss.lost e) ∙ k.flags;
          })
      | else-loss-at w ↦
          (let e = w.if-loss-at.false in
          record {
            count = c.if-loss-at.auto.mems ∙ k.count;
            flags_count = c.if-loss-at.auto.lost ∙ k.flags_count;
            sides = ap (λ (l : Traffic Tile). l.ranks) w.links-is ∙ k.sides;
            mems = ap (λ ms. mems_after (drop (i + 1) ls) n ms) w.mems-is ∙ sym (mems_past ls n i lt c.loop-loss.mems e) ∙ k.mems;
            links = ap (λ l. links_after (drop (i + 1) ls) n l) w.links-is ∙ sym (links_past ls n i lt c.loop-loss.links e) ∙ k.links;
            flags = ap (λ bs. flags_after (drop (i + 1) ls) n bs) w.lost-is ∙ sym (flags_past ls n i lt c.loop-loss.lost e) ∙ k.flags;
          })
    ]

pub returns : goal.returns
returns g c =
    let k = c.loop-loss.invariant in
    let n = c.args.at in
    let none = all_past c.args.losses.now c.loop-loss.loss-index c.loop-loss-test.false in
    record {
      mems = ap (λ l. mems_after l n c.loop-loss.mems) (sym none) ∙ k.mems;
      links = ap (λ l. links_after l n c.loop-loss.links) (sym none) ∙ k.links;
      flags = ap (λ l. flags_after l n c.loop-loss.lost) (sym none) ∙ k.flags;
    }
