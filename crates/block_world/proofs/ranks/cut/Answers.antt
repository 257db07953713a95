use Rattle.std.proofs.Common.{◌≡◌, [], ap, ◌∙◌, arith}
use Rattle.rank_link.specs.Traffic.{Traffic, with_messages}
use Rattle.rank_machine.specs.declared.slot.Tile.{Tile}
use Rattle.block_world.specs.Ranks.{cut_to}
use Rattle.block_world.proofs.Falling.{cut_to-sides, cut_more}
use Rattle.block_world.proofs.ranks.cut.Goals as goal

pub drain-requires-clause-from : goal.drain-requires-clause-from
drain-requires-clause-from c =
    let sides = ap (λ (l : Traffic Tile). l.ranks) c.loop-other.invariant ∙ cut_to-sides c.args.rank c.loop-other.other c.args.links.now in
    let h = c.requires in
    omega (arith, sides, h)

pub drain-requires-clause-to : goal.drain-requires-clause-to
drain-requires-clause-to c =
    let sides = ap (λ (l : Traffic Tile). l.ranks) c.loop-other.invariant ∙ cut_to-sides c.args.rank c.loop-other.other c.args.links.now in
    let h = c.loop-other-test.true in
    let e = c.ranks-other-end.ensures.ranks in
    omega (arith, sides, h, e)

pub drain-requires-in-loop-other-clause-from : goal.drain-requires-in-loop-other-clause-from
drain-requires-in-loop-other-clause-from c =
    let sides = ap (λ (l : Traffic Tile). l.ranks) (c.drain.ensures ∙ ap (λ (l : Traffic Tile). with_messages l c.args.rank c.loop-other.other []) c.loop-other.invariant) ∙ cut_to-sides c.args.rank c.loop-other.other c.args.links.now in
    let h = c.loop-other-test.true in
    let e = c.ranks-other-end.ensures.ranks in
    omega (arith, sides, h, e)

pub drain-requires-in-loop-other-clause-to : goal.drain-requires-in-loop-other-clause-to
drain-requires-in-loop-other-clause-to c =
    let sides = ap (λ (l : Traffic Tile). l.ranks) (c.drain.ensures ∙ ap (λ (l : Traffic Tile). with_messages l c.args.rank c.loop-other.other []) c.loop-other.invariant) ∙ cut_to-sides c.args.rank c.loop-other.other c.args.links.now in
    let h = c.requires in
    omega (arith, sides, h)

pub loop-other-preserved : goal.loop-other-preserved
loop-other-preserved c =
    let k = c.loop-other.other in
    let rank = c.args.rank in
    c.drain-in-loop-other.ensures
    ∙ ap (λ (l : Traffic Tile). with_messages l k rank []) (c.drain.ensures ∙ ap (λ (l : Traffic Tile). with_messages l rank k []) c.loop-other.invariant)
    ∙ cut_more rank k c.args.links.now

pub returns : goal.returns
returns c =
    let e = c.ranks-other-end.ensures.ranks in
    let lo = c.loop-other-test.false in
    let hi = c.loop-other.auto.other-end in
    let k : c.loop-other.other ≡ c.args.links.now.ranks = omega (arith, e, lo, hi) in
    c.loop-other.invariant ∙ ap (λ n. cut_to c.args.rank n c.args.links.now) k
