use Rattle.std.proofs.Common.{◌≡◌, ◌+◌, ◌<◌, ◌++◌, refl, ap, subst, ◌∙◌, append_assoc, arith}
use Rattle.array_desc.proofs.GroupLaws.{ceil_div-part, ceil_div-rounded}
use Rattle.round_laws.specs.Turns.{each_below}
use Rattle.round_laws.proofs.Laws.{each_more}
use Rattle.phase_rounds.specs.Products.{product_events}
use Rattle.product_rounds.specs.Rounds.{block_product, block_count, scale_events}
use Rattle.product_rounds.proofs.rounds.multiply_group.Goals as goal

pub multiply_block-requires-clause-inside : goal.multiply_block-requires-clause-inside
multiply_block-requires-clause-inside g c =
    let some : 0 < c.args.x.now.a.nb = omega (arith, c.requires.on_grid.a.some_block_columns) in
    ceil_div-part c.loop-block.block c.args.x.now.a.n c.args.x.now.a.nb some (subst (λ v. c.loop-block.block < v) (c.div_ceil-block-end.ensures ∙ ceil_div-rounded c.args.x.now.a.n c.args.x.now.a.nb some) c.loop-block-test.true)

pub loop-block-preserved : goal.loop-block-preserved
loop-block-preserved g c =
    each_more c.loop-block.block (c.loop-block.block + 1) (λ block. product_events (block_product c.args.x.now block)) c.scale_strips.new.round c.loop-block.round c.multiply_block.new.round refl c.loop-block.invariant c.in_ok-multiply_block.ensures

pub returns : goal.returns
returns g c =
    let x = c.args.x.now in
    let some : 0 < x.a.nb = omega (arith, c.requires.on_grid.a.some_block_columns) in
    let all : c.loop-block.block ≡ c.div_ceil-block-end.result = omega (arith, c.loop-block.auto.block-end) in
    let end : c.loop-block.block ≡ block_count x = all ∙ c.div_ceil-block-end.ensures ∙ ceil_div-rounded x.a.n x.a.nb some in
    let events : c.loop-block.round ≡ c.args.round.now ++ (scale_events x ++ each_below (block_count x) (λ block. product_events (block_product x block))) =
    c.loop-block.invariant ∙ ap (λ r. r ++ each_below c.loop-block.block (λ block. product_events (block_product x block))) c.in_ok-scale_strips.ensures
    ∙ ap (λ n. (c.args.round.now ++ scale_events x) ++ each_below n (λ block. product_events (block_product x block))) end
    ∙ append_assoc c.args.round.now (scale_events x) (each_below (block_count x) (λ block. product_events (block_product x block))) in
    record { events = events }
