use Rattle.std.proofs.Common.{◌++◌, ◌∷◌, [], ◌∙◌, sym, arith}
use Rattle.std.proofs.lemmas.List.FromFn.{map-range_with_len_more}
use Rattle.block_world.specs.Ranks.{empty_rank}
use Rattle.block_world.proofs.ranks.memories_of.Goals as goal

pub loop-rank-preserved : goal.loop-rank-preserved
loop-rank-preserved g c =
    let n = c.loop-rank.rank in
    c.in_ok-push.ensures.items ∙ (λ i. c.loop-rank.invariant i ++ c.in_ok-new.ensures i ∷ []) ∙ sym (map-range_with_len_more (empty_rank c.args.table.now) 0 n n (omega arith))
