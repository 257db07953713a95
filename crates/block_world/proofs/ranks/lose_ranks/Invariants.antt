use Rattle.std.proofs.Common.{◌≡◌, drop, length}
use Rattle.block_world.specs.Ranks.{mems_after, links_after, flags_after}
use Rattle.block_world.proofs.ranks.lose_ranks.Given as goal

-- the losses that are left lead to the same end
abbrev pub invariant-loop-loss : goal.invariant-loop-loss
invariant-loop-loss g l = record {
  count : length l.mems ≡ l.fn.links.ranks;
  flags_count : length l.lost ≡ l.fn.links.ranks;
  sides : l.links.ranks ≡ l.fn.links.ranks;
  mems : mems_after (drop l.loss-index l.losses) l.at l.mems ≡ mems_after l.losses l.at l.fn.mems;
  links : links_after (drop l.loss-index l.losses) l.at l.links ≡ links_after l.losses l.at l.fn.links;
  flags : flags_after (drop l.loss-index l.losses) l.at l.lost ≡ flags_after l.losses l.at l.fn.lost;
}
