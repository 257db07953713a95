use Rattle.std.proofs.Common.{◌≡◌, ◌+◌, ◌≤◌, ◌++◌, drop, length}
use Rattle.std.specs.Prelude.{vec_len, vec_capacity}
use Rattle.rank_machine.specs.Losses.{falls}
use Rattle.block_world.proofs.keeper.push_losses.Given as goal

-- the losses that are left make up the rest, and there is room for them
abbrev pub invariant-loop-loss : goal.invariant-loop-loss
invariant-loop-loss l = record {
  items : l.journal.items ++ falls (drop l.loss-index l.losses) l.at ≡ l.fn.journal.items ++ falls l.losses l.at;
  len : vec_len l.journal + length (falls (drop l.loss-index l.losses) l.at) ≡ vec_len l.fn.journal + length (falls l.losses l.at);
  room : vec_len l.fn.journal + length (falls l.losses l.at) ≤ vec_capacity l.journal;
  capacity : vec_capacity l.fn.journal ≤ vec_capacity l.journal;
}
