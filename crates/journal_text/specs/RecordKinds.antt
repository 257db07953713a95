-- The sorts of records that are counted.
use Rattle.std.specs.Prelude.{Bool, true, false}
use Rattle.rank_machine.specs.declared.record.Rec.{Rec}
use Rattle.rank_machine.specs.declared.record.Rec.TheVariants as r

-- a message is sent
abbrev pub is_send : Rec → Bool
is_send (r.Send from to piece) = true
is_send _ = false

-- a rank is lost
abbrev pub is_loss : Rec → Bool
is_loss (r.Lose rank) = true
is_loss _ = false

-- a commit, of either sort
abbrev pub is_commit : Rec → Bool
is_commit (r.Commit mark healed) = true
is_commit _ = false

-- a commit that ends a recovery
abbrev pub is_healed : Rec → Bool
is_healed (r.Commit mark healed) = healed
is_healed _ = false
