-- Records that lead to a state.
use Rattle.std.proofs.Common.{◌≡◌, true, refl, arith}
use Rattle.rank_machine.specs.declared.record.Rec.{Rec}
use Rattle.rank_machine.specs.Effect.{after}
use Rattle.run_laws.specs.LastCommit.{is_inner}
use Rattle.block_world.specs.World.{WorldView, setting_in, state_of, noted}
use Rattle.world_heal.proofs.Ways.{numbered-way, under_way-same, under_way-one, state_noted}
use Rattle.loss_recovery.specs.Driven.{HasCome}

pub come-one : (w w' : WorldView) (x : Rec) → is_inner x ≡ true → w' ≡ noted w x → HasCome (after (setting_in w) (state_of w) x) 1 w w'
come-one w w' x inner e = record { under_way = under_way-one w w' x inner e; state = state_noted w w' x e; count = numbered-way w w' (under_way-one w w' x inner e) }

pub come-same : (w : WorldView) → HasCome (state_of w) 0 w w
come-same w = record { under_way = under_way-same w; state = refl; count = omega arith }
