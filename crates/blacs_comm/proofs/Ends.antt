-- A round that nothing stops leaves the memories that its events make.
use Rattle.std.proofs.Common.{◌≡◌, ℕ, List, Bool, true, false, sym, ◌∙◌}
use Rattle.rank_run.specs.declared.round.Event.{Event}
use Rattle.rank_run.specs.declared.run.Ran.{Ran}
use Rattle.rank_run.specs.declared.run.Ran.TheVariants.{Whole, Hit}
use Rattle.rank_run.specs.Action.{Action}
use Rattle.rank_run.specs.Machine.{Machine}
use Rattle.rank_run.specs.Memory.{Memory}
use Rattle.rank_run.specs.Rounds.{after_events}
use Rattle.rank_run.specs.Run.{IsRun}

module _ {Mem Op Piece Msg N B : Type 0} where
  pub left_at_end : (m : Memory Mem Op Piece Msg) (base : Mem → B) (noting : N → Action Op Piece → N) (is_due : N → Bool) (es : List (Event Mem Op Piece Msg)) (before after : Machine Mem Msg) (order order' : List ℕ) (notary notary' : N) (ran : Ran) (noted : List (Action Op Piece)) →
      IsRun m base noting is_due es before after order order' notary notary' ran noted → ((n : N) → is_due n ≡ false) → after.mems ≡ after_events m before.mems es
  left_at_end m base noting is_due es before after order order' notary notary' Whole noted run never = run.end.1
  left_at_end m base noting is_due es before after order order' notary notary' Hit noted run never =
      let wrong : true ≡ false = sym run.end.1 ∙ never notary' in absurd (cc)
