-- What holds at an outcome, made weaker.
use Rattle.std.proofs.Common.{Result, Ok, Err}
use Rattle.std.specs.Prelude.{IfOk, OnOk}
use Rattle.block_world.specs.declared.world.Did.{Did}
use Rattle.block_world.specs.declared.world.Did.TheVariants as did
use Rattle.world_heal.specs.declared.healing.Drove.{Drove}
use Rattle.world_heal.specs.declared.healing.Drove.TheVariants as d
use Rattle.rank_machine.specs.declared.record.Rec.{Rec}
use Rattle.block_world.specs.Did.{IsMade, IsStopped, IsDid}
use Rattle.world_heal.specs.Ways.{IfDone, IsLater}
use Rattle.world_heal.specs.Outcomes.{IfDrove, IsCutAt, IsHealed}
use Rattle.block_world.specs.World.{WorldView}

module _ {X E : Type 0} where
  pub if_ok : (P Q : X → Type 0) → ((x : X) → P x → Q x) → (r : Result X E) → IfOk r P → IfOk r Q
  if_ok P Q f (Ok x) h = f x h
  if_ok P Q f (Err e) h = tt

  pub on_ok : (P : X → Type 0) (Q : Type 0) → ((x : X) → P x → Q) → (r : Result X E) → IfOk r P → OnOk r Q
  on_ok P Q f (Ok x) h = f x h
  on_ok P Q f (Err e) h = tt

  pub both_ok : (P Q : Type 0) → (P → Q) → (r : Result X E) → OnOk r P → OnOk r Q
  both_ok P Q f (Ok x) h = f h
  both_ok P Q f (Err e) h = tt

pub if_done : (P P' Q Q' : Type 0) → (P → P') → (Q → Q') → (x : Did) → IfDone P Q x → IfDone P' Q' x
if_done P P' Q Q' f g did.Done h = f h
if_done P P' Q Q' f g did.Hit h = g h

pub if_did : (w w' : WorldView) (x : Rec) (P Q : Type 0) → (IsMade w w' x → P) → (IsStopped w w' → Q) → (d : Did) → IsDid d w w' x → IfDone P Q d
if_did w w' x P Q f g did.Done h = f h
if_did w w' x P Q f g did.Hit h = g h

pub if_drove : (P P' : Type 0) (Q Q' : Drove → Type 0) → (P → P') → ((x : Drove) → Q x → Q' x) → (x : Drove) → IfDrove P Q x → IfDrove P' Q' x
if_drove P P' Q Q' f g d.Done h = f h
if_drove P P' Q Q' f g (d.Beyond grid row) h = g (d.Beyond grid row) h
if_drove P P' Q Q' f g (d.NoSpare rank) h = g (d.NoSpare rank) h

pub later_of : (old new : WorldView) (x : Drove) → IfDrove (IsHealed old new) (IsCutAt old new) x → IsLater old new
later_of old new d.Done h = h.later
later_of old new (d.Beyond grid row) h = h.later
later_of old new (d.NoSpare rank) h = h.later
