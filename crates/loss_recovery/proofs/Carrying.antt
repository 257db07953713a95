-- What each answer of a phase comes to.
use Rattle.std.proofs.Common.{◌≡◌, ◌+◌, ℕ, Some, None, List, refl, sym, ap, subst, ◌∙◌, arith}
use Rattle.std.proofs.lemmas.List.{length-map}
use Rattle.rank_run.specs.declared.round.Event.{Event}
use Rattle.rank_run.specs.declared.run.Ran.TheVariants.{Whole, Hit}
use Rattle.rank_run.specs.Action.{Action}
use Rattle.rank_run.specs.Rounds.{steps}
use Rattle.run_data.specs.Matrix.{Matrix}
use Rattle.rank_machine.specs.declared.slot.Slot.{Slot}
use Rattle.rank_machine.specs.declared.slot.Tile.{Tile}
use Rattle.rank_machine.specs.declared.slot.Piece.{Piece}
use Rattle.rank_machine.specs.declared.kernel.Kernel.{Kernel}
use Rattle.rank_machine.specs.declared.record.Rec.TheVariants as r
use Rattle.rank_machine.specs.State.{State}
use Rattle.rank_slots.specs.Rank.{Rank}
use Rattle.rank_slots.specs.Stands.{rec_of}
use Rattle.run_laws.specs.Due.{numbered}
use Rattle.block_world.specs.World.{WorldView, state_of, noted}
use Rattle.block_world.specs.Rounds.{IsRoundOf}
use Rattle.block_world.specs.Did.{IsMade, IsStopped}
use Rattle.phases.specs.declared.phase.Next.TheVariants as next
use Rattle.world_heal.specs.Ways.{IsHit}
use Rattle.world_heal.proofs.Ways.{under_way-all, numbered-way, under_way-same}
use Rattle.loss_recovery.specs.Driven.{HasCarried}
use Rattle.loss_recovery.proofs.Worlds.{come-one}

pub carried_round : {K : Type 0} (w w' : WorldView) (es : List (Event Rank Kernel Piece Tile)) (order order' : List ℕ) (ts : List (Action Kernel Piece)) → IsRoundOf w w' es order order' Whole ts → HasCarried {K = K} w w' (next.Round es) None
carried_round w w' es order order' ts h = record {
  come = record {
    under_way = under_way-all w w' ts h.records;
    state = h.end.1;
    count = numbered-way w w' (under_way-all w w' ts h.records) ∙ ap (λ n. numbered w.journal + n) (length-map ts rec_of ∙ h.end.0);
  };
  handed_over = refl;
  goes_on = refl;
}

pub hit_round : (w w' : WorldView) (es : List (Event Rank Kernel Piece Tile)) (order order' : List ℕ) (ts : List (Action Kernel Piece)) → IsRoundOf w w' es order order' Hit ts → IsHit (steps es) w w'
hit_round w w' es order order' ts h = record {
  under_way = under_way-all w w' ts h.records;
  few = omega (arith, numbered-way w w' (under_way-all w w' ts h.records), length-map ts rec_of, h.end.0);
  due = h.end.1;
}

pub hit_here : (w w' : WorldView) (most : ℕ) → IsStopped w w' → IsHit most w w'
hit_here w w' most h = subst (λ v. IsHit most w v) (sym h.kept) (record { under_way = under_way-same w; few = omega arith; due = h.due })

pub carried_feed : {K : Type 0} (w w' : WorldView) (rank : ℕ) (slot : Slot) (m : Matrix) → IsMade w w' (r.Feed rank slot) → HasCarried {K = K} w w' (next.Feed rank slot m) None
carried_feed w w' rank slot m h = record { come = come-one w w' (r.Feed rank slot) refl h.noted; handed_over = refl; goes_on = refl }

pub carried_take : {K : Type 0} (w w' : WorldView) (rank : ℕ) (slot : Slot) (tile : Tile) → (state_of w).tiles rank slot ≡ Some tile → w' ≡ noted w (r.Take rank slot) → HasCarried {K = K} w w' (next.Take rank slot) (Some tile)
carried_take w w' rank slot tile there e =
    let come = come-one w w' (r.Take rank slot) refl e in
    record { come = come; handed_over = sym there ∙ sym (ap (λ (st : State). st.tiles rank slot) come.state); goes_on = refl }
