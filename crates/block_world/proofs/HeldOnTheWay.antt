-- How many words ranks hold in each state of a round.
use Rattle.std.proofs.Common.{◌≡◌, ℕ, zero, suc, List, [], ◌∷◌, length, map, take, refl, sym, ap, subst, ◌∙◌, arith}
use Rattle.std.proofs.lemmas.List.{length-map, take_all}
use Rattle.rank_run.specs.declared.round.Event.{Event}
use Rattle.rank_run.specs.declared.round.Event.TheVariants.{Local, Move}
use Rattle.rank_run.specs.declared.run.Ran.{Ran}
use Rattle.rank_run.specs.Action.{Action, Works, Sends, Receives}
use Rattle.rank_machine.specs.declared.slot.Slot.{Slot}
use Rattle.rank_machine.specs.declared.slot.Tile.{Tile}
use Rattle.rank_machine.specs.declared.slot.Piece.{Piece}
use Rattle.rank_machine.specs.declared.kernel.Kernel.{Kernel}
use Rattle.rank_machine.specs.declared.record.Rec.{Rec}
use Rattle.rank_machine.specs.declared.record.Rec.TheVariants as r
use Rattle.rank_machine.specs.Setting.{Setting}
use Rattle.rank_machine.specs.State.{State, opened}
use Rattle.rank_machine.specs.Effect.{after, replay}
use Rattle.rank_machine.specs.Held.{size_of, AreHeld}
use Rattle.rank_machine.specs.Losses.{falls}
use Rattle.rank_slots.specs.Rank.{Rank}
use Rattle.rank_slots.specs.Stands.{rec_of, records_of}
use Rattle.run_laws.specs.Traces.{AllHold, HoldFrom, AlwaysHold}
use Rattle.run_laws.proofs.Words.{hold-no_more, HoldFrom-now, HoldFrom-first, HoldFrom-falls, AlwaysHold-append, AlwaysHold-push, AlwaysHold-end}
use Rattle.block_world.specs.World.{WorldView, setting_in, state_of, steps_of, noted, fallen}
use Rattle.block_world.specs.Rounds.{IsRoundOf}
use Rattle.block_world.proofs.Journals.{replay-append}
use Rattle.block_world.proofs.Rounds.{more, noted_all-is}

-- ---- what the steps of a round leave as it was: what is saved, and the mark
pub record KeepsSaved (a b : State) : Type 0 where
  pub saved : a.saved ≡ b.saved
  pub mark : a.mark ≡ b.mark

pub steps_keep_saved : (s : Setting) (st : State) (n : ℕ) (ts : List (Action Kernel Piece)) → KeepsSaved (replay s st (take n (map rec_of ts))) st
steps_keep_saved s st zero ts = record { saved = refl; mark = refl }
steps_keep_saved s st (suc n) [] = record { saved = refl; mark = refl }
steps_keep_saved s st (suc n) (Works rank x ∷ ts) = let h = steps_keep_saved s (after s st (r.Kernel rank x)) n ts in record { saved = h.saved; mark = h.mark }
steps_keep_saved s st (suc n) (Sends from to x ∷ ts) = let h = steps_keep_saved s (after s st (r.Send from to x)) n ts in record { saved = h.saved; mark = h.mark }
steps_keep_saved s st (suc n) (Receives to from x ∷ ts) = let h = steps_keep_saved s (after s st (r.Recv to from x)) n ts in record { saved = h.saved; mark = h.mark }

pub events_keep_saved : (s : Setting) (st : State) (es : List (Event Rank Kernel Piece Tile)) → KeepsSaved (replay s st (records_of es)) st
events_keep_saved s st [] = record { saved = refl; mark = refl }
events_keep_saved s st (Local rank x ∷ es) = let h = events_keep_saved s (after s st (r.Kernel rank x)) es in record { saved = h.saved; mark = h.mark }
events_keep_saved s st (Move from to x y ∷ es) = let h = events_keep_saved s (after s (after s st (r.Send from to x)) (r.Recv to from y)) es in record { saved = h.saved; mark = h.mark }

-- ---- first events
-- Where the records of a round, taken in list order, keep every rank within what it may hold, each number of its first events does.
pub hold-listed : (s : Setting) (st : State) (es : List (Event Rank Kernel Piece Tile)) → HoldFrom s st (records_of es) → (k : ℕ) → AllHold s (replay s st (records_of (take k es)))
hold-listed s st es h zero = HoldFrom-now s st (records_of es) h
hold-listed s st [] h (suc k) = h
hold-listed s st (Local rank x ∷ es) h (suc k) = hold-listed s (after s st (r.Kernel rank x)) es h.1 k
hold-listed s st (Move from to x y ∷ es) h (suc k) = hold-listed s (after s (after s st (r.Send from to x)) (r.Recv to from y)) es h.1.1 k

-- ---- a round
held_at : (s : Setting) (st : State) (es : List (Event Rank Kernel Piece Tile)) (ts : List (Action Kernel Piece)) (n rank k : ℕ) → ((slot : Slot) → (replay s st (take n (map rec_of ts))).tiles rank slot ≡ (replay s st (records_of (take k es))).tiles rank slot) → AreHeld s (replay s st (records_of (take k es))) rank → AreHeld s (replay s st (take n (map rec_of ts))) rank
held_at s st es ts n rank k same =
    let now = steps_keep_saved s st n ts in
    let listed = events_keep_saved s st (take k es) in
    hold-no_more (replay s st (records_of (take k es))) (replay s st (take n (map rec_of ts))) rank s (now.mark ∙ sym listed.mark)
    (λ slot.
    let saved : (replay s st (take n (map rec_of ts))).saved rank slot ≡ (replay s st (records_of (take k es))).saved rank slot = ap (λ f. f rank slot) (now.saved ∙ sym listed.saved) in
    omega (arith, ap size_of (same slot), ap size_of saved))

module _ (w w' : WorldView) (es : List (Event Rank Kernel Piece Tile)) (order order' : List ℕ) (ended : Ran) (noted : List (Action Kernel Piece)) (round : IsRoundOf w w' es order order' ended noted) where
  -- what has been saved is the same in each state of a round
  pub same_saved : (n rank : ℕ) (slot : Slot) → (replay (setting_in w) (state_of w) (take n (map rec_of noted))).saved rank slot ≡ (state_of w).saved rank slot
  same_saved n rank slot = ap (λ f. f rank slot) (steps_keep_saved (setting_in w) (state_of w) n noted).saved

  world_is : w' ≡ more w (map rec_of noted)
  world_is = round.records ∙ noted_all-is w (map rec_of noted)

  -- at its end each rank holds what some first events give it
  pub held_at_end : (rank : ℕ) → (k : ℕ) × ((slot : Slot) → (state_of w').tiles rank slot ≡ (replay (setting_in w) (state_of w) (records_of (take k es))).tiles rank slot)
  held_at_end rank =
      let s = setting_in w in
      let rs = map rec_of noted in
      let z = round.prefixes (length noted) rank in
      let all : take (length noted) rs ≡ rs = take_all (length noted) rs (omega (arith, length-map noted rec_of)) in
      let end : state_of w' ≡ replay s (state_of w) (take (length noted) rs) = ap state_of world_is ∙ replay-append s (opened s) w.journal rs ∙ sym (ap (replay s (state_of w)) all) in
      (z.0, λ slot. ap (λ (st : State). st.tiles rank slot) end ∙ z.1 slot)

  -- Where every rank is within what it may hold after each number of first events, it is so in each state of the round.
  pub hold-round : ((k : ℕ) → AllHold (setting_in w) (replay (setting_in w) (state_of w) (records_of (take k es)))) → HoldFrom (setting_in w) (state_of w) (map rec_of noted)
  hold-round h =
      HoldFrom-first (setting_in w) (state_of w) (map rec_of noted)
      (λ n rank lt. let z = round.prefixes n rank in held_at (setting_in w) (state_of w) es noted n rank z.0 z.1 (h z.0 rank lt))

  -- And it stays so in each state of the journal.
  pub always-round : AlwaysHold (setting_in w) w.journal → ((k : ℕ) → AllHold (setting_in w) (replay (setting_in w) (state_of w) (records_of (take k es)))) → AlwaysHold (setting_in w') w'.journal
  always-round before h = subst (λ v. AlwaysHold (setting_in v) v.journal) (sym world_is) (AlwaysHold-append (setting_in w) w.journal (map rec_of noted) before (hold-round h))

-- ---- one record, and losses
-- A record after which every rank is within what it may hold keeps this of the journal: one of a phase, a restore (`hold-restore`) or a spawn (`hold-spawn`).
pub always-noted : (w : WorldView) (x : Rec) → AlwaysHold (setting_in w) w.journal → AllHold (setting_in w) (after (setting_in w) (state_of w) x) → AlwaysHold (setting_in (noted w x)) (noted w x).journal
always-noted w x before h = AlwaysHold-push (setting_in w) w.journal x before h

-- And so do the losses that fall.
pub always-fallen : (w : WorldView) → AlwaysHold (setting_in w) w.journal → AlwaysHold (setting_in (fallen w)) (fallen w).journal
always-fallen w before =
    let s = setting_in w in
    AlwaysHold-append s w.journal (falls s.losses (steps_of w)) before (HoldFrom-falls s (state_of w) s.losses (steps_of w) (AlwaysHold-end s w.journal before))
