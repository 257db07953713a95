-- A world after a round.
use Rattle.std.proofs.Common.{◌≡◌, ◌-◌, ℕ, suc, Bool, true, Option, List, [], ◌∷◌, ◌++◌, length, map, take, slice_get, refl, sym, ap, subst, ◌∙◌, All, arith}
use Rattle.std.proofs.lemmas.List.{append-nil, append_assoc, take-map}
use Rattle.std.proofs.lemmas.List.Elements.{All-take}
use Rattle.field_core.specs.FieldLaws.{IsField}
use Rattle.run_data.specs.declared.command.Command.{Command}
use Rattle.rank_link.specs.Traffic.{empty_traffic}
use Rattle.rank_run.specs.declared.round.Event.{Event}
use Rattle.rank_run.specs.declared.run.Ran.{Ran}
use Rattle.rank_run.specs.declared.run.Ran.TheVariants.{Whole, Hit}
use Rattle.rank_run.specs.Action.{Action, Works, Sends, Receives}
use Rattle.rank_run.specs.Machine.{Machine, machine, after_steps}
use Rattle.rank_run.specs.Notary.{notary_after, NotDue}
use Rattle.rank_run.specs.Parts.{IsWithin}
use Rattle.rank_run.specs.Rounds.{after_events, MayRun}
use Rattle.rank_run.specs.Run.{IsRun, schedule_of}
use Rattle.rank_run.specs.Run as run
use Rattle.rank_machine.specs.declared.slot.Slot.{Slot}
use Rattle.rank_machine.specs.declared.slot.Tile.{Tile}
use Rattle.rank_machine.specs.declared.slot.Piece.{Piece}
use Rattle.rank_machine.specs.declared.kernel.Kernel.{Kernel}
use Rattle.rank_machine.specs.declared.mark.Mark.{Mark}
use Rattle.rank_machine.specs.declared.record.Rec.{Rec}
use Rattle.rank_machine.specs.Setting.{Setting, ranks}
use Rattle.rank_machine.specs.Scripts.{Matrices, setting_of}
use Rattle.rank_machine.specs.State.{State, opened, base}
use Rattle.rank_machine.specs.Effect.{replay}
use Rattle.rank_machine.specs.Legal.{IsLegalFrom}
use Rattle.rank_machine.specs.Losses.{is_numbered}
use Rattle.rank_slots.specs.Rank.{Rank, memory, base_in}
use Rattle.rank_slots.specs.Stands.{rec_of, records_of, IsStepWithin, AgreesOn, Stands, AreResidues}
use Rattle.rank_slots.proofs.Steps.{steps, all_marks_stay, events_marks_stay, both_marks, same_state}
use Rattle.rank_slots.proofs.StepWords.{residues_steps}
use Rattle.rank_slots.proofs.ListOrder.{may_run, list_stands, noted_legal, parts_within}
use Rattle.rank_slots.proofs.Worlds.{base_kept, links_empty}
use Rattle.rank_machine.specs.declared.record.Loss.{Loss}
use Rattle.run_laws.specs.Due.{is_due_in, AreInPlace}
use Rattle.block_world.specs.Log.{Log, recorded, is_due_next}
use Rattle.block_world.specs.World.{WorldView, setting_in, state_of, is_due, noted, noted_all}
use Rattle.block_world.specs.Replay.{view_of, IsReplay}
use Rattle.block_world.specs.Rounds.{IsRoundOf, NoneDue}
use Rattle.block_world.specs.Rounds as rounds
use Rattle.block_world.proofs.FirstEvents.{legal_first, may_first, same_tiles}
use Rattle.block_world.proofs.InPlace.{in_place-push}
use Rattle.block_world.proofs.Journals.{replay-append, IsLegalFrom-append}
use Rattle.block_world.proofs.Replayed.{agrees, below, flags_stay}

-- a world with these records in its journal
abbrev pub more : WorldView → List Rec → WorldView
more w rs = record w { journal = w.journal ++ rs; room = w.room - length rs }

none_less : (a : ℕ) → a ≡ a - 0
none_less a = omega arith

one_less : (a n : ℕ) → (a - 1) - n ≡ a - suc n
one_less a n = omega arith

pub noted_all-is : (w : WorldView) (rs : List Rec) → noted_all w rs ≡ more w rs
noted_all-is w [] = λ i. record w { journal = sym (append-nil w.journal) i; room = none_less w.room i }
noted_all-is w (x ∷ rs) = noted_all-is (noted w x) rs ∙ (λ i. record w { journal = append_assoc w.journal (x ∷ []) rs i; room = one_less w.room (length rs) i })

-- ---- what the keeper hears in a round
abbrev pub noting : Log → Action Kernel Piece → Log
noting log step = recorded log (rec_of step)

heard_all : (script : List (Option Command)) (files : Matrices) (k : Log) (ts : List (Action Kernel Piece)) → view_of script files (notary_after noting k ts) ≡ noted_all (view_of script files k) (map rec_of ts)
heard_all script files k [] = refl
heard_all script files k (t ∷ ts) = heard_all script files (noting k t) ts

same_losses : (k : Log) (ts : List (Action Kernel Piece)) → (notary_after noting k ts).losses ≡ k.losses
same_losses k [] = refl
same_losses k (t ∷ ts) = same_losses (noting k t) ts

step_numbered : (t : Action Kernel Piece) → is_numbered (rec_of t) ≡ true
step_numbered (Works rank x) = refl
step_numbered (Sends from to x) = refl
step_numbered (Receives to from x) = refl

-- the losses stand where they fall after steps before which none was due
all_in_place : (s : Setting) (k : Log) (ts : List (Action Kernel Piece)) → k.losses ≡ s.losses → NotDue noting is_due_next k ts → AreInPlace s k.journal → AreInPlace s (k.journal ++ map rec_of ts)
all_in_place s k [] e none h = subst (AreInPlace s) (sym (append-nil k.journal)) h
all_in_place s k (t ∷ ts) e none h =
    subst (AreInPlace s) (append_assoc k.journal (rec_of t ∷ []) (map rec_of ts))
    (all_in_place s (noting k t) ts e none.1 (in_place-push s k.journal (rec_of t) (step_numbered t) (ap (λ (ls : List Loss). is_due_in ls k.journal) (sym e) ∙ none.0) h))

-- none was due before a step
all_none_due : (script : List (Option Command)) (files : Matrices) (k : Log) (ts : List (Action Kernel Piece)) → k.losses ≡ (setting_of script files).losses → NotDue noting is_due_next k ts → NoneDue (view_of script files k) (map rec_of ts)
all_none_due script files k [] e none = tt
all_none_due script files k (t ∷ ts) e none = (ap (λ (ls : List Loss). is_due_in ls k.journal) (sym e) ∙ none.0, all_none_due script files (noting k t) ts e none.1)

-- ---- a round before it is run
module _ (p : ℕ) (script : List (Option Command)) (files : Matrices) (k : Log) (x : Machine Rank Tile) (mark : Mark) (bs : List Bool) (es : List (Event Rank Kernel Piece Tile)) (h : IsReplay p (view_of script files k) k.losses x mark bs) where
  -- nothing is on its way, the round's ranks are there, and its records, in list order, are legal
  pub record IsAllowed : Type 0 where
    pub links : (from to : ℕ) → (state_of (view_of script files k)).links from to ≡ []
    pub ranks : All (IsWithin (ranks (setting_in (view_of script files k)))) es
    pub legal : IsLegalFrom (setting_in (view_of script files k)) (state_of (view_of script files k)) (records_of es)

  -- what the clauses say of the world
  pub allowed_here : (now : WorldView) → view_of script files k ≡ now → ((from to : ℕ) → (state_of now).links from to ≡ []) → All (IsWithin (ranks (setting_in now))) es → IsLegalFrom (setting_in now) (state_of now) (records_of es) → IsAllowed
  allowed_here now v links there legal = record {
    links = λ from to. ap (λ w. (state_of w).links from to) v ∙ links from to;
    ranks = subst (λ w. All (IsWithin (ranks (setting_in w))) es) (sym v) there;
    legal = subst (λ w. IsLegalFrom (setting_in w) (state_of w) (records_of es)) (sym v) legal;
  }

  links_are : IsAllowed → x.links ≡ empty_traffic x.links.ranks x.links.capacity
  links_are a = links_empty (setting_in (view_of script files k)) h.table x (state_of (view_of script files k)) h.stands a.links

  at_first : IsAllowed → Stands (setting_in (view_of script files k)) h.table (machine x.mems (empty_traffic x.links.ranks x.links.capacity)) (state_of (view_of script files k))
  at_first a = subst (λ l. Stands (setting_in (view_of script files k)) h.table (machine x.mems l) (state_of (view_of script files k))) (links_are a) h.stands

  words_first : IsAllowed → AreResidues p (machine x.mems (empty_traffic x.links.ranks x.links.capacity))
  words_first a = subst (λ l. AreResidues p (machine x.mems l)) (links_are a) h.residues

  ranks_first : IsAllowed → All (IsWithin x.links.ranks) es
  ranks_first a = subst (λ n. All (IsWithin n) es) (sym h.stands.sides) a.ranks

  pub may : IsField p → IsAllowed → MayRun (memory p) x.mems es
  may field a =
      may_run (setting_in (view_of script files k)) p h.table x.links.ranks x.links.capacity (agrees p script files h.table h.sound h.lines) (below p script files field h.sound)
      x.mems (state_of (view_of script files k)) es (at_first a) (words_first a) a.legal (ranks_first a)

  -- ---- and after
  module _ (field : IsField p) (a : IsAllowed) (k' : Log) (x' : Machine Rank Tile) (order order' : List ℕ) (ended : Ran) (ts : List (Action Kernel Piece)) (ran : IsRun (memory p) base_in noting is_due_next es x x' order order' k k' ended ts) where
    on : AgreesOn (setting_in (view_of script files k)) p h.table
    on = agrees p script files h.table h.sound h.lines

    legal_now : IsLegalFrom (setting_in (view_of script files k)) (state_of (view_of script files k)) (map rec_of ts)
    legal_now = noted_legal (setting_in (view_of script files k)) p h.table x (state_of (view_of script files k)) es ts on h.stands a.legal a.ranks ran.allowed ran.parts

    stands_now : Stands (setting_in (view_of script files k)) h.table x' (replay (setting_in (view_of script files k)) (state_of (view_of script files k)) (map rec_of ts))
    stands_now =
        subst (λ y. Stands (setting_in (view_of script files k)) h.table y (replay (setting_in (view_of script files k)) (state_of (view_of script files k)) (map rec_of ts))) (sym ran.after_them)
        (steps (setting_in (view_of script files k)) p h.table x (state_of (view_of script files k)) ts on h.stands (parts_within (ranks (setting_in (view_of script files k))) es ts a.ranks ran.parts) ran.allowed)

    state_now : state_of (more (view_of script files k) (map rec_of ts)) ≡ replay (setting_in (view_of script files k)) (state_of (view_of script files k)) (map rec_of ts)
    state_now = replay-append (setting_in (view_of script files k)) (opened (setting_in (view_of script files k))) k.journal (map rec_of ts)

    losses_now : k'.losses ≡ k.losses
    losses_now = ap (λ (l : Log). l.losses) ran.heard ∙ same_losses k ts

    view_now : view_of script files k' ≡ more (view_of script files k) (map rec_of ts)
    view_now = ap (view_of script files) ran.heard ∙ heard_all script files k ts ∙ noted_all-is (view_of script files k) (map rec_of ts)

    -- the fields stand for the replay of the journal
    pub replay_now : IsReplay p (view_of script files k') k'.losses x' mark bs
    replay_now =
        let s = setting_in (view_of script files k) in
        let marks = all_marks_stay s (state_of (view_of script files k)) ts in
        subst (λ (y : WorldView × List Loss). IsReplay p y.0 y.1 x' mark bs) (λ i. (sym view_now i, sym losses_now i))
        (record {
          sound = h.sound;
          losses_are = h.losses_are;
          table = h.table;
          lines = h.lines;
          legal = IsLegalFrom-append s (opened s) k.journal (map rec_of ts) h.legal legal_now;
          in_place = all_in_place s k ts h.losses_are ran.not_due h.in_place;
          stands = subst (Stands s h.table x') (sym state_now) stands_now;
          residues = subst (AreResidues p) (sym ran.after_them) (residues_steps p x ts on.some h.residues ran.allowed);
          mark_is = h.mark_is ∙ sym marks.mark ∙ sym (ap (λ (z : State). z.mark) state_now);
          flags = flags_stay s (state_of (view_of script files k)) (state_of (more (view_of script files k) (map rec_of ts))) bs (sym (ap (λ (z : State). z.lost) state_now ∙ marks.lost)) h.flags;
        })

    ends : (e : Ran) → run.EndsAs e (memory p) is_due_next es x x' k' ts → rounds.EndsAs e (view_of script files k) (more (view_of script files k) (map rec_of ts)) es ts
    ends Whole e =
        let s = setting_in (view_of script files k) in
        let st = state_of (view_of script files k) in
        let is : x' ≡ machine (after_events (memory p) x.mems es) (empty_traffic x.links.ranks x.links.capacity) = λ i. machine (e.1 i) (e.2 i) in
        let in_order = list_stands s p h.table x.links.ranks x.links.capacity on (below p script files field h.sound) x.mems st es (at_first a) (words_first a) a.legal (ranks_first a) in
        let marks = both_marks (replay s st (map rec_of ts)) (replay s st (records_of es)) st (all_marks_stay s st ts) (events_marks_stay s st es) in
        (e.0, state_now ∙ same_state s h.table x' (replay s st (map rec_of ts)) (replay s st (records_of es)) stands_now (subst (λ y. Stands s h.table y (replay s st (records_of es))) (sym is) in_order) marks)
    ends Hit e = (e.0, sym (ap (λ (ls : List Loss). is_due_in ls k'.journal) (losses_now ∙ h.losses_are) ∙ ap is_due view_now) ∙ e.1)

    -- the state after the first n steps
    stands_first : (n : ℕ) → Stands (setting_in (view_of script files k)) h.table (after_steps (memory p) x (take n ts)) (replay (setting_in (view_of script files k)) (state_of (view_of script files k)) (take n (map rec_of ts)))
    stands_first n =
        let s = setting_in (view_of script files k) in
        let st = state_of (view_of script files k) in
        let within : All (IsStepWithin (ranks s)) (take n ts) = All-take (IsStepWithin (ranks s)) n ts (parts_within (ranks s) es ts a.ranks ran.parts) in
        subst (λ l. Stands s h.table (after_steps (memory p) x (take n ts)) (replay s st l)) (sym (take-map rec_of n ts))
        (steps s p h.table x st (take n ts) on h.stands within (may_first (memory p) x n ts ran.allowed))

    -- what the first events of the round leave a rank to is what their records, in list order, say
    held_first : (n rank j : ℕ) → slice_get (after_steps (memory p) x (take n ts)).mems rank ≡ slice_get (after_events (memory p) x.mems (take j es)) rank → (slot : Slot) → (replay (setting_in (view_of script files k)) (state_of (view_of script files k)) (take n (map rec_of ts))).tiles rank slot ≡ (replay (setting_in (view_of script files k)) (state_of (view_of script files k)) (records_of (take j es))).tiles rank slot
    held_first n rank j same slot =
        let s = setting_in (view_of script files k) in
        let st = state_of (view_of script files k) in
        let sides = x.links.ranks in
        let in_order =
        list_stands s p h.table sides x.links.capacity on (below p script files field h.sound) x.mems st (take j es) (at_first a) (words_first a) (legal_first s st j es a.legal)
        (All-take (IsWithin sides) j es (ranks_first a)) in
        same_tiles s h.table (after_steps (memory p) x (take n ts)) (machine (after_events (memory p) x.mems (take j es)) (empty_traffic sides x.links.capacity)) (replay s st (take n (map rec_of ts))) (replay s st (records_of (take j es)))
        (stands_first n) in_order rank same slot

    -- what the round did
    pub round_now : IsRoundOf (view_of script files k) (view_of script files k') es order order' ended ts
    round_now =
        let s = setting_in (view_of script files k) in
        subst (λ v. IsRoundOf (view_of script files k) v es order order' ended ts) (sym view_now)
        (record {
          records = sym (noted_all-is (view_of script files k) (map rec_of ts));
          scheduled = ran.scheduled ∙ (λ i. take (length ts) (schedule_of (h.stands.count i) (h.stands.capacity i) es order));
          order_left = ran.order_left;
          same_base = λ rank slot.
              ap (λ z. base z rank slot) state_now
              ∙ base_kept s h.table x x' (state_of (view_of script files k)) (replay s (state_of (view_of script files k)) (map rec_of ts)) (sym ran.same_base) h.stands stands_now rank slot;
          none_due = all_none_due script files k ts h.losses_are ran.not_due;
          prefixes = λ n rank. let z = ran.prefixes n rank in (z.0, held_first n rank z.0 z.2);
          end = ends ended ran.end;
        })
