-- A round whose records, in list order, are legal on empty links may be run, and means their replay.
use Rattle.std.proofs.Common.{◌≡◌, ◌≢◌, ◌+◌, ◌*◌, ◌<◌, ◌==◌, ℕ, zero, suc, Bool, true, false, nat_lt, Some, List, [], ◌∷◌, ◌++◌, drop, map, set, get_or, replicate, set-set, slice_get, refl, sym, ap, subst, ◌∙◌, All}
use Rattle.std.specs.Prelude.{if◌then◌else◌}
use Rattle.std.specs.Option.{IsSomeAnd}
use Rattle.std.proofs.lemmas.Bool.{and_from}
use Rattle.std.proofs.lemmas.List.{length-replicate}
use Rattle.std.proofs.lemmas.List.Elements.{All-nil, All-cons, All-head, All-tail}
use Rattle.rank_link.specs.Traffic.{Traffic, traffic, messages, with_messages, empty_traffic}
use Rattle.rank_run.specs.declared.round.Event.{Event}
use Rattle.rank_run.specs.declared.round.Event.TheVariants.{Local, Move}
use Rattle.rank_run.specs.Memory.{Memory}
use Rattle.rank_run.specs.Action.{Action, Works, Sends, Receives}
use Rattle.rank_run.specs.Rounds.{written_in, read_out, after_event, after_events, IsMet, MayRun}
use Rattle.rank_run.specs.Machine.{Machine, machine, after_send, after_step, MayStep, MaySteps}
use Rattle.rank_run.specs.Parts.{IsWithin, turn_of, AreParts}
use Rattle.rank_run.proofs.OnLinks.{IsAmong, messages-with_same}
use Rattle.rank_run.proofs.Ranks.{some_of}
use Rattle.rank_machine.specs.declared.slot.Tile.{Tile}
use Rattle.rank_machine.specs.declared.slot.Piece.{Piece}
use Rattle.rank_machine.specs.declared.kernel.Kernel.{Kernel}
use Rattle.rank_machine.specs.Setting.{Setting, ranks}
use Rattle.rank_machine.specs.State.{State}
use Rattle.rank_machine.specs.Effect.{after, replay}
use Rattle.rank_machine.specs.Legal.{is_path, IsLegalFrom}
use Rattle.script_lines.specs.declared.lines.Line.{Line}
use Rattle.rank_slots.specs.Rank.{Rank, memory}
use Rattle.rank_slots.specs.Stands.{rec_of, records_of, StepAllowed, AgreesOn, AreFactorsBelow, IsStepWithin, Stands, AreResidues}
use Rattle.rank_slots.proofs.Steps.{step}
use Rattle.rank_slots.proofs.StepWords.{at_place, residues_step}
use Rattle.rank_slots.proofs.LegalSteps.{allowed_back, legal_steps, may_step}

-- ---- a message that is sent over empty links and received
module _ {X : Type 0} where
  -- one of some that are all alike
  set_alike : (n i : ℕ) (a : X) → set (replicate n a) i a ≡ replicate n a
  set_alike zero i a = refl
  set_alike (suc n) zero a = refl
  set_alike (suc n) (suc i) a = ap (λ l. a ∷ l) (set_alike n i a)

  pub alike_at : (n i : ℕ) (a : X) → get_or (replicate n a) i a ≡ a
  alike_at zero i a = refl
  alike_at (suc n) zero a = refl
  alike_at (suc n) (suc i) a = alike_at n i a

module _ {Mem Op Piece Msg : Type 0} (m : Memory Mem Op Piece Msg) (n c : ℕ) where
  empty_among : IsAmong n (empty_traffic {M = Msg} n c)
  empty_among = record { ranks = refl; pairs = length-replicate (n * n) [] }

  -- what a move asks of the memories is met, and its two steps leave empty links again
  moved : (mems : List Mem) (f t : ℕ) (a b : Piece) → f ≢ t → f < n → t < n → MayStep m (machine mems (empty_traffic n c)) (Sends f t a) → MayStep m (after_step m (machine mems (empty_traffic n c)) (Sends f t a)) (Receives t f b)
      → IsMet m mems (Move f t a b) × (after_step m (after_step m (machine mems (empty_traffic n c)) (Sends f t a)) (Receives t f b) ≡ machine (after_event m mems (Move f t a b)) (empty_traffic n c))
  moved mems f t a b ne p q may next =
      let l : Traffic Msg = empty_traffic n c in
      let x = some_of (slice_get mems f) (λ y. m.can_read y a) may.0 in
      let w = m.read x.0 a in
      let l1 : Traffic Msg = after_send l f t (read_out m (slice_get mems f) a) in
      let l1_is : l1 ≡ with_messages l f t (w ∷ []) = ap (λ o. after_send l f t (read_out m o a)) x.1 ∙ ap (λ k. with_messages l f t (k ++ w ∷ [])) (alike_at (n * n) (f * n + t) []) in
      let waiting : messages l1 f t ≡ w ∷ [] = ap (λ v. messages v f t) l1_is ∙ messages-with_same n l f t (w ∷ []) empty_among p q in
      let first : slice_get (messages l1 f t) 0 ≡ Some w = ap (λ k. slice_get k 0) waiting in
      let written : IsSomeAnd (slice_get mems t) (λ y. m.can_write y b w) = subst (λ o. IsSomeAnd o (λ msg. IsSomeAnd (slice_get mems t) (λ y. m.can_write y b msg))) first next in
      let mems_are : written_in m mems t b (slice_get (messages l1 f t) 0) ≡ after_event m mems (Move f t a b) = ap (written_in m mems t b) first ∙ sym (ap (λ o. written_in m mems t b (read_out m o a)) x.1) in
      let links_are : with_messages l1 f t (drop 1 (messages l1 f t)) ≡ l =
      ap (λ k. with_messages l1 f t (drop 1 k)) waiting ∙ ap (λ v. with_messages v f t []) l1_is
      ∙ ap (traffic n c) (set-set (replicate (n * n) []) (f * n + t) (w ∷ []) [] ∙ set_alike (n * n) (f * n + t) []) in (
        (ne, subst (λ o. IsSomeAnd o (λ y. m.can_read y a × IsSomeAnd (slice_get mems t) (λ z. m.can_write z b (m.read y a)))) (sym x.1) (x.2, written)),
        λ i. machine (mems_are i) (links_are i),
      )

-- ---- one event after another
module _ (s : Setting) (p : ℕ) (table : List Line) (n c : ℕ) (agrees : AgreesOn s p table) (below : AreFactorsBelow s p) where
  -- memories over links that are empty
  abbrev pub on_empty : List Rank → Machine Rank Tile
  on_empty mems = machine mems (empty_traffic n c)

  -- a round may be run, its memories stand for the replay of its records, and all words are residues
  abbrev Runs : List Rank → State → List (Event Rank Kernel Piece Tile) → Type 0
  Runs mems st es = MayRun (memory p) mems es × Stands s table (on_empty (after_events (memory p) mems es)) (replay s st (records_of es)) × AreResidues p (on_empty (after_events (memory p) mems es))

  in_order : (mems : List Rank) (st : State) (es : List (Event Rank Kernel Piece Tile)) → Stands s table (on_empty mems) st → AreResidues p (on_empty mems) → IsLegalFrom s st (records_of es) → All (IsWithin n) es → Runs mems st es
  in_order mems st [] h r legal within = (tt, h, r)
  in_order mems st (Local rank op ∷ es) h r legal within =
      let x = on_empty mems in
      let t : Action Kernel Piece = Works rank op in
      let here : rank < ranks s = subst (λ v. rank < v) h.sides (All-head (IsWithin n) (Local rank op) es within) in
      let may = may_step s p table x st t agrees below h r here legal.0 in
      let rest = in_order (after_event (memory p) mems (Local rank op)) (after s st (rec_of t)) es (step s p table x st t agrees h here may) (residues_step p x t agrees.some r may) legal.1 (All-tail (IsWithin n) (Local rank op) es within) in
      ((may, rest.0), rest.1, rest.2)
  in_order mems st (Move f t a b ∷ es) h r legal within =
      let x = on_empty mems in
      let e : Event Rank Kernel Piece Tile = Move f t a b in
      let own = All-head (IsWithin n) e es within in
      let sends : Action Kernel Piece = Sends f t a in
      let receives : Action Kernel Piece = Receives t f b in
      let from : f < ranks s = subst (λ v. f < v) h.sides own.1 in
      let to : t < ranks s = subst (λ v. t < v) h.sides own.2 in
      let may = may_step s p table x st sends agrees below h r (from, to) legal.0 in
      let x1 = after_step (memory p) x sends in
      let st1 = after s st (rec_of sends) in
      let h1 = step s p table x st sends agrees h (from, to) may in
      let r1 = residues_step p x sends agrees.some r may in
      let may1 = may_step s p table x1 st1 receives agrees below h1 r1 (to, from) legal.1.0 in
      let st2 = after s st1 (rec_of receives) in
      let h2 = step s p table x1 st1 receives agrees h1 (to, from) may1 in
      let z = moved (memory p) n c mems f t a b own.0 own.1 own.2 may may1 in
      let rest = in_order (after_event (memory p) mems e) st2 es (subst (λ y. Stands s table y st2) z.1 h2) (subst (AreResidues p) z.1 (residues_step p x1 receives agrees.some r1 may1)) legal.1.1 (All-tail (IsWithin n) e es within) in
      ((z.0, rest.0), rest.1, rest.2)

  -- the round may be run
  pub may_run : (mems : List Rank) (st : State) (es : List (Event Rank Kernel Piece Tile)) → Stands s table (on_empty mems) st → AreResidues p (on_empty mems) → IsLegalFrom s st (records_of es) → All (IsWithin n) es → MayRun (memory p) mems es
  may_run mems st es h r legal within = (in_order mems st es h r legal within).0

  -- the memories after its events stand for the replay of its records
  pub list_stands : (mems : List Rank) (st : State) (es : List (Event Rank Kernel Piece Tile)) → Stands s table (on_empty mems) st → AreResidues p (on_empty mems) → IsLegalFrom s st (records_of es) → All (IsWithin n) es → Stands s table (on_empty (after_events (memory p) mems es)) (replay s st (records_of es))
  list_stands mems st es h r legal within = (in_order mems st es h r legal within).1

  -- and hold residues
  pub list_residues : (mems : List Rank) (st : State) (es : List (Event Rank Kernel Piece Tile)) → Stands s table (on_empty mems) st → AreResidues p (on_empty mems) → IsLegalFrom s st (records_of es) → All (IsWithin n) es → AreResidues p (on_empty (after_events (memory p) mems es))
  list_residues mems st es h r legal within = (in_order mems st es h r legal within).2

-- ---- the parts that ranks have in the events
-- one of two steps
chosen : (P : Action Kernel Piece → Type 0) (b : Bool) (t u : Action Kernel Piece) → P t → P u → P (if b then t else u)
chosen P true t u h k = h
chosen P false t u h k = k

-- each part in an event of a round that is legal in list order is allowed before the round
allowed_at : (s : Setting) (st : State) (es : List (Event Rank Kernel Piece Tile)) (place r : ℕ) (e : Event Rank Kernel Piece Tile) → IsLegalFrom s st (records_of es) → slice_get es place ≡ Some e → StepAllowed s st (turn_of r e)
allowed_at s st [] place r e legal at = absurd (cc)
allowed_at s st (Local rank op ∷ es) zero r e legal at =
    let same : Local rank op ≡ e = (let i : Some (Local rank op) ≡ Some e = at in cc) in
    subst (λ d. StepAllowed s st (turn_of r d)) same legal.0.factor
allowed_at s st (Move f t a b ∷ es) zero r e legal at =
    let same : Move f t a b ≡ e = (let i : Some (Move f t a b) ≡ Some e = at in cc) in
    subst (λ d. StepAllowed s st (turn_of r d)) same (chosen (StepAllowed s st) (f == r) (Sends f t a) (Receives t f b) (and_from (nat_lt t (ranks s)) (is_path s st f t) legal.0.there legal.0.path) tt)
allowed_at s st (Local rank op ∷ es) (suc place) r e legal at = allowed_back s st (Works rank op) (turn_of r e) (allowed_at s (after s st (rec_of (Works rank op))) es place r e legal.1 at)
allowed_at s st (Move f t a b ∷ es) (suc place) r e legal at =
    let st1 = after s st (rec_of (Sends f t a)) in
    allowed_back s st (Sends f t a) (turn_of r e) (allowed_back s st1 (Receives t f b) (turn_of r e) (allowed_at s (after s st1 (rec_of (Receives t f b))) es place r e legal.1.1 at))

pub parts_allowed : (s : Setting) (st : State) (es : List (Event Rank Kernel Piece Tile)) (ts : List (Action Kernel Piece)) → IsLegalFrom s st (records_of es) → AreParts es ts → All (StepAllowed s st) ts
parts_allowed s st es [] legal parts = All-nil (StepAllowed s st)
parts_allowed s st es (t ∷ ts) legal parts =
    All-cons (StepAllowed s st) t ts (subst (StepAllowed s st) (sym parts.0.is) (allowed_at s st es parts.0.place parts.0.rank parts.0.event legal parts.0.at)) (parts_allowed s st es ts legal parts.1)

turn_within : (n r : ℕ) (e : Event Rank Kernel Piece Tile) → IsWithin n e → IsStepWithin n (turn_of r e)
turn_within n r (Local rank op) h = h
turn_within n r (Move f t a b) h = chosen (IsStepWithin n) (f == r) (Sends f t a) (Receives t f b) (h.1, h.2) (h.2, h.1)

pub parts_within : (n : ℕ) (es : List (Event Rank Kernel Piece Tile)) (ts : List (Action Kernel Piece)) → All (IsWithin n) es → AreParts es ts → All (IsStepWithin n) ts
parts_within n es [] h parts = All-nil (IsStepWithin n)
parts_within n es (t ∷ ts) h parts =
    All-cons (IsStepWithin n) t ts (subst (IsStepWithin n) (sym parts.0.is) (turn_within n parts.0.rank parts.0.event (at_place (IsWithin n) es parts.0.place parts.0.event parts.0.at h))) (parts_within n es ts h parts.1)

-- steps that ranks took for their parts in a round that is legal in list order make legal records
pub noted_legal : (s : Setting) (p : ℕ) (table : List Line) (x : Machine Rank Tile) (st : State) (es : List (Event Rank Kernel Piece Tile)) (ts : List (Action Kernel Piece))
    → AgreesOn s p table → Stands s table x st → IsLegalFrom s st (records_of es) → All (IsWithin (ranks s)) es → MaySteps (memory p) x ts → AreParts es ts → IsLegalFrom s st (map rec_of ts)
noted_legal s p table x st es ts agrees h legal within may parts =
    legal_steps s p table x st ts agrees h (parts_within (ranks s) es ts within parts) may (parts_allowed s st es ts legal parts)
