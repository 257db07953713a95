-- A step that memories allow makes a legal record, and the step of a legal record is one that memories allow.
use Rattle.std.proofs.Common.{◌≡◌, ◌<◌, ◌==◌, ◌&&◌, ◌||◌, ℕ, zero, suc, not, nat_lt, Option, Some, None, is_some, List, [], ◌∷◌, length, map, slice_get, refl, sym, ap, subst, ◌∙◌, IsTrue, All, arith}
use Rattle.std.specs.Prelude.{if◌then◌else◌}
use Rattle.std.specs.Option.{IsSomeAnd}
use Rattle.std.proofs.lemmas.Bool.{and_parts, lt-ltb, ltb-true, true≢false}
use Rattle.std.proofs.lemmas.List.Elements.{All-head, All-tail, All-weaker}
use Rattle.blacs_grid.specs.Places.{is_member, row_of, is_data_rank}
use Rattle.rank_link.specs.Traffic.{messages}
use Rattle.rank_run.specs.Action.{Action, Works, Sends, Receives}
use Rattle.rank_run.specs.Machine.{Machine, after_step, MayStep, MaySteps}
use Rattle.rank_run.proofs.Ranks.{some_of}
use Rattle.run_data.specs.Matrix.{cols}
use Rattle.rank_machine.specs.declared.slot.Slot.{Slot}
use Rattle.rank_machine.specs.declared.slot.SlotKind.TheVariants.{Data}
use Rattle.rank_machine.specs.declared.slot.Tile.{Tile}
use Rattle.rank_machine.specs.declared.slot.Tile.TheVariants.{Words, Index}
use Rattle.rank_machine.specs.declared.slot.Piece.{Piece}
use Rattle.rank_machine.specs.declared.slot.Piece.TheVariants as piece
use Rattle.rank_machine.specs.declared.kernel.Cut.{Cut}
use Rattle.rank_machine.specs.declared.kernel.Cut.TheVariants as cut
use Rattle.rank_machine.specs.declared.kernel.Kernel.{Kernel}
use Rattle.rank_machine.specs.declared.kernel.Kernel.TheVariants as k
use Rattle.rank_machine.specs.Setting.{Setting, ranks, all_below, group_count, blocks}
use Rattle.rank_machine.specs.State.{State, kind_number, same_slot}
use Rattle.rank_machine.specs.CodeLaw.{slot_at, is_strip_of}
use Rattle.rank_machine.specs.Effect.{slot_of, is_whole, target, after}
use Rattle.rank_machine.specs.Legal.{may_write, may_change, makes, in_matrix, is_cut_placed, is_placed, has_strips, is_held, is_shaped, has_divisors, holds, holds_words, height, breadth, fits, factor_of, FactorOf, IsFactor, is_path, IsRun, IsLegalRec, IsLegalFrom}
use Rattle.script_lines.specs.declared.lines.Line.{Line}
use Rattle.script_lines.specs.Lines.{setting_on}
use Rattle.rank_slots.specs.Cells.{tiles_in, IsTileOf}
use Rattle.rank_slots.specs.Rank.{Rank, state_in, MayApply, MayRead, MayWrite, is_below, memory}
use Rattle.rank_slots.specs.Stands.{rec_of, StepAllowed, AgreesOn, AreFactorsBelow, IsStepWithin, Stands, AreResidues}
use Rattle.rank_slots.proofs.Steps.{StandsAt, stands_at, step, marks_stay}
use Rattle.rank_slots.proofs.StepWords.{link_words}

-- ---- a table has the matrices of a setting
module _ (s : Setting) (p : ℕ) (table : List Line) (ag : AgreesOn s p table) where
  -- a slot lies in a matrix by the table where it does by the setting, and what is asked of a kernel's place and of the strips follows
  same_in_matrix : (rank : ℕ) (slot : Slot) → in_matrix (setting_on p table) rank slot ≡ in_matrix s rank slot
  same_in_matrix rank slot = λ i. (nat_lt (kind_number slot.kind) 4 && ag.matrices slot.id i) && is_member (ag.layouts slot.id i).grid rank

  same_cut_placed : (rank : ℕ) (slot : Slot) (c : Cut) → is_cut_placed (setting_on p table) rank slot c ≡ is_cut_placed s rank slot c
  same_cut_placed rank slot cut.Whole = refl
  same_cut_placed rank slot (cut.Upper block) = λ i. same_in_matrix rank slot i && nat_lt block (blocks (ag.layouts slot.id i))
  same_cut_placed rank slot (cut.Lower block) = λ i. same_in_matrix rank slot i && nat_lt block (blocks (ag.layouts slot.id i))

  same_placed : (rank : ℕ) (x : Kernel) → is_placed (setting_on p table) rank x ≡ is_placed s rank x
  same_placed rank (k.Zero to rows columns) = refl
  same_placed rank (k.Copy to from) = refl
  same_placed rank (k.Scale to a) = refl
  same_placed rank (k.Add to a from c) = same_cut_placed rank (slot_of to) c
  same_placed rank (k.MulAdd to a left right) = refl
  same_placed rank (k.Lower to block unit) = refl
  same_placed rank (k.Upper to block unit) = refl
  same_placed rank (k.Swap to i j) = refl
  same_placed rank (k.First to from j above) = λ i. is_whole from && same_in_matrix rank (slot_of from) i
  same_placed rank (k.Diag to from n) = λ i. is_whole from && same_in_matrix rank (slot_of from) i
  same_placed rank (k.Least to from) = refl
  same_placed rank (k.Elim to j above row) = same_in_matrix rank to
  same_placed rank (k.Push to from above) = refl
  same_placed rank (k.Trans to from) = refl

  same_strips : (rank : ℕ) (mem held : Slot → Option Tile) (x : Kernel) → ((slot : Slot) → mem slot ≡ held slot) → has_strips (setting_on p table) rank mem x ≡ has_strips s rank held x
  same_strips rank mem held (k.Zero to rows columns) h = refl
  same_strips rank mem held (k.Copy to from) h = refl
  same_strips rank mem held (k.Scale to a) h = refl
  same_strips rank mem held (k.Add to a from c) h = refl
  same_strips rank mem held (k.MulAdd to a left right) h = refl
  same_strips rank mem held (k.Lower to block unit) h = refl
  same_strips rank mem held (k.Upper to block unit) h = refl
  same_strips rank mem held (k.Swap to i j) h = refl
  same_strips rank mem held (k.First to from j above) h = refl
  same_strips rank mem held (k.Diag to from n) h =
      let line = (slot_of from).id in
      λ i. not (is_data_rank (ag.layouts line i).grid rank) || all_below (group_count (ag.layouts line i)) (λ group. is_strip_of (ag.layouts line i) (row_of (ag.layouts line i).grid rank) (h (slot_at Data line group) i) && not (same_slot to (slot_at Data line group)))
  same_strips rank mem held (k.Least to from) h = refl
  same_strips rank mem held (k.Elim to j above row) h = refl
  same_strips rank mem held (k.Push to from above) h = refl
  same_strips rank mem held (k.Trans to from) h = refl

-- a factor that a line allows is a residue
below_factor : (s : Setting) (p : ℕ) (st : State) (rank : ℕ) (o : Option ℕ) → AreFactorsBelow s p → FactorOf s st rank o → IsTrue (is_below p o)
below_factor s p st rank None below f = refl
below_factor s p st rank (Some a) below f = lt-ltb a p (below st rank a f)

-- ---- what a rank may do is what is legal
module _ (table : List Line) (st : State) (rank : ℕ) (m : Rank) (h : StandsAt table st rank m) where
  may_write_is : (slot : Slot) → may_write (state_in m) m.number slot ≡ may_write st rank slot
  may_write_is slot = λ i. (h.fresh slot i || is_some (h.saved slot i)) || not (is_some (h.tiles slot i))

  may_change_is : (slot : Slot) → may_change (state_in m) m.number slot ≡ may_change st rank slot
  may_change_is slot = λ i. is_some (h.tiles slot i) && (h.fresh slot i || is_some (h.saved slot i))

  -- what a rank may do is legal
  pub legal_kernel : (s : Setting) (p : ℕ) (x : Kernel) → AgreesOn s p table → MayApply p m x → FactorOf s st rank (factor_of x) → IsRun s st rank x
  legal_kernel s p x ag a factor = record {
    live = sym h.live ∙ a.live;
    held = sym (λ i. is_held (λ slot. h.tiles slot i) x) ∙ a.fit.held;
    writable = sym (λ i. if makes x then may_write_is (slot_of (target x)) i else may_change_is (slot_of (target x)) i) ∙ a.writable;
    apart = a.fit.apart;
    shaped = sym (λ i. is_shaped (λ slot. h.tiles slot i) x) ∙ a.fit.shaped;
    divisors = sym (λ i. has_divisors (λ slot. h.tiles slot i) x) ∙ a.fit.divisors;
    placed = sym (same_placed s p table ag rank x) ∙ sym (λ i. is_placed (setting_on p (h.table i)) (h.number i) x) ∙ a.fit.placed;
    strips =
        sym (same_strips s p table ag rank (tiles_in m.cells) (st.tiles rank) x h.tiles)
        ∙ sym (λ i. has_strips (setting_on p (h.table i)) (h.number i) (tiles_in m.cells) x) ∙ a.fit.strips;
    factor = factor;
  }

  pub legal_read : (x : Piece) → MayRead m x → IsTrue (holds (st.tiles rank) x)
  legal_read x a = sym (λ i. holds (λ slot. h.tiles slot i) x) ∙ a.held

  -- a message fits, whatever waits behind it
  fits_is : (x : Piece) (t : Tile) (ts : List Tile) → fits (state_in m) m.number x (t ∷ []) ≡ fits st rank x (t ∷ ts)
  fits_is (piece.Whole slot) t ts = may_write_is slot
  fits_is (piece.Part slot at) (Index ns) ts = refl
  fits_is (piece.Part slot at) (Words w) ts = λ i. (may_change_is slot i && holds_words (λ q. h.tiles q i) (piece.Part slot at)) && ((height at == w.rows) && (breadth at == cols w))

  pub legal_write : (p : ℕ) (x : Piece) (t : Tile) (ts : List Tile) → MayWrite p m x t → IsTrue (fits st rank x (t ∷ ts))
  legal_write p x t ts a = sym (fits_is x t ts) ∙ a.fitting

  -- and what is legal a rank may do
  may_apply : (s : Setting) (p : ℕ) (x : Kernel) → AgreesOn s p table → AreFactorsBelow s p → IsRun s st rank x → MayApply p m x
  may_apply s p x ag below l = record {
    live = h.live ∙ l.live;
    writable = (λ i. if makes x then may_write_is (slot_of (target x)) i else may_change_is (slot_of (target x)) i) ∙ l.writable;
    fit = record {
      held = (λ i. is_held (λ slot. h.tiles slot i) x) ∙ l.held;
      apart = l.apart;
      shaped = (λ i. is_shaped (λ slot. h.tiles slot i) x) ∙ l.shaped;
      divisors = (λ i. has_divisors (λ slot. h.tiles slot i) x) ∙ l.divisors;
      placed = (λ i. is_placed (setting_on p (h.table i)) (h.number i) x) ∙ same_placed s p table ag rank x ∙ l.placed;
      strips = (λ i. has_strips (setting_on p (h.table i)) (h.number i) (tiles_in m.cells) x) ∙ same_strips s p table ag rank (tiles_in m.cells) (st.tiles rank) x h.tiles ∙ l.strips;
      factor = below_factor s p st rank (factor_of x) below l.factor;
    };
  }

  may_read : (x : Piece) → IsTrue (st.live rank) → IsTrue (holds (st.tiles rank) x) → MayRead m x
  may_read x live held = record { live = h.live ∙ live; held = (λ i. holds (λ slot. h.tiles slot i) x) ∙ held }

  may_receive : (p : ℕ) (x : Piece) (t : Tile) (ts : List Tile) → IsTrue (st.live rank) → IsTrue (fits st rank x (t ∷ ts)) → IsTileOf p t → MayWrite p m x t
  may_receive p x t ts live fitting residues = record { live = h.live ∙ live; fitting = fits_is x t ts ∙ fitting; residues = residues }

-- the first message of a link
first_of_list : (ts : List Tile) (t : Tile) → slice_get ts 0 ≡ Some t → (rest : List Tile) × (ts ≡ t ∷ rest)
first_of_list [] t e = absurd (cc)
first_of_list (u ∷ ts) t e = let same : u ≡ t = cc in (ts, ap (λ v. v ∷ ts) same)

-- what a step meets on the memories and the links, and what is allowed beyond them, make its record legal
pub legal_step : (s : Setting) (p : ℕ) (table : List Line) (x : Machine Rank Tile) (st : State) (t : Action Kernel Piece) → AgreesOn s p table → Stands s table x st → IsStepWithin (ranks s) t → MayStep (memory p) x t → StepAllowed s st t → IsLegalRec s st (rec_of t)
legal_step s p table x st (Works rank op) ag h within may allowed =
    let z = some_of (slice_get x.mems rank) (λ m. MayApply p m op) may in
    legal_kernel table st rank z.0 (stands_at s table x st rank z.0 h z.1) s p op ag z.2 allowed
legal_step s p table x st (Sends from to a) ag h within may allowed =
    let z = some_of (slice_get x.mems from) (λ m. MayRead m a) may.0 in
    let here = stands_at s table x st from z.0 h z.1 in
    let there = and_parts (nat_lt to (ranks s)) (is_path s st from to) allowed in
    record {
      live = sym here.live ∙ z.2.live;
      there = there.0;
      held = legal_read table st from z.0 here a z.2;
      room = sym (λ i. nat_lt (length (h.links from to within.0 within.1 i)) (h.capacity i)) ∙ lt-ltb (length (messages x.links from to)) x.links.capacity may.1;
      path = there.1;
    }
legal_step s p table x st (Receives to from a) ag h within may allowed =
    let w = some_of (slice_get (messages x.links from to) 0) (λ msg. IsSomeAnd (slice_get x.mems to) (λ m. MayWrite p m a msg)) may in
    let z = some_of (slice_get x.mems to) (λ m. MayWrite p m a w.0) w.2 in
    let here = stands_at s table x st to z.0 h z.1 in
    let rest = first_of_list (messages x.links from to) w.0 w.1 in
    record {
      live = sym here.live ∙ z.2.live;
      fitting = sym (ap (fits st to a) (sym rest.1 ∙ h.links from to within.1 within.0)) ∙ legal_write table st to z.0 here p a w.0 rest.0 z.2;
    }

-- ---- what is allowed stays allowed: no step changes the mark or which ranks count as lost
module _ (s : Setting) (st other : State) (mark : st.mark ≡ other.mark) (lost : st.lost ≡ other.lost) where
  factor_stays : (rank : ℕ) (a : Option ℕ) → FactorOf s st rank a → FactorOf s other rank a
  factor_stays rank None f = tt
  factor_stays rank (Some a) f = subst (λ (z : State). IsFactor s z rank a) (λ i. record st { mark = mark i; lost = lost i }) f

  allowed_same : (t : Action Kernel Piece) → StepAllowed s st t → StepAllowed s other t
  allowed_same (Works rank x) a = factor_stays rank (factor_of x) a
  allowed_same (Sends from to x) a = subst (λ (z : State). IsTrue (nat_lt to (ranks s) && is_path s z from to)) (λ i. record st { mark = mark i; lost = lost i }) a
  allowed_same (Receives to from x) a = tt

-- after a step
pub allowed_stays : (s : Setting) (st : State) (u t : Action Kernel Piece) → StepAllowed s st t → StepAllowed s (after s st (rec_of u)) t
allowed_stays s st u t a = let same = marks_stay s st u in allowed_same s st (after s st (rec_of u)) (sym same.mark) (sym same.lost) t a

-- and what is allowed after a step was so before it
pub allowed_back : (s : Setting) (st : State) (u t : Action Kernel Piece) → StepAllowed s (after s st (rec_of u)) t → StepAllowed s st t
allowed_back s st u t a = let same = marks_stay s st u in allowed_same s (after s st (rec_of u)) st same.mark same.lost t a

pub all_allowed_stay : (s : Setting) (st : State) (u : Action Kernel Piece) (ts : List (Action Kernel Piece)) → All (StepAllowed s st) ts → All (StepAllowed s (after s st (rec_of u))) ts
all_allowed_stay s st u ts a = All-weaker (StepAllowed s st) (StepAllowed s (after s st (rec_of u))) (allowed_stays s st u) ts a

-- steps that may be taken one after the other make legal records
pub legal_steps : (s : Setting) (p : ℕ) (table : List Line) (x : Machine Rank Tile) (st : State) (ts : List (Action Kernel Piece)) → AgreesOn s p table → Stands s table x st → All (IsStepWithin (ranks s)) ts → MaySteps (memory p) x ts → All (StepAllowed s st) ts → IsLegalFrom s st (map rec_of ts)
legal_steps s p table x st [] ag h within may allowed = tt
legal_steps s p table x st (t ∷ ts) ag h within may allowed =
    let here = All-head (IsStepWithin (ranks s)) t ts within in (
      legal_step s p table x st t ag h here may.0 (All-head (StepAllowed s st) t ts allowed),
      legal_steps s p table (after_step (memory p) x t) (after s st (rec_of t)) ts ag (step s p table x st t ag h here may.0)
          (All-tail (IsStepWithin (ranks s)) t ts within) may.1 (all_allowed_stay s st t ts (All-tail (StepAllowed s st) t ts allowed)),
    )

-- ---- a legal record is a step that memories allow
-- a rank by its number
rank_there : (ms : List Rank) (rank : ℕ) → rank < length ms → (m : Rank) × (slice_get ms rank ≡ Some m)
rank_there [] rank lt = absurd (omega arith)
rank_there (m ∷ ms) zero lt = (m, refl)
rank_there (m ∷ ms) (suc rank) lt = rank_there ms rank (omega arith)

there : (ms : List Rank) (rank : ℕ) (m : Rank) (P : Rank → Type 0) → slice_get ms rank ≡ Some m → P m → IsSomeAnd (slice_get ms rank) P
there ms rank m P e h = subst (λ o. IsSomeAnd o P) (sym e) h

-- the first message of a link is written
may_take : (s : Setting) (p : ℕ) (table : List Line) (ms : List Rank) (st : State) (to : ℕ) (a : Piece) (m : Rank) (ts : List Tile) → slice_get ms to ≡ Some m → StandsAt table st to m → IsTrue (st.live to) → IsTrue (fits st to a ts) → All (IsTileOf p) ts → IsSomeAnd (slice_get ts 0) (λ msg. IsSomeAnd (slice_get ms to) (λ y. MayWrite p y a msg))
may_take s p table ms st to a m [] e h live fitting r = absurd (true≢false (sym fitting))
may_take s p table ms st to a m (t ∷ ts) e h live fitting r = there ms to m (λ y. MayWrite p y a t) e (may_receive table st to m h p a t ts live fitting (All-head (IsTileOf p) t ts r))

-- the step of a legal record may be taken
pub may_step : (s : Setting) (p : ℕ) (table : List Line) (x : Machine Rank Tile) (st : State) (t : Action Kernel Piece) → AgreesOn s p table → AreFactorsBelow s p → Stands s table x st → AreResidues p x → IsStepWithin (ranks s) t → IsLegalRec s st (rec_of t) → MayStep (memory p) x t
may_step s p table x st (Works rank op) ag below h r within legal =
    let z = rank_there x.mems rank (subst (λ n. rank < n) (sym h.count) within) in
    there x.mems rank z.0 (λ m. MayApply p m op) z.1 (may_apply table st rank z.0 (stands_at s table x st rank z.0 h z.1) s p op ag below legal)
may_step s p table x st (Sends from to a) ag below h r within legal =
    let z = rank_there x.mems from (subst (λ n. from < n) (sym h.count) within.0) in (
      there x.mems from z.0 (λ m. MayRead m a) z.1 (may_read table st from z.0 (stands_at s table x st from z.0 h z.1) a legal.live legal.held),
      ltb-true (length (messages x.links from to)) x.links.capacity ((λ i. nat_lt (length (h.links from to within.0 within.1 i)) (h.capacity i)) ∙ legal.room),
    )
may_step s p table x st (Receives to from a) ag below h r within legal =
    let z = rank_there x.mems to (subst (λ n. to < n) (sym h.count) within.0) in
    may_take s p table x.mems st to a z.0 (messages x.links from to) z.1 (stands_at s table x st to z.0 h z.1) legal.live
    (ap (fits st to a) (h.links from to within.1 within.0) ∙ legal.fitting) (link_words p x.links from to r.links)
