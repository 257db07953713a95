-- How a round leads on when events are appended.
use Rattle.std.proofs.Common.{◌≡◌, ◌≢◌, ℕ, zero, suc, ◌<◌, List, [], ◌∷◌, ◌++◌, Some, length, get_or, slice_get, refl, sym, ◌∙◌, ap, subst, inl, inr, arith}
use Rattle.std.proofs.lemmas.Bool.Decides.{eqb_tells}
use Rattle.rank_run.specs.declared.round.Event.{Event}
use Rattle.rank_run.specs.declared.round.Event.TheVariants.{Local, Move}
use Rattle.rank_run.specs.Memory.{Memory}
use Rattle.rank_run.specs.Rounds.{on_rank, written_in, read_out, after_event, after_events, IsMet, MayRun}
use Rattle.rank_run.proofs.Ranks.{if_same, if_other}
use Rattle.blacs_comm.specs.Leads.{memories, with_memory, Leads, Extends, ExtendsBy, CanMove, moved, CanWork, worked}

module _ {Mem : Type 0} where
  pub same_memories : (n : ℕ) (f g : ℕ → Mem) → ((r : ℕ) → r < n → f r ≡ g r) → memories n f ≡ memories n g
  same_memories zero f g h = refl
  same_memories (suc n) f g h =
      let here : f 0 ≡ g 0 = h 0 (omega arith) in
      let more : memories n (λ r. f (suc r)) ≡ memories n (λ r. g (suc r)) = same_memories n (λ r. f (suc r)) (λ r. g (suc r)) (λ r lt. h (suc r) (omega (arith, lt))) in
      cc

  pub get-memories : (n : ℕ) (f : ℕ → Mem) (r : ℕ) → r < n → slice_get (memories n f) r ≡ Some (f r)
  get-memories zero f r lt = absurd (omega arith)
  get-memories (suc n) f zero lt = refl
  get-memories (suc n) f (suc r) lt = get-memories n (λ q. f (suc q)) r (omega arith)

  -- memories in a list, as a function of the rank
  pub list_memories : (d : Mem) (xs : List Mem) → memories (length xs) (λ r. get_or xs r d) ≡ xs
  list_memories d [] = refl
  list_memories d (x ∷ xs) = ap (λ l. x ∷ l) (list_memories d xs)

  pub with_same : (f : ℕ → Mem) (r : ℕ) (x : Mem) → with_memory f r x r ≡ x
  with_same f r x = if_same r r x (f r) refl

  pub with_other : (f : ℕ → Mem) (r : ℕ) (x : Mem) (q : ℕ) → q ≢ r → with_memory f r x q ≡ f q
  with_other f r x q ne = if_other q r x (f q) ne

  with_shift : (f : ℕ → Mem) (r : ℕ) (x : Mem) (q : ℕ) → with_memory (λ k. f (suc k)) r x q ≡ with_memory f (suc r) x (suc q)
  with_shift f r x q =
      elim (eqb_tells q r) [
        | inl p ↦ if_same q r x (f (suc q)) p.1 ∙ sym (if_same (suc q) (suc r) x (f (suc q)) (ap (λ n. suc n) p.1))
        | inr p ↦ if_other q r x (f (suc q)) p.1 ∙ sym (if_other (suc q) (suc r) x (f (suc q)) (λ e. p.1 (omega (arith, e))))
      ]

  pub on_rank-memories : (n : ℕ) (f : ℕ → Mem) (r : ℕ) (h : Mem → Mem) → on_rank (memories n f) r h ≡ memories n (with_memory f r (h (f r)))
  on_rank-memories zero f r h = refl
  on_rank-memories (suc n) f zero h =
      let more : memories n (λ q. f (suc q)) ≡ memories n (λ q. with_memory f 0 (h (f 0)) (suc q)) =
      same_memories n (λ q. f (suc q)) (λ q. with_memory f 0 (h (f 0)) (suc q)) (λ q lt. sym (with_other f 0 (h (f 0)) (suc q) (λ e. omega (arith, e)))) in
      let here : with_memory f 0 (h (f 0)) 0 ≡ h (f 0) = with_same f 0 (h (f 0)) in
      cc
  on_rank-memories (suc n) f (suc r) h =
      let here : with_memory f (suc r) (h (f (suc r))) 0 ≡ f 0 = with_other f (suc r) (h (f (suc r))) 0 (λ e. omega (arith, e)) in
      let one : on_rank (memories n (λ q. f (suc q))) r h ≡ memories n (with_memory (λ q. f (suc q)) r (h (f (suc r)))) = on_rank-memories n (λ q. f (suc q)) r h in
      let two : memories n (with_memory (λ q. f (suc q)) r (h (f (suc r)))) ≡ memories n (λ q. with_memory f (suc r) (h (f (suc r))) (suc q)) =
      same_memories n (with_memory (λ q. f (suc q)) r (h (f (suc r)))) (λ q. with_memory f (suc r) (h (f (suc r))) (suc q)) (λ q lt. with_shift f r (h (f (suc r))) q) in
      cc

module _ {Mem Op Piece Msg : Type 0} (m : Memory Mem Op Piece Msg) where
  pub after_events-append : (mems : List Mem) (es es' : List (Event Mem Op Piece Msg)) → after_events m mems (es ++ es') ≡ after_events m (after_events m mems es) es'
  after_events-append mems [] es' = refl
  after_events-append mems (e ∷ es) es' = after_events-append (after_event m mems e) es es'

  pub may_run-append : (mems : List Mem) (es es' : List (Event Mem Op Piece Msg)) → MayRun m mems es → MayRun m (after_events m mems es) es' → MayRun m mems (es ++ es')
  may_run-append mems [] es' h k = k
  may_run-append mems (e ∷ es) es' h k = (h.0, may_run-append (after_event m mems e) es es' h.1 k)

  pub leads_one : (n : ℕ) (es : List (Event Mem Op Piece Msg)) (f g h : ℕ → Mem) (e : Event Mem Op Piece Msg) → Leads m n es f g → IsMet m (memories n g) e → after_event m (memories n g) e ≡ memories n h → Leads m n (es ++ e ∷ []) f h
  leads_one n es f g h e l met is =
      record {
        may = may_run-append (memories n f) es (e ∷ []) l.may (subst (λ (mems : List Mem). MayRun m mems (e ∷ [])) (sym l.after) (met, tt));
        after = after_events-append (memories n f) es (e ∷ []) ∙ (ap (λ (mems : List Mem). after_event m mems e) l.after ∙ is);
      }

  -- a round without events leads nowhere
  pub leads_start : (n : ℕ) (es : List (Event Mem Op Piece Msg)) (f : ℕ → Mem) → es ≡ [] → Leads m n es f f
  leads_start n es f none = subst (λ (l : List (Event Mem Op Piece Msg)). Leads m n l f f) (sym none) (record { may = tt; after = refl })

  pub leads_same : (n : ℕ) (es : List (Event Mem Op Piece Msg)) (f g h : ℕ → Mem) → Leads m n es f g → ((r : ℕ) → r < n → g r ≡ h r) → Leads m n es f h
  leads_same n es f g h l same = record { may = l.may; after = l.after ∙ same_memories n g h same }

  met_move : (n : ℕ) (g : ℕ → Mem) (from : ℕ) (a : Piece) (to : ℕ) (b : Piece) → from ≢ to → CanMove m from a to b n g → IsMet m (memories n g) (Move from to a b)
  met_move n g from a to b ne c =
      rw (get-memories n g from c.from_in) (rw (get-memories n g to c.to_in) (ne, (c.can_read, c.can_write)))

  after_move : (n : ℕ) (g : ℕ → Mem) (from : ℕ) (a : Piece) (to : ℕ) (b : Piece) → from < n → after_event m (memories n g) (Move from to a b) ≡ memories n (moved m from a to b g)
  after_move n g from a to b lt =
      ap (λ o. written_in m (memories n g) to b (read_out m o a)) (get-memories n g from lt) ∙ on_rank-memories n g to (λ x. m.written x b (m.read (g from) a))

  pub leads_move : (n : ℕ) (es : List (Event Mem Op Piece Msg)) (f g : ℕ → Mem) (from : ℕ) (a : Piece) (to : ℕ) (b : Piece) → from ≢ to → Leads m n es f g → CanMove m from a to b n g → Leads m n (es ++ Move from to a b ∷ []) f (moved m from a to b g)
  leads_move n es f g from a to b ne l c =
      leads_one n es f g (moved m from a to b g) (Move from to a b) l (met_move n g from a to b ne c) (after_move n g from a to b c.from_in)

  met_work : (n : ℕ) (g : ℕ → Mem) (rank : ℕ) (op : Op) → CanWork m rank op n g → IsMet m (memories n g) (Local rank op)
  met_work n g rank op c = rw (get-memories n g rank c.rank_in) c.can_apply

  pub leads_work : (n : ℕ) (es : List (Event Mem Op Piece Msg)) (f g : ℕ → Mem) (rank : ℕ) (op : Op) → Leads m n es f g → CanWork m rank op n g → Leads m n (es ++ Local rank op ∷ []) f (worked m rank op g)
  leads_work n es f g rank op l c =
      leads_one n es f g (worked m rank op g) (Local rank op) l (met_work n g rank op c) (on_rank-memories n g rank (λ x. m.applied x op))

  pub extends_move : (es es' : List (Event Mem Op Piece Msg)) (from : ℕ) (a : Piece) (to : ℕ) (b : Piece) → from ≢ to → es' ≡ es ++ Move from to a b ∷ [] → Extends m es es' (CanMove m from a to b) (moved m from a to b)
  extends_move es es' from a to b ne is n f g l c = rw is (leads_move n es f g from a to b ne l c)

  pub extends_work : (es es' : List (Event Mem Op Piece Msg)) (rank : ℕ) (op : Op) → es' ≡ es ++ Local rank op ∷ [] → Extends m es es' (CanWork m rank op) (worked m rank op)
  extends_work es es' rank op is n f g l c = rw is (leads_work n es f g rank op l c)

  -- two calls, one after the other
  pub extends_then : (es es1 es2 : List (Event Mem Op Piece Msg)) (Ready1 Ready2 : ℕ → (ℕ → Mem) → Type 0) (effect1 effect2 : (ℕ → Mem) → ℕ → Mem) →
      Extends m es es1 Ready1 effect1 → Extends m es1 es2 Ready2 effect2 → Extends m es es2 (λ n g. Ready1 n g × Ready2 n (effect1 g)) (λ g. effect2 (effect1 g))
  extends_then es es1 es2 Ready1 Ready2 effect1 effect2 one two n f g l can = two n f (effect1 g) (one n f g l can.0) can.1

  -- the same where the second call's effect is a relation, where the first one's is, and where both are
  pub extends_then_by : (es es1 es2 : List (Event Mem Op Piece Msg)) (Ready1 Ready2 : ℕ → (ℕ → Mem) → Type 0) (effect1 : (ℕ → Mem) → ℕ → Mem) (Effect2 : (ℕ → Mem) → (ℕ → Mem) → Type 0) →
      Extends m es es1 Ready1 effect1 → ExtendsBy m es1 es2 Ready2 Effect2 → ExtendsBy m es es2 (λ n g. Ready1 n g × Ready2 n (effect1 g)) (λ g h. Effect2 (effect1 g) h)
  extends_then_by es es1 es2 Ready1 Ready2 effect1 Effect2 one two n f g l can = two n f (effect1 g) (one n f g l can.0) can.1

  pub extends_by_then : (es es1 es2 : List (Event Mem Op Piece Msg)) (Ready1 Ready2 : ℕ → (ℕ → Mem) → Type 0) (Effect1 : (ℕ → Mem) → (ℕ → Mem) → Type 0) (effect2 : (ℕ → Mem) → ℕ → Mem) →
      ExtendsBy m es es1 Ready1 Effect1 → Extends m es1 es2 Ready2 effect2 →
      ExtendsBy m es es2 (λ n g. Ready1 n g × ((h : ℕ → Mem) → Effect1 g h → Ready2 n h)) (λ g k. (h : ℕ → Mem) × Effect1 g h × (k ≡ effect2 h))
  extends_by_then es es1 es2 Ready1 Ready2 Effect1 effect2 one two n f g l can =
      let mid = one n f g l can.0 in (effect2 mid.0, two n f mid.0 mid.1 (can.1 mid.0 mid.2), (mid.0, mid.2, refl))

  pub extends_by_then_by : (es es1 es2 : List (Event Mem Op Piece Msg)) (Ready1 Ready2 : ℕ → (ℕ → Mem) → Type 0) (Effect1 Effect2 : (ℕ → Mem) → (ℕ → Mem) → Type 0) →
      ExtendsBy m es es1 Ready1 Effect1 → ExtendsBy m es1 es2 Ready2 Effect2 →
      ExtendsBy m es es2 (λ n g. Ready1 n g × ((h : ℕ → Mem) → Effect1 g h → Ready2 n h)) (λ g k. (h : ℕ → Mem) × Effect1 g h × Effect2 h k)
  extends_by_then_by es es1 es2 Ready1 Ready2 Effect1 Effect2 one two n f g l can =
      let mid = one n f g l can.0 in
      let end = two n f mid.0 mid.1 (can.1 mid.0 mid.2) in (end.0, end.1, (mid.0, mid.2, end.2))

  -- a round that was built from none may be run from memories that are ready
  pub may_of_extends : (es es' : List (Event Mem Op Piece Msg)) (Ready : ℕ → (ℕ → Mem) → Type 0) (effect : (ℕ → Mem) → ℕ → Mem) (d : Mem) (mems : List Mem) (n : ℕ) → Extends m es es' Ready effect → es ≡ [] → length mems ≡ n → Ready n (λ r. get_or mems r d) → MayRun m mems es'
  may_of_extends es es' Ready effect d mems n extends none count ready =
      let f : ℕ → Mem = λ r. get_or mems r d in
      subst (λ (l : List Mem). MayRun m l es') (ap (λ k. memories k f) (sym count) ∙ list_memories d mems) (extends n f f (leads_start n es f none) ready).may

  -- the same where the effect is a relation
  pub may_of_extends_by : (es es' : List (Event Mem Op Piece Msg)) (Ready : ℕ → (ℕ → Mem) → Type 0) (Effect : (ℕ → Mem) → (ℕ → Mem) → Type 0) (d : Mem) (mems : List Mem) (n : ℕ) → ExtendsBy m es es' Ready Effect → es ≡ [] → length mems ≡ n → Ready n (λ r. get_or mems r d) → MayRun m mems es'
  may_of_extends_by es es' Ready Effect d mems n extends none count ready =
      let f : ℕ → Mem = λ r. get_or mems r d in
      subst (λ (l : List Mem). MayRun m l es') (ap (λ k. memories k f) (sym count) ∙ list_memories d mems) (extends n f f (leads_start n es f none) ready).1.may

  -- and leaves the memories that its effect says
  pub after_of_extends : (es es' : List (Event Mem Op Piece Msg)) (Ready : ℕ → (ℕ → Mem) → Type 0) (effect : (ℕ → Mem) → ℕ → Mem) (d : Mem) (mems : List Mem) (n : ℕ) → Extends m es es' Ready effect → es ≡ [] → length mems ≡ n → Ready n (λ r. get_or mems r d) →
      after_events m mems es' ≡ memories n (effect (λ r. get_or mems r d))
  after_of_extends es es' Ready effect d mems n extends none count ready =
      let f : ℕ → Mem = λ r. get_or mems r d in
      subst (λ (l : List Mem). after_events m l es' ≡ memories n (effect f)) (ap (λ k. memories k f) (sym count) ∙ list_memories d mems) (extends n f f (leads_start n es f none) ready).after

  pub after_of_extends_by : (es es' : List (Event Mem Op Piece Msg)) (Ready : ℕ → (ℕ → Mem) → Type 0) (Effect : (ℕ → Mem) → (ℕ → Mem) → Type 0) (d : Mem) (mems : List Mem) (n : ℕ) → ExtendsBy m es es' Ready Effect → es ≡ [] → length mems ≡ n → Ready n (λ r. get_or mems r d) →
      (h : ℕ → Mem) × (after_events m mems es' ≡ memories n h) × Effect (λ r. get_or mems r d) h
  after_of_extends_by es es' Ready Effect d mems n extends none count ready =
      let f : ℕ → Mem = λ r. get_or mems r d in
      let led = extends n f f (leads_start n es f none) ready in
      (led.0, subst (λ (l : List Mem). after_events m l es' ≡ memories n led.0) (ap (λ k. memories k f) (sym count) ∙ list_memories d mems) led.1.after, led.2)
