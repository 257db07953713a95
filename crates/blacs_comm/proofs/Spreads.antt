-- What a broadcast does.
use Rattle.std.proofs.Common.{◌≡◌, ◌≢◌, ℕ, zero, suc, ◌+◌, ◌-◌, ◌<◌, ◌≤◌, ◌==◌, ◌||◌, ◌⊎◌, List, [], ◌∷◌, ◌++◌, refl, sym, ◌∙◌, ap, inl, inr, if◌then◌else◌, true, false, Bool, arith, append_assoc, append-nil}
use Rattle.std.proofs.lemmas.Bool.Decides.{eqb_tells}
use Rattle.rank_run.specs.declared.round.Event.{Event}
use Rattle.rank_run.specs.declared.round.Event.TheVariants.{Move}
use Rattle.rank_run.specs.Memory.{Memory, ReadsBack}
use Rattle.rank_run.proofs.Ranks.{if_other}
use Rattle.blacs_comm.specs.Leads.{with_memory, Leads, Extends, CanMove, moved}
use Rattle.blacs_comm.specs.declared.topology.Topology.{Topology}
use Rattle.blacs_comm.specs.Moves.{broadcast_moves, broadcast_to, CanBroadcast, is_other}
use Rattle.blacs_comm.specs.Positions.{rank_at, sender_of, place_of, AreDistinct}
use Rattle.blacs_comm.proofs.Leading.{with_same, with_other, leads_move, leads_same}
use Rattle.blacs_comm.proofs.Places.{place_first, place_in, ranks_apart, sender_below, other_place, place_not_root, other_tells}

-- whether a rank is at one of the positions 1 to k
abbrev pub is_among : (ℕ → ℕ) → ℕ → ℕ → Bool
is_among at zero r = false
is_among at (suc k) r = (at (suc k) == r) || is_among at k r

pub among_tells : (at : ℕ → ℕ) (k r : ℕ) → ((is_among at k r ≡ true) × (i : ℕ) × (1 ≤ i) × (i ≤ k) × (at i ≡ r)) ⊎ ((is_among at k r ≡ false) × ((i : ℕ) → 1 ≤ i → i ≤ k → at i ≢ r))
among_tells at zero r = inr (refl, λ i lo hi. absurd (omega arith))
among_tells at (suc k) r =
    elim (eqb_tells (at (suc k)) r) [
      | inl p ↦ inl (ap (λ (t : Bool). t || is_among at k r) p.0, suc k, omega arith, omega arith, p.1)
      | inr p ↦
          elim (among_tells at k r) [
            | inl q ↦ inl (ap (λ (t : Bool). t || is_among at k r) p.0 ∙ q.0, q.1, q.2, omega (arith, q.3), q.4)
            | inr q ↦ inr (ap (λ (t : Bool). t || is_among at k r) p.0 ∙ q.0, λ i lo hi. elim (last i k hi) [ inl e ↦ λ h. p.1 (ap at (sym e) ∙ h) | inr le ↦ q.1 i lo le ])
          ]
    ]
  where
    last : (i k : ℕ) → i ≤ suc k → (i ≡ suc k) ⊎ (i ≤ k)
    last i k h = grind arith

pub among_yes : (at : ℕ → ℕ) (k i : ℕ) → 1 ≤ i → i ≤ k → is_among at k (at i) ≡ true
among_yes at k i lo hi = elim (among_tells at k (at i)) [ inl p ↦ p.0 | inr p ↦ absurd (p.1 i lo hi refl) ]

pub among_no : (at : ℕ → ℕ) (k r : ℕ) → ((i : ℕ) → 1 ≤ i → i ≤ k → at i ≢ r) → is_among at k r ≡ false
among_no at k r h = elim (among_tells at k r) [ inl p ↦ absurd (h p.1 p.2 p.3 p.4) | inr p ↦ p.0 ]

module _ {Mem Op Piece Msg : Type 0} (m : Memory Mem Op Piece Msg) where
  abbrev pub received : (ℕ → ℕ) → Piece → Msg → ℕ → (ℕ → Mem) → ℕ → Mem
  received at work msg k g r = if is_among at k r then m.written (g r) work msg else g r

  received_in : (at : ℕ → ℕ) (work : Piece) (msg : Msg) (k : ℕ) (g : ℕ → Mem) (r : ℕ) → is_among at k r ≡ true → received at work msg k g r ≡ m.written (g r) work msg
  received_in at work msg k g r e = ap (λ (t : Bool). if t then m.written (g r) work msg else g r) e

  received_out : (at : ℕ → ℕ) (work : Piece) (msg : Msg) (k : ℕ) (g : ℕ → Mem) (r : ℕ) → is_among at k r ≡ false → received at work msg k g r ≡ g r
  received_out at work msg k g r e = ap (λ (t : Bool). if t then m.written (g r) work msg else g r) e

  -- n ranks, of which the first `count` positions are different ones
  pub record IsTree (at up : ℕ → ℕ) (count n : ℕ) (source work : Piece) (g : ℕ → Mem) : Type 0 where
    pub within : (i : ℕ) → i < count → at i < n
    pub apart : (i j : ℕ) → i < count → j < count → i ≢ j → at i ≢ at j
    pub upwards : (i : ℕ) → 1 ≤ i → up i < i
    pub can_read : m.can_read (g (at 0)) source
    pub can_write : (i : ℕ) → 1 ≤ i → i < count → m.can_write (g (at i)) work (m.read (g (at 0)) source)

  -- what a position that has its message sends on
  sends : ReadsBack m → (at up : ℕ → ℕ) (count n : ℕ) (source work : Piece) (g : ℕ → Mem) → IsTree at up count n source work g → (k u : ℕ) → u ≤ k → k < count →
      m.can_read (received at work (m.read (g (at 0)) source) k g (at u)) (if u == 0 then source else work)
      × (m.read (received at work (m.read (g (at 0)) source) k g (at u)) (if u == 0 then source else work) ≡ m.read (g (at 0)) source)
  sends back at up count n source work g t k zero le lt =
      let same : received at work (m.read (g (at 0)) source) k g (at 0) ≡ g (at 0) =
      received_out at work (m.read (g (at 0)) source) k g (at 0) (among_no at k (at 0) (λ i lo hi. t.apart i 0 (omega arith) (omega arith) (λ e. omega (arith, e)))) in
      rw same (t.can_read, refl)
  sends back at up count n source work g t k (suc u) le lt =
      let same : received at work (m.read (g (at 0)) source) k g (at (suc u)) ≡ m.written (g (at (suc u))) work (m.read (g (at 0)) source) =
      received_in at work (m.read (g (at 0)) source) k g (at (suc u)) (among_yes at k (suc u) (omega arith) le) in
      let can = t.can_write (suc u) (omega arith) (omega arith) in
      rw (same, if_other (suc u) 0 source work (λ e. omega (arith, e))) (back.can (g (at (suc u))) work (m.read (g (at 0)) source) can, back.same (g (at (suc u))) work (m.read (g (at 0)) source) can)

  one_more : (at : ℕ → ℕ) (work : Piece) (msg : Msg) (k : ℕ) (g : ℕ → Mem) (r : ℕ) →
      with_memory (received at work msg k g) (at (suc k)) (m.written (g (at (suc k))) work msg) r ≡ received at work msg (suc k) g r
  one_more at work msg k g r =
      elim (eqb_tells (at (suc k)) r) [
        | inl p ↦
            ap (λ q. with_memory (received at work msg k g) (at (suc k)) (m.written (g (at (suc k))) work msg) q) (sym p.1)
            ∙ (with_same (received at work msg k g) (at (suc k)) (m.written (g (at (suc k))) work msg)
            ∙ (ap (λ q. m.written (g q) work msg) p.1 ∙ sym (received_in at work msg (suc k) g r (ap (λ (b : Bool). b || is_among at k r) p.0))))
        | inr p ↦
            with_other (received at work msg k g) (at (suc k)) (m.written (g (at (suc k))) work msg) r (λ e. p.1 (sym e))
            ∙ sym (ap (λ (b : Bool). if b || is_among at k r then m.written (g r) work msg else g r) p.0)
      ]

  pub spread : ReadsBack m → (at up : ℕ → ℕ) (count n : ℕ) (source work : Piece) (es : List (Event Mem Op Piece Msg)) (f g : ℕ → Mem) → IsTree at up count n source work g → Leads m n es f g → (k : ℕ) → k < count →
      Leads m n (es ++ broadcast_moves at up source work k) f (received at work (m.read (g (at 0)) source) k g)
  spread back at up count n source work es f g t l zero lt = rw append-nil l
  spread back at up count n source work es f g t l (suc k) lt =
      let msg = m.read (g (at 0)) source in
      let here : Leads m n (es ++ broadcast_moves at up source work k) f (received at work msg k g) = spread back at up count n source work es f g t l k (omega arith) in
      let low : up (suc k) < suc k = t.upwards (suc k) (omega arith) in
      let out = sends back at up count n source work g t k (up (suc k)) (omega arith) (omega arith) in
      let own : received at work msg k g (at (suc k)) ≡ g (at (suc k)) =
      received_out at work msg k g (at (suc k)) (among_no at k (at (suc k)) (λ i lo hi. t.apart i (suc k) (omega arith) lt (λ e. omega (arith, e)))) in
      let piece = if up (suc k) == 0 then source else work in
      let can : CanMove m (at (up (suc k))) piece (at (suc k)) work n (received at work msg k g) =
      record {
        from_in = t.within (up (suc k)) (omega arith);
        to_in = t.within (suc k) lt;
        can_read = out.0;
        can_write = rw own (rw out.1 (t.can_write (suc k) (omega arith) lt));
      } in
      let next = leads_move m n (es ++ broadcast_moves at up source work k) f (received at work msg k g) (at (up (suc k))) piece (at (suc k)) work (t.apart (up (suc k)) (suc k) (omega arith) lt (λ e. omega (arith, e))) here can in
      rw (← append_assoc) (leads_same m n _ f (moved m (at (up (suc k))) piece (at (suc k)) work (received at work msg k g)) (received at work msg (suc k) g) next (λ r lt. rw own (rw out.1 (one_more at work msg k g r))))

  -- the positions from 1 on are the other members
  same_others : (member : ℕ → ℕ) (count : ℕ) (t : Topology) (root r : ℕ) → root < count →
      is_among (rank_at member count t root) (count - 1) r ≡ is_other member root count r
  same_others member count t root r lt =
      elim (among_tells (rank_at member count t root) (count - 1) r) [
        | inl p ↦
            elim (other_tells member root count r) [
              | inl q ↦ p.0 ∙ sym q.0
              | inr q ↦ absurd (q.1 (place_of t count root p.1) (place_in t count root p.1 lt (omega (arith, p.2, p.3))) (place_not_root t count root p.1 lt p.2 (omega (arith, p.2, p.3))) p.4)
            ]
        | inr p ↦
            elim (other_tells member root count r) [
              | inl q ↦
                  let i = other_place t count root q.1 lt q.2 q.3 in
                  absurd (p.1 i.0 i.1 (omega (arith, i.2)) (ap (member) i.3 ∙ q.4))
              | inr q ↦ p.0 ∙ sym q.0
            ]
      ]

  pub extends_broadcast : ReadsBack m → (es es' : List (Event Mem Op Piece Msg)) (member : ℕ → ℕ) (count : ℕ) (t : Topology) (root : ℕ) (source work : Piece) → root < count → AreDistinct member count →
      es' ≡ es ++ broadcast_moves (rank_at member count t root) (sender_of t) source work (count - 1) →
      Extends m es es' (CanBroadcast m member count root source work) (broadcast_to m member count root source work)
  extends_broadcast back es es' member count t root source work lt apart is n f g l can =
      let first : rank_at member count t root 0 ≡ member root = ap (member) (place_first t count root lt) in
      let tree : IsTree (rank_at member count t root) (sender_of t) count n source work g =
      record {
        within = λ i h. can.within (place_of t count root i) (place_in t count root i lt h);
        apart = λ i j h k ne. ranks_apart member count t root i j apart lt h k ne;
        upwards = λ i lo. sender_below t i lo;
        can_read = rw first can.can_read;
        can_write = λ i lo hi. rw first (can.can_write (place_of t count root i) (place_in t count root i lt hi) (place_not_root t count root i lt lo hi));
      } in
      let led = spread back (rank_at member count t root) (sender_of t) count n source work es f g tree l (count - 1) (omega arith) in
      rw is (leads_same m n _ f _ (broadcast_to m member count root source work g) led
      (λ r h. ap (λ (b : Bool). if b then m.written (g r) work (m.read (g (rank_at member count t root 0)) source) else g r) (same_others member count t root r lt)
      ∙ ap (λ q. if is_other member root count r then m.written (g r) work (m.read (g q) source) else g r) first))

module _ {Mem Op Piece Msg : Type 0} where
  pub moves_go_on : (at up : ℕ → ℕ) (source work piece : Piece) (es0 es es' : List (Event Mem Op Piece Msg)) (i from to : ℕ) → 1 ≤ i → es ≡ es0 ++ broadcast_moves at up source work (i - 1) →
      from ≡ at (up i) → to ≡ at i → piece ≡ (if up i == 0 then source else work) → es' ≡ es ++ Move from to piece work ∷ [] → es' ≡ es0 ++ broadcast_moves at up source work (i + 1 - 1)
  moves_go_on at up source work piece es0 es es' zero from to lo old is_from is_to is_piece is = absurd (omega arith)
  moves_go_on at up source work piece es0 es es' (suc k) from to lo old is_from is_to is_piece is =
      let less : suc k - 1 ≡ k = omega arith in
      let more : suc k + 1 - 1 ≡ suc k = omega arith in
      let event = Move (at (up (suc k))) (at (suc k)) (if up (suc k) == 0 then source else work) work in
      let grown : es' ≡ (es0 ++ broadcast_moves at up source work k) ++ event ∷ [] = cc in
      rw more (grown ∙ append_assoc es0 (broadcast_moves at up source work k) (event ∷ []))
