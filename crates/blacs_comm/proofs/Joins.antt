-- What a combine does.
use Rattle.std.proofs.Common.{◌≡◌, ◌≢◌, ℕ, zero, suc, ◌-◌, ◌*◌, ◌<◌, ◌≤◌, min, ◌⊎◌, List, [], ◌∷◌, ◌++◌, refl, sym, ◌∙◌, ap, subst, inl, inr, if◌then◌else◌, ltb, true, false, Bool, arith, append_assoc, append-nil}
use Rattle.std.specs.List.{All}
use Rattle.std.proofs.lemmas.Bool.Decides.{eqb_tells, leb_tells}
use Rattle.std.proofs.lemmas.List.Elements.{All-nil, All-cons, All-append, All-tail}
use Rattle.rank_run.specs.declared.round.Event.{Event}
use Rattle.rank_run.specs.declared.round.Event.TheVariants.{Local, Move}
use Rattle.rank_run.specs.Memory.{Memory}
use Rattle.blacs_comm.specs.declared.topology.Topology.{Topology}
use Rattle.blacs_comm.specs.declared.topology.Topology.TheVariants.{I, D, T}
use Rattle.blacs_comm.specs.Leads.{with_memory, Leads, moved, worked}
use Rattle.blacs_comm.specs.Moves.{joined_at, join_moves, combine_moves, folded, absorbed, all_absorbed, AreJoined, KeepsPiece, IsJoin, Combines}
use Rattle.blacs_comm.specs.Positions.{rank_at, place_of, AreDistinct}
use Rattle.blacs_comm.proofs.Leading.{with_same, with_other, leads_move, leads_work, leads_same}
use Rattle.blacs_comm.proofs.Folds.{fold_places}
use Rattle.blacs_comm.proofs.Places.{place_first, place_in, ranks_apart, other_place}

lt_tells : (a b : ℕ) → ((ltb a b ≡ true) × (a < b)) ⊎ ((ltb a b ≡ false) × (b ≤ a))
lt_tells a b = elim (leb_tells (suc a) b) [ inl p ↦ inl (p.0, p.1) | inr p ↦ inr (p.0, omega (arith, p.1)) ]

last_le : (i k : ℕ) → i ≤ suc k → (i ≡ suc k) ⊎ (i ≤ k)
last_le i k h = grind arith

module _ {Mem Op Piece Msg : Type 0} (m : Memory Mem Op Piece Msg) (own work : Piece) (join : Op) (op : Msg → Msg → Msg) (fit : Mem → Bool) (good : Msg → Bool) (rule : IsJoin m own work join op fit good) where
  folded_same : (v w : ℕ → Msg) (k : ℕ) → ((i : ℕ) → i ≤ k → v i ≡ w i) → folded op v k ≡ folded op w k
  folded_same v w zero h = h 0 (omega arith)
  folded_same v w (suc k) h =
      let one : folded op v k ≡ folded op w k = folded_same v w k (λ i le. h i (omega (arith, le))) in
      let two : v (suc k) ≡ w (suc k) = h (suc k) (omega arith) in
      cc

  folded_good : (v : ℕ → Msg) (k : ℕ) → ((i : ℕ) → i ≤ k → good (v i) ≡ true) → good (folded op v k) ≡ true
  folded_good v zero h = h 0 (omega arith)
  folded_good v (suc k) h = rule.stays_good (folded op v k) (v (suc k)) (folded_good v k (λ i le. h i (omega (arith, le)))) (h (suc k) (omega arith))

  -- joining x into one of the values joins it into their fold
  absorbs : (v v' : ℕ → Msg) (x : Msg) (p k : ℕ) → ((i : ℕ) → i ≤ k → good (v i) ≡ true) → good x ≡ true → p ≤ k → v' p ≡ op (v p) x → ((i : ℕ) → i ≤ k → i ≢ p → v' i ≡ v i) → folded op v' k ≡ op (folded op v k) x
  absorbs v v' x p zero goods gx le at others =
      let e : p ≡ 0 = omega arith in
      subst (λ (q : ℕ). v' q ≡ op (v q) x) e at
  absorbs v v' x p (suc k) goods gx le at others =
      let f = folded op v k in
      let gf = folded_good v k (λ i h. goods i (omega (arith, h))) in
      let gl = goods (suc k) (omega arith) in
      elim (last_le p k le) [
        | inl e ↦
            let same : folded op v' k ≡ f = folded_same v' v k (λ i h. others i (omega (arith, h)) (λ z. omega (arith, z, e, h))) in
            let end : v' (suc k) ≡ op (v (suc k)) x = subst (λ (q : ℕ). v' q ≡ op (v q) x) e at in
            ap (λ a. op a (v' (suc k))) same ∙ (ap (op f) end ∙ sym (rule.assoc f (v (suc k)) x gf gl gx))
        | inr h ↦
            let before : folded op v' k ≡ op f x = absorbs v v' x p k (λ i le. goods i (omega (arith, le))) gx h at (λ i le ne. others i (omega (arith, le)) ne) in
            let end : v' (suc k) ≡ v (suc k) = others (suc k) (omega arith) (λ z. omega (arith, z, h)) in
            ap (λ a. op a (v' (suc k))) before
            ∙ (ap (op (op f x)) end
            ∙ (rule.assoc f x (v (suc k)) gf gx gl ∙ (ap (op f) (rule.comm x (v (suc k)) gx gl) ∙ sym (rule.assoc f (v (suc k)) x gf gl gx))))
      ]

  absorbed-append : (x : Mem) (ws : List Msg) (w : Msg) → all_absorbed m work join x (ws ++ w ∷ []) ≡ absorbed m work join (all_absorbed m work join x ws) w
  absorbed-append x [] w = refl
  absorbed-append x (v ∷ ws) w = absorbed-append (absorbed m work join x v) ws w

  joined_none : (x : Mem) → AreJoined m work join good x x
  joined_none x = record { messages = []; good_each = All-nil (λ w. good w ≡ true); after = refl }

  joined_more : (x y : Mem) (w : Msg) → AreJoined m work join good x y → good w ≡ true → AreJoined m work join good x (absorbed m work join y w)
  joined_more x y w old gw =
      record {
        messages = old.messages ++ w ∷ [];
        good_each = All-append (λ w. good w ≡ true) old.messages (w ∷ []) old.good_each (All-cons (λ w. good w ≡ true) w [] gw (All-nil (λ w. good w ≡ true)));
        after = ap (λ (z : Mem). absorbed m work join z w) old.after ∙ sym (absorbed-append x old.messages w);
      }

  -- what each join of a good message keeps, joins of good messages keep; and they keep a memory fit
  pub kept_by_joins : (P : Mem → Type 0) → ((x : Mem) (w : Msg) → fit x ≡ true → good w ≡ true → P x → P (absorbed m work join x w)) →
      (x y : Mem) → AreJoined m work join good x y → fit x ≡ true → P x → (fit y ≡ true) × P y
  kept_by_joins P keeps x y joined is p =
      rw joined.after (all_keep x joined.messages joined.good_each is p)
    where
      all_keep : (x : Mem) (ws : List Msg) → All (λ w. good w ≡ true) ws → fit x ≡ true → P x → (fit (all_absorbed m work join x ws) ≡ true) × P (all_absorbed m work join x ws)
      all_keep x [] goods is p = (is, p)
      all_keep x (w ∷ ws) goods is p =
          let gw : good w ≡ true = goods 0 w (omega arith) in
          all_keep (absorbed m work join x w) ws (All-tail (λ w. good w ≡ true) w ws goods) (rule.stays_fit x w is gw) (keeps x w is gw p)

  -- the first `count` positions, and where their memories have got to from g
  module _ (at : ℕ → ℕ) (count n : ℕ) (g : ℕ → Mem) (within : (i : ℕ) → i < count → at i < n) (apart : (i j : ℕ) → i < count → j < count → i ≢ j → at i ≢ at j) where
    abbrev pub value_at : (ℕ → Mem) → ℕ → Msg
    value_at h i = m.read (h (at i)) own

    pub record Joining (h : ℕ → Mem) : Type 0 where
      pub fit_each : (i : ℕ) → i < count → fit (h (at i)) ≡ true
      pub joined : (i : ℕ) → i < count → AreJoined m work join good (g (at i)) (h (at i))
      pub kept : (piece : Piece) → KeepsPiece m work join fit good piece → (i : ℕ) → i < count → m.read (h (at i)) piece ≡ m.read (g (at i)) piece
      pub rest : (r : ℕ) → ((i : ℕ) → i < count → r ≢ at i) → h r ≡ g r

    good_at : (h : ℕ → Mem) → Joining h → (i : ℕ) → i < count → good (value_at h i) ≡ true
    good_at h j i lt = rule.reads_good (h (at i)) (j.fit_each i lt)

    abbrev after_join : (ℕ → Mem) → ℕ → ℕ → ℕ → Mem
    after_join h c p = with_memory h (at p) (absorbed m work join (h (at p)) (m.read (h (at c)) own))

    join_here : (h : ℕ → Mem) (c p : ℕ) → after_join h c p (at p) ≡ absorbed m work join (h (at p)) (m.read (h (at c)) own)
    join_here h c p = with_same h (at p) (absorbed m work join (h (at p)) (m.read (h (at c)) own))

    join_else : (h : ℕ → Mem) (c p i : ℕ) → p < count → i < count → i ≢ p → after_join h c p (at i) ≡ h (at i)
    join_else h c p i lp li ne = with_other h (at p) (absorbed m work join (h (at p)) (m.read (h (at c)) own)) (at i) (apart i p li lp ne)

    leads_join : (es : List (Event Mem Op Piece Msg)) (f h : ℕ → Mem) (c p : ℕ) → c < count → p < count → c ≢ p → Joining h → Leads m n es f h → Leads m n (es ++ Move (at c) (at p) own work ∷ Local (at p) join ∷ []) f (after_join h c p)
    leads_join es f h c p lc lp ne j l =
        let w = m.read (h (at c)) own in
        let gw = good_at h j c lc in
        let fp = j.fit_each p lp in
        let one = leads_move m n es f h (at c) own (at p) work (apart c p lc lp ne) l (record { from_in = within c lc; to_in = within p lp; can_read = rule.can_read (h (at c)) (j.fit_each c lc); can_write = rule.can_write (h (at p)) w fp gw }) in
        let h1 = moved m (at c) own (at p) work h in
        let here : h1 (at p) ≡ m.written (h (at p)) work w = with_same h (at p) (m.written (h (at p)) work w) in
        let two = leads_work m n (es ++ Move (at c) (at p) own work ∷ []) f h1 (at p) join one (record { rank_in = within p lp; can_apply = rw here (rule.can_join (h (at p)) w fp gw) }) in
        let three : Leads m n ((es ++ Move (at c) (at p) own work ∷ []) ++ Local (at p) join ∷ []) f (after_join h c p) =
        leads_same m n ((es ++ Move (at c) (at p) own work ∷ []) ++ Local (at p) join ∷ []) f (worked m (at p) join h1) (after_join h c p) two (λ r lt.
        elim (eqb_tells r (at p)) [
          | inl e ↦ ap (λ (q : ℕ). worked m (at p) join h1 q) e.1 ∙ (with_same h1 (at p) (m.applied (h1 (at p)) join) ∙ (ap (λ (x : Mem). m.applied x join) here ∙ (sym (join_here h c p) ∙ ap (λ (q : ℕ). after_join h c p q) (sym e.1))))
          | inr e ↦ with_other h1 (at p) (m.applied (h1 (at p)) join) r e.1 ∙ (with_other h (at p) (m.written (h (at p)) work w) r e.1 ∙ sym (with_other h (at p) (absorbed m work join (h (at p)) w) r e.1))
        ]) in
        subst (λ (xs : List (Event Mem Op Piece Msg)). Leads m n xs f (after_join h c p)) (append_assoc es (Move (at c) (at p) own work ∷ []) (Local (at p) join ∷ [])) three

    joining_after : (h : ℕ → Mem) (c p : ℕ) → c < count → p < count → Joining h → Joining (after_join h c p)
    joining_after h c p lc lp j =
        let w = m.read (h (at c)) own in
        record {
          fit_each = λ i lt. elim (eqb_tells i p) [
            | inl e ↦ ap (λ (q : ℕ). fit (after_join h c p (at q))) e.1 ∙ (ap fit (join_here h c p) ∙ rule.stays_fit (h (at p)) w (j.fit_each p lp) (good_at h j c lc))
            | inr e ↦ ap fit (join_else h c p i lp lt e.1) ∙ j.fit_each i lt
          ];
          joined = λ i lt. elim (eqb_tells i p) [
            | inl e ↦
                subst (λ (q : ℕ). AreJoined m work join good (g (at q)) (after_join h c p (at q))) (sym e.1)
                (subst (λ (y : Mem). AreJoined m work join good (g (at p)) y) (sym (join_here h c p)) (joined_more (g (at p)) (h (at p)) w (j.joined p lp) (good_at h j c lc)))
            | inr e ↦ subst (λ (y : Mem). AreJoined m work join good (g (at i)) y) (sym (join_else h c p i lp lt e.1)) (j.joined i lt)
          ];
          kept = λ piece keeps i lt. elim (eqb_tells i p) [
            | inl e ↦
                ap (λ (k : ℕ). m.read (after_join h c p (at k)) piece) e.1
                ∙ (ap (λ (x : Mem). m.read x piece) (join_here h c p)
                ∙ (keeps (h (at p)) w (j.fit_each p lp) (good_at h j c lc) ∙ (j.kept piece keeps p lp ∙ ap (λ (k : ℕ). m.read (g (at k)) piece) (sym e.1))))
            | inr e ↦ ap (λ (x : Mem). m.read x piece) (join_else h c p i lp lt e.1) ∙ j.kept piece keeps i lt
          ];
          rest = λ r out. with_other h (at p) (absorbed m work join (h (at p)) w) r (out p lp) ∙ j.rest r out;
        }

    -- the fold of the values up to k, where the value after it is joined into one of them
    fold_after : (h : ℕ → Mem) (c p k : ℕ) → c < count → k < count → p ≤ k → Joining h → folded op (value_at (after_join h c p)) k ≡ op (folded op (value_at h) k) (value_at h c)
    fold_after h c p k lc lk le j =
        absorbs (value_at h) (value_at (after_join h c p)) (value_at h c) p k (λ i h'. good_at h j i (omega (arith, h'))) (good_at h j c lc) le
        (ap (λ (x : Mem). m.read x own) (join_here h c p) ∙ rule.value (h (at p)) (m.read (h (at c)) own) (j.fit_each p (omega arith)) (good_at h j c lc))
        (λ i li ne. ap (λ (x : Mem). m.read x own) (join_else h c p i (omega arith) (omega (arith, li)) ne))

    pub record Reached (es : List (Event Mem Op Piece Msg)) (f h : ℕ → Mem) (k : ℕ) (total : Msg) : Type 0 where
      pub leads : Leads m n es f h
      pub joining : Joining h
      pub sums : folded op (value_at h) k ≡ total

    one_joins : (es : List (Event Mem Op Piece Msg)) (f h : ℕ → Mem) (p k : ℕ) (total : Msg) → suc k < count → p ≤ k → Reached es f h (suc k) total → Reached (es ++ Move (at (suc k)) (at p) own work ∷ Local (at p) join ∷ []) f (after_join h (suc k) p) k total
    one_joins es f h p k total lt le r =
        record {
          leads = leads_join es f h (suc k) p lt (omega arith) (λ e. omega (arith, e)) r.joining r.leads;
          joining = joining_after h (suc k) p lt (omega arith) r.joining;
          sums = fold_after h (suc k) p k lt (omega arith) le r.joining ∙ r.sums;
        }

    two_join : (es : List (Event Mem Op Piece Msg)) (f h : ℕ → Mem) (p k : ℕ) (total : Msg) → suc (suc k) < count → p ≤ k → Reached es f h (suc (suc k)) total →
        Reached ((es ++ Move (at (suc k)) (at p) own work ∷ Local (at p) join ∷ []) ++ Move (at (suc (suc k))) (at p) own work ∷ Local (at p) join ∷ []) f (after_join (after_join h (suc k) p) (suc (suc k)) p) k total
    two_join es f h p k total lt le r =
        let h1 = after_join h (suc k) p in
        let j1 = joining_after h (suc k) p (omega arith) (omega arith) r.joining in
        let l1 = leads_join es f h (suc k) p (omega arith) (omega arith) (λ e. omega (arith, e)) r.joining r.leads in
        let same : value_at h1 (suc (suc k)) ≡ value_at h (suc (suc k)) = ap (λ (x : Mem). m.read x own) (join_else h (suc k) p (suc (suc k)) (omega arith) lt (λ e. omega (arith, e))) in
        record {
          leads = leads_join (es ++ Move (at (suc k)) (at p) own work ∷ Local (at p) join ∷ []) f h1 (suc (suc k)) p lt (omega arith) (λ e. omega (arith, e)) j1 l1;
          joining = joining_after h1 (suc (suc k)) p lt (omega arith) j1;
          sums = fold_after h1 (suc (suc k)) p k lt (omega arith) le j1 ∙ (ap (op (folded op (value_at h1) k)) same ∙ (ap (λ a. op a (value_at h (suc (suc k)))) (fold_after h (suc k) p k (omega arith) (omega arith) le r.joining) ∙ r.sums));
        }

    reached_as : (es es' : List (Event Mem Op Piece Msg)) (f h : ℕ → Mem) (k k' : ℕ) (total : Msg) → es ≡ es' → k ≡ k' → Reached es f h k total → Reached es' f h k' total
    reached_as es es' f h k k' total e d r = subst (λ (xs : List (Event Mem Op Piece Msg)). Reached xs f h k' total) e (subst (λ (i : ℕ). Reached es f h i total) d r)

    -- the last position that has not been joined, when all from p on have joined theirs
    abbrev last_of : Topology → ℕ → ℕ
    last_of I p = min (count - 1) p
    last_of D p = min (count - 1) p
    last_of T p = min (count - 1) (2 * p)

    chain_joins : (es : List (Event Mem Op Piece Msg)) (f h : ℕ → Mem) (p : ℕ) (total : Msg) → p < count → Reached es f h (min (count - 1) (suc p)) total →
        (h' : ℕ → Mem) × Reached (es ++ join_moves at count own work join p (suc p ∷ [])) f h' (min (count - 1) p) total
    chain_joins es f h p total lt r =
        let pair : List (Event Mem Op Piece Msg) = Move (at (suc p)) (at p) own work ∷ Local (at p) join ∷ [] in
        elim (lt_tells (suc p) count) [
          | inl q ↦
              let moves : join_moves at count own work join p (suc p ∷ []) ≡ pair = ap (λ (b : Bool). (if b then pair else []) ++ []) q.0 in (
                after_join h (suc p) p,
                reached_as (es ++ pair) (es ++ join_moves at count own work join p (suc p ∷ [])) f (after_join h (suc p) p) p (min (count - 1) p) total (ap (λ xs. es ++ xs) (sym moves)) (omega (arith, q.1))
                    (one_joins es f h p p total q.1 (omega arith) (reached_as es es f h (min (count - 1) (suc p)) (suc p) total refl (omega (arith, q.1)) r)),
              )
          | inr q ↦
              let none : join_moves at count own work join p (suc p ∷ []) ≡ [] = ap (λ (b : Bool). (if b then pair else []) ++ []) q.0 in
              (h, reached_as es (es ++ join_moves at count own work join p (suc p ∷ [])) f h (min (count - 1) (suc p)) (min (count - 1) p) total (sym (append-nil es) ∙ ap (λ xs. es ++ xs) (sym none)) (omega (arith, q.1)) r)
        ]

    tree_joins : (es : List (Event Mem Op Piece Msg)) (f h : ℕ → Mem) (p : ℕ) (total : Msg) → p < count → Reached es f h (min (count - 1) (2 * suc p)) total →
        (h' : ℕ → Mem) × Reached (es ++ join_moves at count own work join p (suc (2 * p) ∷ suc (suc (2 * p)) ∷ [])) f h' (min (count - 1) (2 * p)) total
    tree_joins es f h p total lt r =
        let a = suc (2 * p) in
        let b = suc (suc (2 * p)) in
        let left : List (Event Mem Op Piece Msg) = Move (at a) (at p) own work ∷ Local (at p) join ∷ [] in
        let right : List (Event Mem Op Piece Msg) = Move (at b) (at p) own work ∷ Local (at p) join ∷ [] in
        let all : List (Event Mem Op Piece Msg) = join_moves at count own work join p (a ∷ b ∷ []) in
        elim (lt_tells b count) [
          | inl q ↦
              elim (lt_tells a count) [
                | inl s ↦
                    let moves : all ≡ left ++ right = ap (λ (t : Bool). (if t then left else []) ++ ((if ltb b count then right else []) ++ [])) s.0 ∙ ap (λ (t : Bool). left ++ ((if t then right else []) ++ [])) q.0 in
                    let h2 = after_join (after_join h a p) b p in (
                      h2,
                      reached_as ((es ++ left) ++ right) (es ++ all) f h2 (2 * p) (min (count - 1) (2 * p)) total (append_assoc es left right ∙ ap (λ xs. es ++ xs) (sym moves)) (omega (arith, q.1))
                          (two_join es f h p (2 * p) total q.1 (omega arith) (reached_as es es f h (min (count - 1) (2 * suc p)) b total refl (omega (arith, q.1)) r)),
                    )
                | inr s ↦ absurd (omega (arith, q.1, s.1))
              ]
          | inr q ↦
              elim (lt_tells a count) [
                | inl s ↦
                    let moves : all ≡ left = ap (λ (t : Bool). (if t then left else []) ++ ((if ltb b count then right else []) ++ [])) s.0 ∙ ap (λ (t : Bool). left ++ ((if t then right else []) ++ [])) q.0 in (
                      after_join h a p,
                      reached_as (es ++ left) (es ++ all) f (after_join h a p) (2 * p) (min (count - 1) (2 * p)) total (ap (λ xs. es ++ xs) (sym moves)) (omega (arith, s.1))
                          (one_joins es f h p (2 * p) total s.1 (omega arith) (reached_as es es f h (min (count - 1) (2 * suc p)) a total refl (omega (arith, s.1, q.1)) r)),
                    )
                | inr s ↦
                    let none : all ≡ [] = ap (λ (t : Bool). (if t then left else []) ++ ((if ltb b count then right else []) ++ [])) s.0 ∙ ap (λ (t : Bool). (if t then right else []) ++ []) q.0 in
                    (h, reached_as es (es ++ all) f h (min (count - 1) (2 * suc p)) (min (count - 1) (2 * p)) total (sym (append-nil es) ∙ ap (λ xs. es ++ xs) (sym none)) (omega (arith, s.1)) r)
              ]
        ]

    parent_joins : (t : Topology) (es : List (Event Mem Op Piece Msg)) (f h : ℕ → Mem) (p : ℕ) (total : Msg) → p < count → Reached es f h (last_of t (suc p)) total →
        (h' : ℕ → Mem) × Reached (es ++ join_moves at count own work join p (joined_at t p)) f h' (last_of t p) total
    parent_joins I es f h p total lt r = chain_joins es f h p total lt r
    parent_joins D es f h p total lt r = chain_joins es f h p total lt r
    parent_joins T es f h p total lt r = tree_joins es f h p total lt r

    all_join : (t : Topology) (p : ℕ) (es : List (Event Mem Op Piece Msg)) (f h : ℕ → Mem) (total : Msg) → p ≤ count → Reached es f h (last_of t p) total →
        (h' : ℕ → Mem) × Reached (es ++ combine_moves at (joined_at t) count own work join p) f h' (last_of t 0) total
    all_join t zero es f h total le r = (h, reached_as es (es ++ []) f h (last_of t 0) (last_of t 0) total (sym (append-nil es)) refl r)
    all_join t (suc p) es f h total le r =
        let some : List (Event Mem Op Piece Msg) = join_moves at count own work join p (joined_at t p) in
        let one = parent_joins t es f h p total (omega arith) r in
        let more = all_join t p (es ++ some) f one.0 total (omega arith) one.1 in
        (more.0, reached_as ((es ++ some) ++ combine_moves at (joined_at t) count own work join p) (es ++ combine_moves at (joined_at t) count own work join (suc p)) f more.0 (last_of t 0) (last_of t 0) total (append_assoc es some (combine_moves at (joined_at t) count own work join p)) refl more.1)

    last_all : (t : Topology) → count - 1 ≡ last_of t count
    last_all I = omega arith
    last_all D = omega arith
    last_all T = omega arith

    last_none : (t : Topology) → last_of t 0 ≡ 0
    last_none I = omega arith
    last_none D = omega arith
    last_none T = omega arith

    pub combined : (t : Topology) (es : List (Event Mem Op Piece Msg)) (f : ℕ → Mem) → ((i : ℕ) → i < count → fit (g (at i)) ≡ true) → Leads m n es f g →
        (h : ℕ → Mem) × Reached (es ++ combine_moves at (joined_at t) count own work join count) f h 0 (folded op (value_at g) (count - 1))
    combined t es f fits l =
        let start : Joining g = record { fit_each = fits; joined = λ i lt. joined_none (g (at i)); kept = λ piece keeps i lt. refl; rest = λ r out. refl } in
        let total = folded op (value_at g) (count - 1) in
        let first : Reached es f g (count - 1) total = record { leads = l; joining = start; sums = refl } in
        let done = all_join t count es f g total (omega arith) (reached_as es es f g (count - 1) (last_of t count) total refl (last_all t) first) in
        (done.0, reached_as _ _ f done.0 (last_of t 0) 0 total refl (last_none t) done.1)

any_place : (t : Topology) (n root j : ℕ) → root < n → j < n → (i : ℕ) × (i < n) × (place_of t n root i ≡ j)
any_place t n root j lt k =
    elim (eqb_tells j root) [
      | inl e ↦ (0, omega arith, place_first t n root lt ∙ sym e.1)
      | inr e ↦ let o = other_place t n root j lt k e.1 in (o.0, o.2, o.3)
    ]

module _ {Mem Op Piece Msg : Type 0} (m : Memory Mem Op Piece Msg) where
  pub combines : (es es' : List (Event Mem Op Piece Msg)) (member : ℕ → ℕ) (count : ℕ) (t : Topology) (root : ℕ) (own work : Piece) (join : Op) → root < count → AreDistinct member count →
      es' ≡ es ++ combine_moves (rank_at member count t root) (joined_at t) count own work join count → Combines m es es' member count root own work join
  combines es es' member count t root own work join lt apart is op fit good rule n f g l fits =
      let at = rank_at member count t root in
      let within : (i : ℕ) → i < count → at i < n = λ i h. fits.within (place_of t count root i) (place_in t count root i lt h) in
      let differ : (i j : ℕ) → i < count → j < count → i ≢ j → at i ≢ at j = λ i j h k ne. ranks_apart member count t root i j apart lt h k ne in
      let done = combined m own work join op fit good rule at count n g within differ t es f (λ i h. fits.fit_each (place_of t count root i) (place_in t count root i lt h)) l in
      let first : at 0 ≡ member root = ap (member) (place_first t count root lt) in (
        done.0,
        subst (λ (xs : List (Event Mem Op Piece Msg)). Leads m n xs f done.0) (sym is) done.1.leads,
        record {
          total =
              ap (λ (q : ℕ). m.read (done.0 q) own) (sym first)
              ∙ (done.1.sums ∙ fold_places op good rule.stays_good rule.assoc rule.comm t (λ j. m.read (g (member j)) own) count root lt (λ j h. rule.reads_good (g (member j)) (fits.fit_each j h)));
          fit_each = λ j h.
              let i = any_place t count root j lt h in
              ap (λ (q : ℕ). fit (done.0 q)) (sym (ap (member) i.2)) ∙ done.1.joining.fit_each i.0 i.1;
          joined = λ j h.
              let i = any_place t count root j lt h in
              subst (λ (q : ℕ). AreJoined m work join good (g q) (done.0 q)) (ap (member) i.2) (done.1.joining.joined i.0 i.1);
          kept = λ piece keeps j h.
              let i = any_place t count root j lt h in
              let e : at i.0 ≡ member j = ap member i.2 in
              ap (λ (q : ℕ). m.read (done.0 q) piece) (sym e) ∙ (done.1.joining.kept piece keeps i.0 i.1 ∙ ap (λ (q : ℕ). m.read (g q) piece) e);
          rest = λ r out. done.1.joining.rest r (λ i h. out (place_of t count root i) (place_in t count root i lt h));
        },
      )

module _ {Mem Op Piece Msg : Type 0} where
  pub combine_goes_on : (at : ℕ → ℕ) (from : ℕ → List ℕ) (n : ℕ) (own work : Piece) (join : Op) (es es' all : List (Event Mem Op Piece Msg)) (parent k : ℕ) → 0 < parent → k ≡ parent - 1 →
      es ++ combine_moves at from n own work join parent ≡ all → es' ≡ es ++ join_moves at n own work join k (from k) → es' ++ combine_moves at from n own work join k ≡ all
  combine_goes_on at from n own work join es es' all zero k lo e old is = absurd (omega arith)
  combine_goes_on at from n own work join es es' all (suc p) k lo e old is =
      let same : k ≡ p = omega arith in
      subst (λ (i : ℕ). es' ++ combine_moves at from n own work join i ≡ all) (sym same)
      (ap (λ xs. xs ++ combine_moves at from n own work join p) (is ∙ ap (λ (i : ℕ). es ++ join_moves at n own work join i (from i)) same)
      ∙ (append_assoc es (join_moves at n own work join p (from p)) (combine_moves at from n own work join p) ∙ old))
