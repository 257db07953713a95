-- A round under way, cut in two at a place in list order: a rank that is before the cut comes to what the first events give it.
use Rattle.std.proofs.Common.{◌≡◌, ◌≢◌, ℕ, ◌+◌, ◌<◌, ◌==◌, ◌⊎◌, Bool, true, false, List, [], ◌∷◌, ◌++◌, length, drop, slice_get, refl, sym, ◌∙◌, ap, subst, inl, inr, arith, if◌then◌else◌}
use Rattle.std.proofs.lemmas.Bool.Decides.{eqb_tells}
use Rattle.std.proofs.lemmas.List.{append_assoc, length-append, nil_from_length}
use Rattle.rank_run.specs.declared.round.Event.{Event}
use Rattle.rank_run.specs.Memory.{Memory}
use Rattle.rank_run.specs.Action.{Action}
use Rattle.rank_run.specs.Rounds.{on_rank, after_events}
use Rattle.rank_run.specs.Schedule.{own}
use Rattle.rank_run.proofs.Ranks.{get-on_rank_other, if_other, append_nil_left, append_nil_right}
use Rattle.rank_run.proofs.Items.{Item, own_item, own_items, own_items-append}
use Rattle.rank_run.proofs.Plans.{todo_after}
use Rattle.rank_run.proofs.Rest.{after_items, get-after_items, after_items-on_rank}

module _ {X : Type 0} where
  -- where a list is cut, an element of it is in the first part or in the second
  pub record InFirst (pre : List X) (x : X) (post ys zs : List X) : Type 0 where
    pub between : List X
    pub first : ys ≡ pre ++ x ∷ between
    pub second : post ≡ between ++ zs

  pub record InSecond (pre : List X) (x : X) (post ys zs : List X) : Type 0 where
    pub between : List X
    pub first : pre ≡ ys ++ between
    pub second : zs ≡ between ++ x ∷ post

  in_first_past : (y : X) (pre : List X) (x : X) (post ys zs : List X) → InFirst pre x post ys zs → InFirst (y ∷ pre) x post (y ∷ ys) zs
  in_first_past y pre x post ys zs h = record { between = h.between; first = ap (λ l. y ∷ l) h.first; second = h.second }

  in_second_past : (y : X) (pre : List X) (x : X) (post ys zs : List X) → InSecond pre x post ys zs → InSecond (y ∷ pre) x post (y ∷ ys) zs
  in_second_past y pre x post ys zs h = record { between = h.between; first = ap (λ l. y ∷ l) h.first; second = h.second }

  pub part_of : (pre : List X) (x : X) (post ys zs : List X) → pre ++ x ∷ post ≡ ys ++ zs → InFirst pre x post ys zs ⊎ InSecond pre x post ys zs
  part_of pre x post [] zs h = inr (record { between = pre; first = refl; second = sym h })
  part_of [] x post (y ∷ ys) zs h =
      let here : x ≡ y = cc in
      let rest : post ≡ ys ++ zs = cc in
      inl (record { between = ys; first = ap (λ v. v ∷ ys) (sym here); second = rest })
  part_of (z ∷ pre) x post (y ∷ ys) zs h =
      let here : z ≡ y = cc in
      let rest : pre ++ x ∷ post ≡ ys ++ zs = cc in
      elim (part_of pre x post ys zs rest) [
        | inl p ↦ inl (subst (λ v. InFirst (v ∷ pre) x post (y ∷ ys) zs) (sym here) (in_first_past y pre x post ys zs p))
        | inr p ↦ inr (subst (λ v. InSecond (v ∷ pre) x post (y ∷ ys) zs) (sym here) (in_second_past y pre x post ys zs p))
      ]

  less_of_none : (b : Bool) (l : List X) → l ≡ [] → (if b then drop 1 l else l) ≡ []
  less_of_none true l h = ap (drop 1) h
  less_of_none false l h = h

module _ {Mem Op Piece Msg : Type 0} (m : Memory Mem Op Piece Msg) where
  -- a rank that has done nothing of the later events gets of what is left of the first ones what list order gives it
  pub record IsBefore (mems0 : List Mem) (first later : List (Event Mem Op Piece Msg)) (mems : List Mem) (ys zs : List (Item Mem Op Piece Msg Msg)) (r : ℕ) : Type 0 where
    pub all : own_items r zs ≡ own r later
    pub gets : slice_get (after_items m mems ys) r ≡ slice_get (after_events m mems0 first) r

  -- a rank that has done some of the later events has done all of the first ones
  pub record IsPast (later : List (Event Mem Op Piece Msg)) (ys zs : List (Item Mem Op Piece Msg Msg)) (r : ℕ) : Type 0 where
    pub done : own_items r ys ≡ []
    pub fewer : length (own_items r zs) < length (own r later)

  -- what is left of the first events, and what of the later ones
  pub record Cut (mems0 : List Mem) (first later : List (Event Mem Op Piece Msg)) (mems : List Mem) (xs : List (Item Mem Op Piece Msg Msg)) : Type 0 where
    pub ys : List (Item Mem Op Piece Msg Msg)
    pub zs : List (Item Mem Op Piece Msg Msg)
    pub is : xs ≡ ys ++ zs
    pub each : (r : ℕ) → IsBefore mems0 first later mems ys zs r ⊎ IsPast later ys zs r

  -- a rank takes its step t of the item x, for which the items `new` come; before it there are the items pre
  pub record IsStep (q : ℕ) (t : Action Op Piece) (pre : List (Item Mem Op Piece Msg Msg)) (x : Item Mem Op Piece Msg Msg) (new : List (Item Mem Op Piece Msg Msg)) (mems mems' : List Mem) : Type 0 where
    pub quiet : own_items q pre ≡ []
    pub here : own_item q x ≡ t ∷ []
    pub none : own_items q new ≡ []
    pub others : (r : ℕ) → q ≢ r → own_item r x ≡ own_items r new
    pub meaning : (post : List (Item Mem Op Piece Msg Msg)) → after_items m mems' (pre ++ (new ++ post)) ≡ after_items m mems (pre ++ x ∷ post)
    pub apart : (ys : List (Item Mem Op Piece Msg Msg)) → own_items q ys ≡ [] → (r : ℕ) → q ≢ r → slice_get (after_items m mems' ys) r ≡ slice_get (after_items m mems ys) r

  -- a change of one memory is none for the other ranks, past items without a part of its rank
  pub get-on_rank_past : (mems : List Mem) (q : ℕ) (g : Mem → Mem) (ys : List (Item Mem Op Piece Msg Msg)) → own_items q ys ≡ [] → (r : ℕ) → q ≢ r → slice_get (after_items m (on_rank mems q g) ys) r ≡ slice_get (after_items m mems ys) r
  get-on_rank_past mems q g ys quiet r ne =
      ap (λ l. slice_get l r) (after_items-on_rank m mems q g ys quiet) ∙ get-on_rank_other (after_items m mems ys) q r g (λ e. ne (sym e))

  -- the parts of a rank that has one more or less
  module _ (mems0 : List Mem) (first later : List (Event Mem Op Piece Msg)) (q : ℕ) (t : Action Op Piece) (pre : List (Item Mem Op Piece Msg Msg)) (x : Item Mem Op Piece Msg Msg) (new : List (Item Mem Op Piece Msg Msg)) (mems mems' : List Mem) (h : IsStep q t pre x new mems mems') where
    own_after : (ps qs : List (Item Mem Op Piece Msg Msg)) → own_items q ps ≡ [] → (r : ℕ) → (if q == r then drop 1 (own_items r (ps ++ x ∷ qs)) else own_items r (ps ++ x ∷ qs)) ≡ own_items r (ps ++ (new ++ qs))
    own_after ps qs quiet = todo_after q t ps x new qs quiet h.here h.none h.others

    own_other : (ps qs : List (Item Mem Op Piece Msg Msg)) → own_items q ps ≡ [] → (r : ℕ) → q ≢ r → own_items r (ps ++ (new ++ qs)) ≡ own_items r (ps ++ x ∷ qs)
    own_other ps qs quiet r ne = sym (own_after ps qs quiet r) ∙ if_other q r (drop 1 (own_items r (ps ++ x ∷ qs))) (own_items r (ps ++ x ∷ qs)) ne

    -- the step is one of the first events
    each_in_first : (between zs : List (Item Mem Op Piece Msg Msg)) (r : ℕ) → IsBefore mems0 first later mems (pre ++ x ∷ between) zs r ⊎ IsPast later (pre ++ x ∷ between) zs r → IsBefore mems0 first later mems' (pre ++ (new ++ between)) zs r ⊎ IsPast later (pre ++ (new ++ between)) zs r
    each_in_first between zs r (inl k) = inl (record { all = k.all; gets = ap (λ l. slice_get l r) (h.meaning between) ∙ k.gets })
    each_in_first between zs r (inr k) = inr (record { done = sym (own_after pre between h.quiet r) ∙ less_of_none (q == r) (own_items r (pre ++ x ∷ between)) k.done; fewer = k.fewer })

    -- or one of the later ones
    own_there : (ps qs : List (Item Mem Op Piece Msg Msg)) → own_items q ps ≡ [] → own_items q (ps ++ x ∷ qs) ≡ t ∷ own_items q qs
    own_there ps qs quiet = own_items-append q ps (x ∷ qs) ∙ ap (λ l. l ++ (own_item q x ++ own_items q qs)) quiet ∙ ap (λ l. l ++ own_items q qs) h.here

    own_then : (ps qs : List (Item Mem Op Piece Msg Msg)) → own_items q ps ≡ [] → own_items q (ps ++ (new ++ qs)) ≡ own_items q qs
    own_then ps qs quiet =
        own_items-append q ps (new ++ qs) ∙ ap (λ l. l ++ own_items q (new ++ qs)) quiet ∙ own_items-append q new qs ∙ ap (λ l. l ++ own_items q qs) h.none

    past_now : (ys between post : List (Item Mem Op Piece Msg Msg)) → own_items q ys ≡ [] → own_items q between ≡ [] → IsBefore mems0 first later mems ys (between ++ x ∷ post) q ⊎ IsPast later ys (between ++ x ∷ post) q → IsPast later ys (between ++ (new ++ post)) q
    past_now ys between post quiet still (inl k) = record { done = quiet; fewer = omega (arith, ap length (own_then between post still), ap length (own_there between post still), ap length k.all) }
    past_now ys between post quiet still (inr k) = record { done = quiet; fewer = omega (arith, ap length (own_then between post still), ap length (own_there between post still), k.fewer) }

    as_before : (ys between post : List (Item Mem Op Piece Msg Msg)) (r : ℕ) → own_items q ys ≡ [] → own_items q between ≡ [] → q ≢ r → IsBefore mems0 first later mems ys (between ++ x ∷ post) r ⊎ IsPast later ys (between ++ x ∷ post) r → IsBefore mems0 first later mems' ys (between ++ (new ++ post)) r ⊎ IsPast later ys (between ++ (new ++ post)) r
    as_before ys between post r quiet still ne (inl k) = inl (record { all = own_other between post still r ne ∙ k.all; gets = h.apart ys quiet r ne ∙ k.gets })
    as_before ys between post r quiet still ne (inr k) = inr (record { done = k.done; fewer = subst (λ l. length l < length (own r later)) (sym (own_other between post still r ne)) k.fewer })

    each_in_second : (ys between post : List (Item Mem Op Piece Msg Msg)) → own_items q ys ≡ [] → own_items q between ≡ [] → (r : ℕ) → IsBefore mems0 first later mems ys (between ++ x ∷ post) r ⊎ IsPast later ys (between ++ x ∷ post) r → IsBefore mems0 first later mems' ys (between ++ (new ++ post)) r ⊎ IsPast later ys (between ++ (new ++ post)) r
    each_in_second ys between post quiet still r k =
        elim (eqb_tells q r) [
          | inl e ↦
              inr (subst (λ v. IsPast later ys (between ++ (new ++ post)) v) e.1
              (past_now ys between post quiet still (subst (λ v. IsBefore mems0 first later mems ys (between ++ x ∷ post) v ⊎ IsPast later ys (between ++ x ∷ post) v) (sym e.1) k)))
          | inr e ↦ as_before ys between post r quiet still e.1 k
        ]

    cut_in_first : (post ys zs : List (Item Mem Op Piece Msg Msg)) → ((r : ℕ) → IsBefore mems0 first later mems ys zs r ⊎ IsPast later ys zs r) → InFirst pre x post ys zs → Cut mems0 first later mems' (pre ++ (new ++ post))
    cut_in_first post ys zs each p =
        record {
          ys = pre ++ (new ++ p.between);
          zs = zs;
          is = ap (λ l. pre ++ (new ++ l)) p.second ∙ sym (ap (λ l. pre ++ l) (append_assoc new p.between zs)) ∙ sym (append_assoc pre (new ++ p.between) zs);
          each = λ r. each_in_first p.between zs r (subst (λ l. IsBefore mems0 first later mems l zs r ⊎ IsPast later l zs r) p.first (each r));
        }

    cut_in_second : (post ys zs : List (Item Mem Op Piece Msg Msg)) → ((r : ℕ) → IsBefore mems0 first later mems ys zs r ⊎ IsPast later ys zs r) → InSecond pre x post ys zs → Cut mems0 first later mems' (pre ++ (new ++ post))
    cut_in_second post ys zs each p =
        let both : own_items q ys ++ own_items q p.between ≡ [] = sym (own_items-append q ys p.between) ∙ ap (own_items q) (sym p.first) ∙ h.quiet in
        let quiet : own_items q ys ≡ [] = append_nil_left (own_items q ys) (own_items q p.between) both in
        let still : own_items q p.between ≡ [] = append_nil_right (own_items q ys) (own_items q p.between) both in
        record {
          ys = ys;
          zs = p.between ++ (new ++ post);
          is = ap (λ l. l ++ (new ++ post)) p.first ∙ append_assoc ys p.between (new ++ post);
          each = λ r. each_in_second ys p.between post quiet still r (subst (λ l. IsBefore mems0 first later mems ys l r ⊎ IsPast later ys l r) p.second (each r));
        }

    -- a step keeps the cut
    pub cut_after : (post : List (Item Mem Op Piece Msg Msg)) → Cut mems0 first later mems (pre ++ x ∷ post) → Cut mems0 first later mems' (pre ++ (new ++ post))
    cut_after post c =
        elim (part_of pre x post c.ys c.zs c.is) [ inl p ↦ cut_in_first post c.ys c.zs c.each p | inr p ↦ cut_in_second post c.ys c.zs c.each p ]

  -- a rank that has all of the later events left, and none of the first ones, holds what these give it
  pub held_at_cut : (mems0 : List Mem) (first later : List (Event Mem Op Piece Msg)) (mems : List Mem) (xs : List (Item Mem Op Piece Msg Msg)) (r : ℕ) → Cut mems0 first later mems xs → own r later ≡ own_items r xs → slice_get mems r ≡ slice_get (after_events m mems0 first) r
  held_at_cut mems0 first later mems xs r c own_is =
      let parts : length (own r later) ≡ length (own_items r c.ys) + length (own_items r c.zs) =
      ap length (own_is ∙ ap (own_items r) c.is ∙ own_items-append r c.ys c.zs) ∙ length-append (own_items r c.ys) (own_items r c.zs) in
      elim (c.each r) [
        | inl k ↦
            let none : own_items r c.ys ≡ [] = nil_from_length (own_items r c.ys) (omega (arith, parts, ap length k.all)) in
            sym (get-after_items m mems r c.ys none) ∙ k.gets
        | inr k ↦ absurd (omega (arith, parts, ap length k.done, k.fewer))
      ]
