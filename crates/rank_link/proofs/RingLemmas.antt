-- What the rings of the links show of the messages.
use Rattle.std.proofs.Common.{◌≡◌, ℕ, ◌+◌, ◌*◌, ◌<◌, ◌≤◌, List, [], ◌∷◌, ◌++◌, length, get_or, set, replicate, take, zero, suc, map, refl, sym, ◌∙◌, ap, subst, arith, Result, Ok, Err, OnOk, IfErr, Option, IsSome, IfNone, slice_get, drop, rules, ◌↔◌}
use Rattle.std.proofs.lemmas.List.{length-map, length-replicate, map-set, map-append, get_or-replicate, get_or-map, replicate_more, take_more_set, set-get_or}
use Rattle.std.proofs.Math.Seq.{map-set_same}
use Rattle.std.proofs.lemmas.Nat.{mul-add-lt}
use Rattle.circular_buffer.specs.Buffer.{Buffer, buffer}
use Rattle.rank_link.specs.Traffic.{Traffic, traffic, empty_traffic, messages, with_messages}
use Rattle.rank_link.specs.Rings.{traffic_of, AreRings}

map_replicate : {X Y : Type 0} (f : X → Y) (n : ℕ) (x : X) → map f (replicate n x) ≡ replicate n (f x)
map_replicate f zero x = refl
map_replicate f (suc n) x = ap (λ l. f x ∷ l) (map_replicate f n x)

module _ {M : Type 0} where
  -- a fact about the empty list, where the list has no first item
  when_empty : (l : List M) (P : Type 0) → (l ≡ [] → P) → IfNone (slice_get l 0) P
  when_empty [] P h = h refl
  when_empty (x ∷ xs) P h = search rules

  pub length_rings : (n c : ℕ) (rs : List (Buffer M)) → AreRings n c rs → length rs ≡ n * n
  length_rings n c rs h = sym (length-map rs (λ b. b.capacity)) ∙ ap length h.capacities ∙ length-replicate (n * n) c

  -- the place of a link is that of a ring
  pub place_within : (n c : ℕ) (rs : List (Buffer M)) (from to : ℕ) → AreRings n c rs → from < n → to < n → from * n + to < length rs
  place_within n c rs from to h p q = omega (arith, length_rings n c rs h, mul-add-lt from n to n p q)

  -- a ring in its place has the links' capacity
  pub capacity_at : (n c : ℕ) (rs : List (Buffer M)) (i : ℕ) (b : Buffer M) → AreRings n c rs → i < length rs → b ≡ get_or rs i b → b.capacity ≡ c
  capacity_at n c rs i b h lt is =
      let inside : i < n * n = omega (arith, length_rings n c rs h) in
      ap (λ (x : Buffer M). x.capacity) is ∙ sym (get_or-map (λ (x : Buffer M). x.capacity) rs i b c lt) ∙ ap (λ xs. get_or xs i c) h.capacities ∙ get_or-replicate (n * n) i c c inside

  -- its items are the messages
  pub items_at : (rs : List (Buffer M)) (i : ℕ) (b : Buffer M) → i < length rs → b ≡ get_or rs i b → get_or (map (λ (x : Buffer M). x.items) rs) i [] ≡ b.items
  items_at rs i b lt is = get_or-map (λ (x : Buffer M). x.items) rs i b [] lt ∙ sym (ap (λ (x : Buffer M). x.items) is)

  -- a ring of the same capacity in its place
  pub rings_after : (n c : ℕ) (rs : List (Buffer M)) (i : ℕ) (b e : Buffer M) → AreRings n c rs → b ≡ get_or rs i b → e.capacity ≡ b.capacity → AreRings n c (set rs i e)
  rings_after n c rs i b e h is same =
      record {
        few = h.few;
        some = h.some;
        most = h.most;
        capacities = map-set_same (λ (x : Buffer M). x.capacity) rs i e b (same ∙ ap (λ (x : Buffer M). x.capacity) is) ∙ h.capacities;
      }

  -- what the links show before a call on one ring, and after it
  pub messages_at : (n c : ℕ) (rs : List (Buffer M)) (v : Traffic M) (from to : ℕ) (b : Buffer M) → traffic_of n c rs ≡ v → from * n + to < length rs → b ≡ get_or rs (from * n + to) b → messages v from to ≡ b.items
  messages_at n c rs v from to b e lt is = subst (λ (w : Traffic M). messages w from to ≡ b.items) e (items_at rs (from * n + to) b lt is)

  pub view_after : (n c : ℕ) (rs : List (Buffer M)) (v : Traffic M) (from to : ℕ) (e : Buffer M) (ms : List M) → traffic_of n c rs ≡ v → e.items ≡ ms → traffic_of n c (set rs (from * n + to) e) ≡ with_messages v from to ms
  view_after n c rs v from to e ms is items =
      subst (λ (w : Traffic M). traffic_of n c (set rs (from * n + to) e) ≡ with_messages w from to ms) is
      (ap (traffic n c) (map-set (λ (x : Buffer M). x.items) rs (from * n + to) e ∙ ap (set (map (λ (x : Buffer M). x.items) rs) (from * n + to)) items))

  -- what a send that may be refused leaves of a ring
  pub sent_capacity : (r : Result (Unit {0}) M) (b e : Buffer M) (msg : M) → OnOk r (e ≡ buffer (b.items ++ msg ∷ []) b.capacity) → IfErr r (λ x. (x ≡ msg) × (e ≡ b)) → e.capacity ≡ b.capacity
  sent_capacity (Ok u) b e msg ok err = ap (λ (x : Buffer M). x.capacity) ok
  sent_capacity (Err x) b e msg ok err = ap (λ (x : Buffer M). x.capacity) err.1

  -- the rings up to i are empty, and the ring at i was cleared
  pub cleared : (rs : List (Buffer M)) (i : ℕ) (b e : Buffer M) → i < length rs → e ≡ buffer [] b.capacity → map (λ (x : Buffer M). x.items) (take i rs) ≡ replicate i [] → map (λ (x : Buffer M). x.items) (take (i + 1) (set rs i e)) ≡ replicate (i + 1) []
  cleared rs i b e lt is h =
      ap (map (λ (x : Buffer M). x.items)) (take_more_set rs i e lt) ∙ map-append (λ (x : Buffer M). x.items) (take i rs) (e ∷ [])
      ∙ ap (λ xs. xs ++ e.items ∷ []) h ∙ ap (λ (x : Buffer M). replicate i [] ++ x.items ∷ []) is ∙ replicate_more i []

  pub new_rings : (n c : ℕ) (rs : List (Buffer M)) → n ≤ 64 → 1 ≤ c → c ≤ 64 → rs ≡ replicate (n * n) (buffer [] c) → AreRings n c rs
  new_rings n c rs few some most is =
      record {
        few = few;
        some = some;
        most = most;
        capacities = ap (map (λ (x : Buffer M). x.capacity)) is ∙ map_replicate (λ (x : Buffer M). x.capacity) (n * n) (buffer [] c);
      }

  pub new_view : (n c : ℕ) (rs : List (Buffer M)) → rs ≡ replicate (n * n) (buffer [] c) → traffic_of n c rs ≡ empty_traffic n c
  new_view n c rs is = ap (traffic n c) (ap (map (λ (x : Buffer M). x.items)) is ∙ map_replicate (λ (x : Buffer M). x.items) (n * n) (buffer [] c))

  some_first : (l : List M) → IsSome (slice_get l 0) ↔ (0 < length l)
  some_first [] = ((λ h. absurd (search rules)), (λ h. absurd (omega arith)))
  some_first (x ∷ xs) = ((λ h. omega arith), (λ h. search rules))

  -- there is a first message where the list is not empty
  pub first_there : (l : List M) (o : Option M) → o ≡ slice_get l 0 → IsSome o ↔ (0 < length l)
  first_there l o is = subst (λ (p : Option M). IsSome p ↔ (0 < length l)) (sym is) (some_first l)

  -- taking the first message of an empty link away changes nothing
  pub same_when_empty : (v w : Traffic M) (from to : ℕ) (o : Option M) → o ≡ slice_get (messages v from to) 0 → w ≡ with_messages v from to (drop 1 (messages v from to)) → IfNone o (w ≡ v)
  same_when_empty v w from to o is rest =
      subst (λ (p : Option M). IfNone p (w ≡ v)) (sym is)
      (when_empty (messages v from to) (w ≡ v)
      (λ none. rest ∙ ap (λ l. with_messages v from to (drop 1 l)) none ∙ ap (with_messages v from to) (sym none) ∙ ap (traffic v.ranks v.capacity) (set-get_or v.lists (from * v.ranks + to) [])))
