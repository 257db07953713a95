-- Positions among the members of a scope.
use Rattle.std.proofs.Common.{◌≡◌, ◌≢◌, ℕ, zero, suc, ◌+◌, ◌-◌, ◌*◌, ◌%◌, ◌<◌, ◌≤◌, ◌==◌, ◌||◌, ◌&&◌, ◌⊎◌, not, refl, sym, ◌∙◌, ap, inl, inr, true, false, Bool, arith}
use Rattle.std.proofs.lemmas.Bool.Decides.{eqb_tells}
use Rattle.std.proofs.lemmas.Nat.{mod-mul-add}
use Rattle.blacs_comm.specs.declared.topology.Topology.{Topology}
use Rattle.blacs_comm.specs.declared.topology.Topology.TheVariants.{I, D, T}
use Rattle.blacs_comm.specs.Moves.{is_other}
use Rattle.blacs_comm.specs.Positions.{place_of, sender_of, rank_at, AreDistinct}

wrap_small : (x n : ℕ) → x < n → x % n ≡ x
wrap_small x n lt =
    let e : 0 * n + x ≡ x = omega arith in
    ap (λ y. y % n) (sym e) ∙ mod-mul-add 0 n x lt

wrap_big : (x n : ℕ) → n ≤ x → x < n + n → x % n ≡ x - n
wrap_big x n le lt =
    let e : 1 * n + (x - n) ≡ x = omega arith in
    ap (λ y. y % n) (sym e) ∙ mod-mul-add 1 n (x - n) (omega arith)

lt_or_le : (a b : ℕ) → (a < b) ⊎ (b ≤ a)
lt_or_le a b = grind arith

-- a number below twice n, modulo n
pub wrap : (x n : ℕ) → x < n + n → ((x < n) × (x % n ≡ x)) ⊎ ((n ≤ x) × (x % n ≡ x - n))
wrap x n lt = elim (lt_or_le x n) [ inl h ↦ inl (h, wrap_small x n h) | inr h ↦ inr (h, wrap_big x n h lt) ]

pub place_first : (t : Topology) (n root : ℕ) → root < n → place_of t n root 0 ≡ root
place_first I n root lt = wrap_small (root + 0) n (omega arith) ∙ omega arith
place_first D n root lt = wrap_big (root + (n - 0)) n (omega arith) (omega arith) ∙ omega arith
place_first T n root lt = wrap_small (root + 0) n (omega arith) ∙ omega arith

-- a place is the root's number and the position, or less the position, wrapped once at most
forward : (n root i : ℕ) → root < n → i < n → ((root + i) % n ≡ root + i) × (root + i < n) ⊎ ((root + i) % n + n ≡ root + i) × (n ≤ root + i)
forward n root i lt k = elim (wrap (root + i) n (omega arith)) [ inl h ↦ inl (h.1, h.0) | inr h ↦ inr (omega (arith, h.0, h.1), h.0) ]

backward : (n root i : ℕ) → root < n → i < n → ((root + (n - i)) % n + i ≡ root) ⊎ ((root + (n - i)) % n + i ≡ root + n) × (root < i)
backward n root i lt k = elim (wrap (root + (n - i)) n (omega arith)) [ inl h ↦ inr (omega (arith, h.0, h.1), omega (arith, h.0)) | inr h ↦ inl (omega (arith, h.0, h.1)) ]

forward_in : (n root i : ℕ) → root < n → i < n → (root + i) % n < n
forward_in n root i lt k = elim (forward n root i lt k) [ inl h ↦ omega (arith, h.0, h.1) | inr h ↦ omega (arith, h.0, h.1) ]

backward_in : (n root i : ℕ) → root < n → i < n → (root + (n - i)) % n < n
backward_in n root i lt k = elim (backward n root i lt k) [ inl h ↦ omega (arith, h) | inr h ↦ omega (arith, h.0, h.1) ]

pub place_in : (t : Topology) (n root i : ℕ) → root < n → i < n → place_of t n root i < n
place_in I n root i lt k = forward_in n root i lt k
place_in D n root i lt k = backward_in n root i lt k
place_in T n root i lt k = forward_in n root i lt k

forward_apart : (n root i j : ℕ) → root < n → i < n → j < n → (root + i) % n ≡ (root + j) % n → i ≡ j
forward_apart n root i j lt h k e =
    elim (forward n root i lt h) [
      | inl p ↦ elim (forward n root j lt k) [ inl q ↦ omega (arith, p.0, q.0, e) | inr q ↦ omega (arith, p.0, p.1, q.0, e) ]
      | inr p ↦ elim (forward n root j lt k) [ inl q ↦ omega (arith, p.0, q.0, q.1, e) | inr q ↦ omega (arith, p.0, q.0, e) ]
    ]

backward_apart : (n root i j : ℕ) → root < n → i < n → j < n → (root + (n - i)) % n ≡ (root + (n - j)) % n → i ≡ j
backward_apart n root i j lt h k e =
    elim (backward n root i lt h) [
      | inl p ↦ elim (backward n root j lt k) [ inl q ↦ omega (arith, p, q, e) | inr q ↦ omega (arith, p, q.0, q.1, e) ]
      | inr p ↦ elim (backward n root j lt k) [ inl q ↦ omega (arith, p.0, p.1, q, e) | inr q ↦ omega (arith, p.0, q.0, e) ]
    ]

pub place_apart : (t : Topology) (n root i j : ℕ) → root < n → i < n → j < n → i ≢ j → place_of t n root i ≢ place_of t n root j
place_apart I n root i j lt h k ne = λ e. ne (forward_apart n root i j lt h k e)
place_apart D n root i j lt h k ne = λ e. ne (backward_apart n root i j lt h k e)
place_apart T n root i j lt h k ne = λ e. ne (forward_apart n root i j lt h k e)

pub place_not_root : (t : Topology) (n root i : ℕ) → root < n → 1 ≤ i → i < n → place_of t n root i ≢ root
place_not_root t n root i lt lo hi = λ e. place_apart t n root i 0 lt hi (omega arith) (λ z. omega (arith, z)) (e ∙ sym (place_first t n root lt))

forward_other : (n root j : ℕ) → root < n → j < n → j ≢ root → (i : ℕ) × (1 ≤ i) × (i < n) × ((root + i) % n ≡ j)
forward_other n root j lt k ne =
    elim (lt_or_le root j) [
      | inl h ↦ (j - root, omega arith, omega arith, elim (forward n root (j - root) lt (omega arith)) [ inl p ↦ omega (arith, p.0) | inr p ↦ omega (arith, p.0, p.1) ])
      | inr h ↦
          let less : j < root = omega arith in
          (n + j - root, omega arith, omega arith, elim (forward n root (n + j - root) lt (omega arith)) [ inl p ↦ omega (arith, p.0, p.1) | inr p ↦ omega (arith, p.0) ])
    ]

backward_other : (n root j : ℕ) → root < n → j < n → j ≢ root → (i : ℕ) × (1 ≤ i) × (i < n) × ((root + (n - i)) % n ≡ j)
backward_other n root j lt k ne =
    elim (lt_or_le root j) [
      | inl h ↦ (n + root - j, omega arith, omega arith, elim (backward n root (n + root - j) lt (omega arith)) [ inl p ↦ omega (arith, p, backward_in n root (n + root - j) lt (omega arith)) | inr p ↦ omega (arith, p.0) ])
      | inr h ↦
          let less : j < root = omega arith in
          (root - j, omega arith, omega arith, elim (backward n root (root - j) lt (omega arith)) [ inl p ↦ omega (arith, p) | inr p ↦ omega (arith, p.0, p.1) ])
    ]

-- each member but the root is at a position from 1 on
pub other_place : (t : Topology) (n root j : ℕ) → root < n → j < n → j ≢ root → (i : ℕ) × (1 ≤ i) × (i < n) × (place_of t n root i ≡ j)
other_place I n root j lt k ne = forward_other n root j lt k ne
other_place D n root j lt k ne = backward_other n root j lt k ne
other_place T n root j lt k ne = forward_other n root j lt k ne

pub sender_below : (t : Topology) (i : ℕ) → 1 ≤ i → sender_of t i < i
sender_below I i lo = omega arith
sender_below D i lo = omega arith
sender_below T i lo = omega arith

pub members_apart : (member : ℕ → ℕ) (count : ℕ) (i j : ℕ) → AreDistinct member count → i < count → j < count → i ≢ j → member i ≢ member j
members_apart member count i j apart h k ne =
    elim (lt_or_le i j) [ inl lt ↦ apart i j lt k | inr le ↦ λ e. apart j i (omega arith) h (sym e) ]

pub ranks_apart : (member : ℕ → ℕ) (count : ℕ) (t : Topology) (root i j : ℕ) → AreDistinct member count → root < count → i < count → j < count → i ≢ j → rank_at member count t root i ≢ rank_at member count t root j
ranks_apart member count t root i j apart lt h k ne =
    members_apart member count (place_of t count root i) (place_of t count root j) apart (place_in t count root i lt h) (place_in t count root j lt k) (place_apart t count root i j lt h k ne)

pub other_tells : (member : ℕ → ℕ) (root n r : ℕ) → ((is_other member root n r ≡ true) × (j : ℕ) × (j < n) × (j ≢ root) × (member j ≡ r)) ⊎ ((is_other member root n r ≡ false) × ((j : ℕ) → j < n → j ≢ root → member j ≢ r))
other_tells member root zero r = inr (refl, λ j lt. absurd (omega arith))
other_tells member root (suc n) r =
    elim (eqb_tells n root) [
      | inl p ↦
          elim (other_tells member root n r) [
            | inl q ↦ inl (ap (λ (t : Bool). (not t && member n == r) || is_other member root n r) p.0 ∙ q.0, q.1, omega (arith, q.2), q.3, q.4)
            | inr q ↦
                inr (ap (λ (t : Bool). (not t && member n == r) || is_other member root n r) p.0 ∙ q.0, λ j lt ne. elim (last j n lt) [ inl e ↦ absurd (ne (e ∙ p.1)) | inr h ↦ q.1 j h ne ])
          ]
      | inr p ↦
          elim (eqb_tells (member n) r) [
            | inl s ↦
                inl (ap (λ (t : Bool). (not t && member n == r) || is_other member root n r) p.0 ∙ ap (λ (t : Bool). t || is_other member root n r) s.0, n, omega arith, p.1, s.1)
            | inr s ↦
                let out : is_other member root (suc n) r ≡ is_other member root n r =
                ap (λ (t : Bool). (not t && member n == r) || is_other member root n r) p.0 ∙ ap (λ (t : Bool). t || is_other member root n r) s.0 in
                elim (other_tells member root n r) [
                  | inl q ↦ inl (out ∙ q.0, q.1, omega (arith, q.2), q.3, q.4)
                  | inr q ↦ inr (out ∙ q.0, λ j lt ne. elim (last j n lt) [ inl e ↦ λ h. s.1 (ap (member) (sym e) ∙ h) | inr h ↦ q.1 j h ne ])
                ]
          ]
    ]
  where
    last : (j n : ℕ) → j < suc n → (j ≡ n) ⊎ (j < n)
    last j n h = grind arith
