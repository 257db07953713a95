-- Factors and paths that a line allows.
use Rattle.std.proofs.Common.{◌≡◌, ◌≢◌, ◌+◌, ◌-◌, ◌%◌, ◌<◌, ◌≤◌, ◌==◌, ◌&&◌, ◌||◌, ℕ, zero, suc, Bool, true, false, not, refl, sym, ap, ◌∙◌, inl, inr, IsTrue, arith}
use Rattle.std.proofs.Math.Nat.{mod-add-mod}
use Rattle.std.proofs.lemmas.Bool.{and_from, or_left}
use Rattle.std.proofs.lemmas.Bool.Decides.{eqb_tells}
use Rattle.cauchy_code.specs.Cauchy.{weight}
use Rattle.blacs_comm.specs.Positions.{sender_of, place_of}
use Rattle.blacs_comm.specs.Positions as positions
use Rattle.blacs_comm.specs.Moves.{broadcast_moves}
use Rattle.blacs_comm.specs.declared.topology.Topology.{Topology}
use Rattle.blacs_comm.specs.declared.topology.Topology.TheVariants.{I, D, T}
use Rattle.blacs_comm.proofs.Places.{place_in, place_apart, sender_below}
use Rattle.blacs_grid.specs.declared.Grid.{Grid}
use Rattle.blacs_grid.specs.declared.Scope.TheVariants.{Row, Column}
use Rattle.blacs_grid.specs.Places.{width, row_of, col_of, rank_at, is_member, member}
use Rattle.blacs_grid.proofs.PlaceLaws.{is_member-rank_at, row_of-rank_at, col_of-rank_at}
use Rattle.rank_machine.specs.declared.slot.Piece.{Piece}
use Rattle.rank_machine.specs.Setting.{Path, anywhere, Setting, some_below, grid_of_rank, job}
use Rattle.rank_machine.specs.State.{State}
use Rattle.rank_machine.specs.Effect.{current}
use Rattle.rank_machine.specs.Legal.{is_among, is_weight, lost_columns, IsDecodingEntry, IsFactor, some_lost, is_step, is_along, may_go, is_path}
use Rattle.round_laws.specs.Turns.{AreOnPath, IsGridOf}
use Rattle.round_laws.specs.Paths.{path_of}
use Rattle.round_laws.proofs.Laws.{path-append}

pub itself : (a : ℕ) → (a == a) ≡ true
itself a = elim (eqb_tells a a) [ inl p ↦ p.0 | inr p ↦ absurd (p.1 refl) ]

pub or_right : (a b : Bool) → b ≡ true → (a || b) ≡ true
or_right true b e = refl
or_right false b e = e

some_there : (n i : ℕ) (f : ℕ → Bool) → i < n → f i ≡ true → some_below n f ≡ true
some_there zero i f lt e = absurd (omega arith)
some_there (suc n) i f lt e =
    elim (eqb_tells i n) [
      | inl p ↦ or_right (some_below n f) (f n) (ap f (sym p.1) ∙ e)
      | inr p ↦ or_left (some_below n f) (f n) (some_there n i f (let ne = p.1 in omega arith) e)
    ]

-- ---- factors
module _ (s : Setting) (st : State) (rank : ℕ) where
  pub factor_one : IsFactor s st rank 1
  factor_one = inl (or_left ((1 == 1) || (1 == s.modulus - 1)) (is_among (job s (current s st.mark)).scalars 1 || is_weight s (grid_of_rank s rank) 1) (or_left (1 == 1) (1 == s.modulus - 1) refl))

  pub factor_minus_one : IsFactor s st rank (s.modulus - 1)
  factor_minus_one = inl (or_left (((s.modulus - 1) == 1) || ((s.modulus - 1) == (s.modulus - 1))) (is_among (job s (current s st.mark)).scalars (s.modulus - 1) || is_weight s (grid_of_rank s rank) (s.modulus - 1)) (or_right ((s.modulus - 1) == 1) ((s.modulus - 1) == (s.modulus - 1)) (itself (s.modulus - 1))))

  pub factor_scalar : (a : ℕ) → is_among (job s (current s st.mark)).scalars a ≡ true → IsFactor s st rank a
  factor_scalar a e = inl (or_right ((a == 1) || (a == s.modulus - 1)) (is_among (job s (current s st.mark)).scalars a || is_weight s (grid_of_rank s rank) a) (or_left (is_among (job s (current s st.mark)).scalars a) (is_weight s (grid_of_rank s rank) a) e))

  pub factor_weight : (g : Grid) (c q : ℕ) → grid_of_rank s rank ≡ g → c < g.f → q < g.q → IsFactor s st rank (weight s.inverse g.q c q)
  factor_weight g c q own hc hq =
      let a = weight s.inverse g.q c q in
      inl (or_right ((a == 1) || (a == s.modulus - 1)) (is_among (job s (current s st.mark)).scalars a || is_weight s (grid_of_rank s rank) a)
      (or_right (is_among (job s (current s st.mark)).scalars a) (is_weight s (grid_of_rank s rank) a)
      (ap (λ x. is_weight s x a) own
      ∙ some_there g.f c (λ k. some_below g.q (λ col. (a == weight s.inverse g.q k col) || (a == s.modulus - weight s.inverse g.q k col))) hc
      (some_there g.q q (λ col. (a == weight s.inverse g.q c col) || (a == s.modulus - weight s.inverse g.q c col)) hq (or_left (a == weight s.inverse g.q c q) (a == s.modulus - weight s.inverse g.q c q) (itself a))))))

-- ---- paths
module _ (s : Setting) (st : State) where
  -- outside a product a message may go anywhere
  pub anywhere_goes : (job s (current s st.mark)).path ≡ anywhere → (from to : ℕ) → IsTrue (is_path s st from to)
  anywhere_goes e from to = or_right (some_lost s st) (may_go (job s (current s st.mark)).path (grid_of_rank s from) from to) (ap (λ p. may_go p (grid_of_rank s from) from to) e)

  along_goes : (g : Grid) (path : Path) (from to : ℕ) → (job s (current s st.mark)).path ≡ path → grid_of_rank s from ≡ g → may_go path g from to ≡ true → IsTrue (is_path s st from to)
  along_goes g path from to e own goes = or_right (some_lost s st) (may_go (job s (current s st.mark)).path (grid_of_rank s from) from to) ((λ i. may_go (e i) (own i) from to) ∙ goes)

not_equal : (a b : ℕ) → a ≢ b → not (a == b) ≡ true
not_equal a b ne = elim (eqb_tells a b) [ inl p ↦ absurd (ne p.1) | inr p ↦ ap not p.0 ]

-- the step of a topology from the position that sends to the next one
step_of : (t : Topology) (n root i : ℕ) → root < n → 1 ≤ i → i < n → is_step (path_of t) n (place_of t n root (sender_of t i)) (place_of t n root i) ≡ true
step_of I n root i lt lo hi =
    let again : (root + (i - 1)) + 1 ≡ root + i = omega arith in
    let e : ((root + (i - 1)) % n + 1) % n ≡ (root + i) % n = mod-add-mod (root + (i - 1)) n 1 ∙ ap (λ k. k % n) again in
    ap (λ k. ((root + i) % n) == k) e ∙ itself ((root + i) % n)
step_of D n root i lt lo hi =
    let again : (root + (n - i)) + 1 ≡ root + (n - (i - 1)) = omega arith in
    let e : ((root + (n - i)) % n + 1) % n ≡ (root + (n - (i - 1))) % n = mod-add-mod (root + (n - i)) n 1 ∙ ap (λ k. k % n) again in
    ap (λ k. ((root + (n - (i - 1))) % n) == k) e ∙ itself ((root + (n - (i - 1))) % n)
step_of T n root i lt lo hi = refl

along_row : (path : Path) (g : Grid) (row a b : ℕ) → row < g.p → a < width g → b < width g → a ≢ b → is_step path (width g) a b ≡ true → is_along path g (rank_at g row a) (rank_at g row b) ≡ true
along_row path g row a b hr ha hb ne step =
    let from = rank_at g row a in
    let to = rank_at g row b in
    and_from (is_member g to && not (from == to)) _
    (and_from (is_member g to) (not (from == to)) (is_member-rank_at g row b hr hb) (not_equal from to (λ e. ne (sym (col_of-rank_at g row a ha) ∙ ap (col_of g) e ∙ col_of-rank_at g row b hb))))
    (or_left ((row_of g from == row_of g to) && is_step path (width g) (col_of g from) (col_of g to)) _
    (and_from (row_of g from == row_of g to) (is_step path (width g) (col_of g from) (col_of g to))
    ((λ i. row_of-rank_at g row a ha i == row_of-rank_at g row b hb i) ∙ itself row)
    ((λ i. is_step path (width g) (col_of-rank_at g row a ha i) (col_of-rank_at g row b hb i)) ∙ step)))

along_column : (path : Path) (g : Grid) (col a b : ℕ) → col < width g → a < g.p → b < g.p → a ≢ b → is_step path g.p a b ≡ true → is_along path g (rank_at g a col) (rank_at g b col) ≡ true
along_column path g col a b hc ha hb ne step =
    let from = rank_at g a col in
    let to = rank_at g b col in
    and_from (is_member g to && not (from == to)) _
    (and_from (is_member g to) (not (from == to)) (is_member-rank_at g b col hb hc) (not_equal from to (λ e. ne (sym (row_of-rank_at g a col hc) ∙ ap (row_of g) e ∙ row_of-rank_at g b col hc))))
    (or_right ((row_of g from == row_of g to) && is_step path (width g) (col_of g from) (col_of g to)) ((col_of g from == col_of g to) && is_step path g.p (row_of g from) (row_of g to))
    (and_from (col_of g from == col_of g to) (is_step path g.p (row_of g from) (row_of g to))
    ((λ i. col_of-rank_at g a col hc i == col_of-rank_at g b col hc i) ∙ itself col)
    ((λ i. is_step path g.p (row_of-rank_at g a col hc i) (row_of-rank_at g b col hc i)) ∙ step)))

goes_along : (t : Topology) (g : Grid) (from to : ℕ) → is_along (path_of t) g from to ≡ true → may_go (path_of t) g from to ≡ true
goes_along I g from to e = e
goes_along D g from to e = e
goes_along T g from to e = e

module _ (s : Setting) (st : State) (g : Grid) (of : IsGridOf s g) (t : Topology) (line : (job s (current s st.mark)).path ≡ path_of t) where
  -- in a product a broadcast along a process row, or down a process column, goes the way of the line's topology
  pub row_goes : (row root k : ℕ) (source work : Piece) → row < g.p → root < width g → k < width g → AreOnPath s st (broadcast_moves (positions.rank_at (member g (Row row)) (width g) t root) (sender_of t) source work k)
  row_goes row root zero source work hr lt hk = tt
  row_goes row root (suc k) source work hr lt hk =
      let n = width g in
      let up = sender_of t (suc k) in
      let a = place_of t n root up in
      let b = place_of t n root (suc k) in
      let low : up < suc k = sender_below t (suc k) (omega arith) in
      let ha = place_in t n root up lt (omega arith) in
      let hb = place_in t n root (suc k) lt hk in
      let ne = place_apart t n root up (suc k) lt (omega arith) hk (λ e. omega (arith, e, low)) in
      path-append s st (broadcast_moves (positions.rank_at (member g (Row row)) n t root) (sender_of t) source work k) _ (row_goes row root k source work hr lt (omega arith)) (
        along_goes s st g (path_of t) (rank_at g row a) (rank_at g row b) line (of.own (rank_at g row a) (is_member-rank_at g row a hr ha))
            (goes_along t g (rank_at g row a) (rank_at g row b) (along_row (path_of t) g row a b hr ha hb ne (step_of t n root (suc k) lt (omega arith) hk))),
        tt,
      )

  pub column_goes : (col root k : ℕ) (source work : Piece) → col < width g → root < g.p → k < g.p → AreOnPath s st (broadcast_moves (positions.rank_at (member g (Column col)) g.p t root) (sender_of t) source work k)
  column_goes col root zero source work hc lt hk = tt
  column_goes col root (suc k) source work hc lt hk =
      let n = g.p in
      let up = sender_of t (suc k) in
      let a = place_of t n root up in
      let b = place_of t n root (suc k) in
      let low : up < suc k = sender_below t (suc k) (omega arith) in
      let ha = place_in t n root up lt (omega arith) in
      let hb = place_in t n root (suc k) lt hk in
      let ne = place_apart t n root up (suc k) lt (omega arith) hk (λ e. omega (arith, e, low)) in
      path-append s st (broadcast_moves (positions.rank_at (member g (Column col)) n t root) (sender_of t) source work k) _ (column_goes col root k source work hc lt (omega arith)) (
        along_goes s st g (path_of t) (rank_at g a col) (rank_at g b col) line (of.own (rank_at g a col) (is_member-rank_at g a col ha hc))
            (goes_along t g (rank_at g a col) (rank_at g b col) (along_column (path_of t) g col a b hc ha hb ne (step_of t n root (suc k) lt (omega arith) hk))),
        tt,
      )

-- an entry of the list that decodes a lost data column
pub factor_decoding : (s : Setting) (st : State) (rank a : ℕ) → IsDecodingEntry s (grid_of_rank s rank) (lost_columns st (grid_of_rank s rank) (row_of (grid_of_rank s rank) rank)) a → IsFactor s st rank a
factor_decoding s st rank a e = inr e

-- the negative of a weight
pub factor_less_weight : (s : Setting) (st : State) (rank : ℕ) (g : Grid) (c q : ℕ) → grid_of_rank s rank ≡ g → c < g.f → q < g.q → IsFactor s st rank (s.modulus - weight s.inverse g.q c q)
factor_less_weight s st rank g c q own hc hq =
    let a = s.modulus - weight s.inverse g.q c q in
    inl (or_right ((a == 1) || (a == s.modulus - 1)) (is_among (job s (current s st.mark)).scalars a || is_weight s (grid_of_rank s rank) a)
    (or_right (is_among (job s (current s st.mark)).scalars a) (is_weight s (grid_of_rank s rank) a)
    (ap (λ x. is_weight s x a) own
    ∙ some_there g.f c (λ k. some_below g.q (λ col. (a == weight s.inverse g.q k col) || (a == s.modulus - weight s.inverse g.q k col))) hc
    (some_there g.q q (λ col. (a == weight s.inverse g.q c col) || (a == s.modulus - weight s.inverse g.q c col)) hq (or_right (a == weight s.inverse g.q c q) (a == s.modulus - weight s.inverse g.q c q) (itself a))))))
