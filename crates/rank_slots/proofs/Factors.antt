-- The factors that a script allows are residues.
use Rattle.std.proofs.Common.{◌≡◌, ◌+◌, ◌-◌, ◌*◌, ◌%◌, ◌<◌, ◌≤◌, ◌==◌, ◌||◌, ℕ, zero, suc, Bool, true, false, List, [], ◌∷◌, sym, ap, subst, ◌∙◌, ⊎_elim, All, IsTrue, arith}
use Rattle.std.proofs.Math.Nat.{mod-eq_of_lt}
use Rattle.std.proofs.lemmas.Bool.{cases_Bool, or_cases, eqb-true, true≢false}
use Rattle.std.proofs.lemmas.List.Elements.{All-nil, All-head, All-tail, All-contains}
use Rattle.field_core.specs.Residue.{inverse}
use Rattle.field_core.specs.FieldLaws.{IsField}
use Rattle.cauchy_code.specs.Cauchy.{weight}
use Rattle.cauchy_code.proofs.Inverses.{inverse_law}
use Rattle.blacs_grid.specs.declared.Grid.{Grid}
use Rattle.blacs_grid.specs.Places.{row_of, is_member}
use Rattle.script_lines.specs.Layouts.{AreGrids}
use Rattle.rank_machine.specs.Setting.{Job, Setting, some_below, job_in, job, grid_in, grid_of_rank}
use Rattle.rank_machine.specs.State.{State}
use Rattle.rank_machine.specs.Effect.{current}
use Rattle.rank_machine.specs.Legal.{is_among, is_weight, is_plain_factor, lost_columns, IsDecodingEntry}
use Rattle.rank_slots.specs.Stands.{AreFactorsBelow}

-- a number below n that passes a test
found_below : (n : ℕ) (f : ℕ → Bool) → some_below n f ≡ true → (i : ℕ) × (i < n) × (f i ≡ true)
found_below zero f h = absurd (true≢false (sym h))
found_below (suc n) f h =
    ⊎_elim
    (λ (e : some_below n f ≡ true). let z = found_below n f e in let lt : z.0 < n = z.1 in (z.0, (let m : z.0 < suc n = omega arith in m), z.2))
    (λ (e : f n ≡ true). (n, (let m : n < suc n = omega arith in m), e))
    (or_cases (some_below n f) (f n) h)

-- a number of a list of residues
among_below : (p : ℕ) (xs : List ℕ) (a : ℕ) → All (λ x. x < p) xs → is_among xs a ≡ true → a < p
among_below p [] a h e = absurd (true≢false (sym e))
among_below p (x ∷ xs) a h e =
    ⊎_elim
    (λ (t : (x == a) ≡ true). subst (λ n. n < p) (eqb-true x a t) (All-head (λ y. y < p) x xs h))
    (λ (t : is_among xs a ≡ true). among_below p xs a (All-tail (λ y. y < p) x xs h) t)
    (or_cases (x == a) (is_among xs a) e)

-- where the scalars of all jobs are residues, so are those of each line
pub scalars_at : (p : ℕ) (jobs : List Job) (line : ℕ) → All (λ j. All (λ x. x < p) j.scalars) jobs → All (λ x. x < p) (job_in jobs line).scalars
scalars_at p [] line h = All-nil (λ x. x < p)
scalars_at p (j ∷ js) line h =
    ⊎_elim
    (λ (e : (j.line == line) ≡ true). rw e (All-head (λ (i : Job). All (λ x. x < p) i.scalars) j js h))
    (λ (e : (j.line == line) ≡ false). rw e (scalars_at p js line (All-tail (λ (i : Job). All (λ x. x < p) i.scalars) j js h)))
    (cases_Bool (j.line == line))

-- what the code asks of a grid, which holds of no grid too
record IsCoded (g : Grid) : Type 0 where
  data_columns : g.q ≤ 16
  code_columns : g.f ≤ 4

-- the grid of a rank, or none
grid_coded : (gs : List Grid) (rank : ℕ) → AreGrids gs → IsCoded (grid_in gs rank)
grid_coded [] rank h = record { data_columns = omega arith; code_columns = omega arith }
grid_coded (g ∷ gs) rank h =
    ⊎_elim
    (λ (e : is_member g rank ≡ true). rw e (record { data_columns = h.0.columns; code_columns = h.0.code_columns }))
    (λ (e : is_member g rank ≡ false). rw e (grid_coded gs rank h.1))
    (cases_Bool (is_member g rank))

module _ (p : ℕ) (large : 32 ≤ p) (field : IsField p) where
  -- a weight is a residue and not 0
  weight_residue : (q f c col : ℕ) → q ≤ 16 → f ≤ 4 → c < f → col < q → (weight (inverse p) q c col < p) × (0 < weight (inverse p) q c col)
  weight_residue q f c col hq hf hc hcol =
      let d = (q + c) - col in
      let some : 0 < d = omega arith in
      let few : d < p = omega arith in
      let law = inverse_law p field d some few in
      (law.1, not_zero p d (inverse p d) (omega arith) law.0)
    where
      not_zero : (p d w : ℕ) → 1 < p → (d * w) % p ≡ 1 → 0 < w
      not_zero p d zero more e =
          let none : (d * 0) % p ≡ 0 = ap (λ k. k % p) (let t : d * 0 ≡ 0 = omega arith in t) ∙ mod-eq_of_lt (omega arith) in
          let o : 0 ≡ 1 = sym none ∙ e in
          absurd (omega (arith, o))
      not_zero p d (suc w) more e = omega arith

  -- a weight of a grid, or its negative
  weight_below : (g : Grid) (a : ℕ) → IsCoded g → some_below g.f (λ c. some_below g.q (λ col. (a == weight (inverse p) g.q c col) || (a == p - weight (inverse p) g.q c col))) ≡ true → a < p
  weight_below g a h e =
      let c = found_below g.f _ e in
      let col = found_below g.q _ c.2 in
      let w = weight_residue g.q g.f c.0 col.0 h.data_columns h.code_columns c.1 col.1 in
      ⊎_elim
      (λ (t : (a == weight (inverse p) g.q c.0 col.0) ≡ true). subst (λ n. n < p) (sym (eqb-true a _ t)) w.0)
      (λ (t : (a == p - weight (inverse p) g.q c.0 col.0) ≡ true). let same : a ≡ p - weight (inverse p) g.q c.0 col.0 = eqb-true a _ t in let some = w.1 in omega (arith, same, some, large))
      (or_cases (a == weight (inverse p) g.q c.0 col.0) (a == p - weight (inverse p) g.q c.0 col.0) col.2)

  -- 1 and its negative, the scalars of the line, and the weights
  plain_below : (s : Setting) (st : State) (rank a : ℕ) → s.modulus ≡ p → s.inverse ≡ inverse p → ((line : ℕ) → All (λ x. x < p) (job s line).scalars) → AreGrids s.grids → is_plain_factor s st rank a ≡ true → a < p
  plain_below s st rank a modulus inverses scalars grids h =
      ⊎_elim
      (λ (e : ((a == 1) || (a == s.modulus - 1)) ≡ true).
      ⊎_elim
      (λ (t : (a == 1) ≡ true). let same = eqb-true a 1 t in omega (arith, same, large))
      (λ (t : (a == s.modulus - 1) ≡ true). let same = eqb-true a (s.modulus - 1) t in omega (arith, same, large, modulus))
      (or_cases (a == 1) (a == s.modulus - 1) e))
      (λ (e : (is_among (job s (current s st.mark)).scalars a || is_weight s (grid_of_rank s rank) a) ≡ true).
      ⊎_elim
      (λ (t : is_among (job s (current s st.mark)).scalars a ≡ true). among_below p (job s (current s st.mark)).scalars a (scalars (current s st.mark)) t)
      (λ (t : is_weight s (grid_of_rank s rank) a ≡ true).
      let g = grid_of_rank s rank in
      weight_below g a (grid_coded s.grids rank grids) (sym (λ i. some_below g.f (λ c. some_below g.q (λ col. (a == weight (inverses i) g.q c col) || (a == modulus i - weight (inverses i) g.q c col)))) ∙ t))
      (or_cases (is_among (job s (current s st.mark)).scalars a) (is_weight s (grid_of_rank s rank) a) e))
      (or_cases ((a == 1) || (a == s.modulus - 1)) (is_among (job s (current s st.mark)).scalars a || is_weight s (grid_of_rank s rank) a) h)

  -- an entry of a list that decodes
  entry_below : (s : Setting) (g : Grid) (lost : List Bool) (a : ℕ) → s.modulus ≡ p → IsDecodingEntry s g lost a → a < p
  entry_below s g lost a modulus h = subst (λ n. a < n) modulus (All-contains (λ x. x < s.modulus) h.list a h.decodes.residues h.entry)

  -- the words of a prime field, scalars that are words, and grids within the limits of the code
  pub factors_below : (s : Setting) → s.modulus ≡ p → s.inverse ≡ inverse p → ((line : ℕ) → All (λ x. x < p) (job s line).scalars) → AreGrids s.grids → AreFactorsBelow s p
  factors_below s modulus inverses scalars grids st rank a h =
      ⊎_elim
      (λ (e : IsTrue (is_plain_factor s st rank a)). plain_below s st rank a modulus inverses scalars grids e)
      (λ (e : IsDecodingEntry s (grid_of_rank s rank) (lost_columns st (grid_of_rank s rank) (row_of (grid_of_rank s rank) rank)) a). entry_below s (grid_of_rank s rank) _ a modulus e)
      h
