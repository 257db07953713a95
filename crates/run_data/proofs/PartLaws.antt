-- What a matrix has after a part of it was written.
use Rattle.std.proofs.Common.{◌≡◌, ℕ, ◌+◌, ◌*◌, ◌/◌, ◌%◌, ◌<◌, ◌≤◌, ◌↔◌, List, length, get_or, false, refl, sym, ◌∙◌, ap, arith, inl, inr}
use Rattle.std.proofs.Math.Nat.{div-add-mod, mod-lt, div-lt_iff_lt-mul}
use Rattle.std.proofs.lemmas.Nat.{mul-add-lt}
use Rattle.std.proofs.lemmas.Bool.{cases_lt}
use Rattle.std.proofs.lemmas.Bool.Decides.{nat_tests}
use Rattle.run_data.specs.declared.matrix.Part.{Part}
use Rattle.run_data.specs.Matrix.{Matrix, cols, entry, IsShaped, AreWords, tabulate}
use Rattle.run_data.specs.Parts.{IsWithin, in_part, patched, with_part}
use Rattle.run_data.proofs.Matrices.{tabulate-same, rows-tabulate, cols-tabulate, IsShaped-tabulate, entry-tabulate, entry-past, entry-past_columns}

pub rows-with_part : (a : Matrix) (at : Part) (f : ℕ → ℕ → ℕ) → (with_part a at f).rows ≡ a.rows
rows-with_part a at f = rows-tabulate a.rows (cols a) (patched at f (entry a))

pub cols-with_part : (a : Matrix) (at : Part) (f : ℕ → ℕ → ℕ) → cols (with_part a at f) ≡ cols a
cols-with_part a at f = cols-tabulate a.rows (cols a) (patched at f (entry a))

-- the shape of a matrix with a part that was written
pub ruleset shapes = (rows-with_part, cols-with_part)

patched-inside : (at : Part) (f g : ℕ → ℕ → ℕ) (r c : ℕ) → at.r0 ≤ r → r < at.r1 → at.c0 ≤ c → c < at.c1 → patched at f g r c ≡ f r c
unfolding patched
patched-inside at f g r c h1 h2 h3 h4 = grind (arith, nat_tests)

patched-outside : (at : Part) (f g : ℕ → ℕ → ℕ) (r c : ℕ) → in_part at r c ≡ false → patched at f g r c ≡ g r c
unfolding patched
patched-outside at f g r c out = rw out refl

-- two ways to patch agree where they agree in the part and at the place
patched-same : (at : Part) (f f' g g' : ℕ → ℕ → ℕ) (r c : ℕ) → (at.r0 ≤ r → r < at.r1 → at.c0 ≤ c → c < at.c1 → f r c ≡ f' r c) → g r c ≡ g' r c → patched at f g r c ≡ patched at f' g' r c
unfolding patched
patched-same at f f' g g' r c inside outside = grind (arith, nat_tests)

patched-again : (at : Part) (f f' g : ℕ → ℕ → ℕ) (r c : ℕ) → patched at f' (patched at f g) r c ≡ patched at f' g r c
unfolding patched
patched-again at f f' g r c = grind (arith, nat_tests)

patched-below : (p : ℕ) (at : Part) (f g : ℕ → ℕ → ℕ) (r c : ℕ) → f r c < p → g r c < p → patched at f g r c < p
unfolding patched
patched-below p at f g r c hf hg = grind (arith, nat_tests)

-- a word of the part is the one that was written
pub entry-with_part_inside : (a : Matrix) (at : Part) (f : ℕ → ℕ → ℕ) (r c : ℕ) → IsWithin at a → at.r0 ≤ r → r < at.r1 → at.c0 ≤ c → c < at.c1 → entry (with_part a at f) r c ≡ f r c
entry-with_part_inside a at f r c within h1 h2 h3 h4 =
    entry-tabulate a.rows (cols a) (patched at f (entry a)) r c (omega (arith, within.rows_end)) (omega (arith, within.columns_end)) ∙ patched-inside at f (entry a) r c h1 h2 h3 h4

-- a word outside the part stays
pub entry-with_part_outside : (a : Matrix) (at : Part) (f : ℕ → ℕ → ℕ) (r c : ℕ) → r < a.rows → c < cols a → in_part at r c ≡ false → entry (with_part a at f) r c ≡ entry a r c
entry-with_part_outside a at f r c hr hc out = entry-tabulate a.rows (cols a) (patched at f (entry a)) r c hr hc ∙ patched-outside at f (entry a) r c out

-- only the words in the part matter
pub with_part-same : (a : Matrix) (at : Part) (f g : ℕ → ℕ → ℕ) → ((r c : ℕ) → at.r0 ≤ r → r < at.r1 → at.c0 ≤ c → c < at.c1 → f r c ≡ g r c) → with_part a at f ≡ with_part a at g
with_part-same a at f g same =
    tabulate-same a.rows (cols a) (patched at f (entry a)) (patched at g (entry a)) (λ r c _ _. patched-same at f g (entry a) (entry a) r c (same r c) refl)

-- a part that is written twice has the later words
pub with_part-again : (a : Matrix) (at : Part) (f g : ℕ → ℕ → ℕ) → with_part (with_part a at f) at g ≡ with_part a at g
with_part-again a at f g =
    let b : Matrix = with_part a at f in
    ap (λ k. tabulate k (cols b) (patched at g (entry b))) (rows-with_part a at f) ∙ ap (λ k. tabulate a.rows k (patched at g (entry b))) (cols-with_part a at f)
    ∙ tabulate-same a.rows (cols a) (patched at g (entry b)) (patched at g (entry a))
    (λ r c hr hc. patched-same at g g (entry b) (patched at f (entry a)) r c (λ _ _ _ _. refl) (entry-tabulate a.rows (cols a) (patched at f (entry a)) r c hr hc) ∙ patched-again at f g (entry a) r c)

-- outside its shape a matrix has zeros, which are words
pub AreWords-from_inside : (p : ℕ) (a : Matrix) → IsShaped a → 0 < p → ((i j : ℕ) → i < a.rows → j < cols a → entry a i j < p) → AreWords p a
AreWords-from_inside p a shaped pos_p small = record {
  below = λ i j.
      elim (cases_lt i a.rows) [
        | inl row ↦ (elim (cases_lt j (cols a)) [ inl column ↦ small i j row column | inr past ↦ rw (entry-past_columns a i j past) pos_p ])
        | inr past ↦ rw (entry-past a shaped i j past) pos_p
      ];
}

-- words below p make a matrix of words below p
pub AreWords-tabulate : (p m n : ℕ) (f : ℕ → ℕ → ℕ) → 0 < p → ((r c : ℕ) → r < m → c < n → f r c < p) → AreWords p (tabulate m n f)
AreWords-tabulate p m n f pos_p small =
    AreWords-from_inside p (tabulate m n f) (IsShaped-tabulate m n f) pos_p
    (λ i j hi hj.
    let hi' : i < m = rw rows-tabulate at hi in
    let hj' : j < n = rw cols-tabulate at hj in
    rw (entry-tabulate m n f i j hi' hj') (small i j hi' hj'))

-- the words of a matrix, column by column, are below p where the matrix has words below p
pub AreWords-list : (p : ℕ) (a : Matrix) (ws : List ℕ) → IsShaped a → length ws ≡ cols a * a.rows → ((i j : ℕ) → i < a.rows → j < cols a → get_or ws (j * a.rows + i) 0 ≡ entry a i j) → 0 < p → ((k : ℕ) → k < length ws → get_or ws k 0 < p) ↔ AreWords p a
AreWords-list p a ws shaped size words pos_p = (
  λ each. AreWords-from_inside p a shaped pos_p
      (λ i j hi hj. let fits : j * a.rows + i < a.rows * cols a = mul-add-lt j a.rows i (cols a) hj hi in rw (← words i j hi hj) (each (j * a.rows + i) (omega arith))),
  λ all k h.
      elim (cases_lt 0 a.rows) [
        | inl some ↦
            (let place : k / a.rows * a.rows + k % a.rows ≡ k = omega (arith, div-add-mod k a.rows) in
            let row : k % a.rows < a.rows = mod-lt k some in
            let inside : k < cols a * a.rows = omega arith in
            let column : k / a.rows < cols a = (div-lt_iff_lt-mul some).1 inside in
            let same : get_or ws k 0 ≡ entry a (k % a.rows) (k / a.rows) = ap (λ n. get_or ws n 0) (sym place) ∙ words (k % a.rows) (k / a.rows) row column in
            rw same (all.below (k % a.rows) (k / a.rows)))
        | inr none ↦
            (let empty : a.rows ≡ 0 = omega arith in
            let nothing : cols a * a.rows ≡ cols a * 0 = ap (λ n. cols a * n) empty in
            absurd (omega arith))
      ],
)

pub AreWords-with_part : (p : ℕ) (a : Matrix) (at : Part) (f : ℕ → ℕ → ℕ) → 0 < p → AreWords p a → ((r c : ℕ) → f r c < p) → AreWords p (with_part a at f)
AreWords-with_part p a at f pos_p words small =
    AreWords-tabulate p a.rows (cols a) (patched at f (entry a)) pos_p (λ r c _ _. patched-below p at f (entry a) r c (small r c) (words.below r c))
