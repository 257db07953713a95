-- What a panel does to the columns of one matrix, as the kernels do it.
use Rattle.std.proofs.Common.{◌≡◌, ℕ, ◌+◌, ◌-◌, ◌*◌, ◌%◌, ◌<◌, ◌≤◌, ◌⊎◌, true, List, sym, ◌∙◌, ap, arith, inl, inr}
use Rattle.std.proofs.lemmas.Bool.{cases_lt}
use Rattle.std.proofs.lemmas.Bool.Decides.{nat_tests}
use Rattle.field_core.specs.Sums.{sum_to}
use Rattle.field_core.proofs.Sums.{sum_to-same}
use Rattle.run_data.specs.declared.matrix.Part.{Part}
use Rattle.run_data.specs.Matrix.{Matrix, cols, entry, tabulate}
use Rattle.run_data.specs.Parts.{patched, part_of}
use Rattle.run_data.proofs.Matrices.{tabulate-same, rows-tabulate, cols-tabulate, entry-tabulate}
use Rattle.local_blas.specs.Kernels.{AreWords, solution, with_solved_lower, with_product, part_entry, product_word}
use Rattle.local_blas.proofs.Solutions.{solution-below}
use Rattle.local_blas.proofs.SolutionLaws.{solution-same}
use Rattle.run_data.proofs.PartLaws.{AreWords-tabulate, AreWords-with_part, rows-with_part, cols-with_part}
use Rattle.serial_model.specs.Elimination.{came_from, exchanged}
use Rattle.elimination.specs.Panels.{solved, carried}
use Rattle.elimination.proofs.Reductions.{reduced-above, reduced-among, reduced-under}
use Rattle.elimination.proofs.WholeSteps.{patched_in, patched_above}
use Rattle.elimination.specs.Whole.{with_rows_exchanged, with_carried}

patched_under : (at : Part) (f g : ℕ → ℕ → ℕ) (r c : ℕ) → at.r1 ≤ r → patched at f g r c ≡ g r c
unfolding patched
patched_under at f g r c h = grind (arith, nat_tests)

-- a part of all columns
abbrev pub rows_part : ℕ → ℕ → ℕ → Part
rows_part r0 r1 n = record { r0 = r0; r1 = r1; c0 = 0; c1 = n }

entry_is : (a : Matrix) (m c : ℕ) (f : ℕ → ℕ → ℕ) (i k : ℕ) → a ≡ tabulate m c f → i < m → k < c → entry a i k ≡ f i k
entry_is a m c f i k e hi hk = ap (λ a. entry a i k) e ∙ entry-tabulate m c f i k hi hk

resized : (a b : Matrix) (m c : ℕ) (f : ℕ → ℕ → ℕ) → b.rows ≡ m → cols b ≡ c → a ≡ tabulate b.rows (cols b) f → a ≡ tabulate m c f
resized a b m c f er ec e = e ∙ ap (λ k. tabulate k (cols b) f) er ∙ ap (λ k. tabulate m k f) ec

pub carried-is : (p : ℕ) (inverse : ℕ → ℕ) (x y z u l w : Matrix) (v : List ℕ) (first n : ℕ) → first + n ≤ x.rows → y ≡ with_rows_exchanged x v first n → z ≡ with_solved_lower p inverse y (rows_part first (first + n) (cols x)) l (rows_part first (first + n) n) true → w ≡ part_of z (rows_part first (first + n) (cols x)) → u ≡ with_product p z (rows_part (first + n) x.rows (cols x)) (p - 1) l (rows_part (first + n) x.rows n) w (rows_part 0 n (cols x)) → u ≡ with_carried p inverse x l v first n
carried-is p inverse x y z u l w v first n h ey ez ew eu =
    let m = x.rows in
    let c = cols x in
    let f : ℕ → ℕ → ℕ = λ i k. exchanged v first n (λ r. entry x r k) i in
    let t : ℕ → ℕ → ℕ = λ i k. entry l i (k - first) in
    let among = rows_part first (first + n) c in
    let below = rows_part (first + n) m c in
    let s : ℕ → ℕ → ℕ = λ i j. solution p inverse true (part_entry l (rows_part first (first + n) n)) (λ k. entry y (first + k) (0 + (j - 0))) (i - first) in
    let g : ℕ → ℕ → ℕ = λ i j. (entry z i j + (p - 1) * product_word l (rows_part (first + n) m n) w (rows_part 0 n c) (i - (first + n)) (j - 0)) % p in
    let y_rows : y.rows ≡ m = ap (λ a. a.rows) ey ∙ rows-tabulate m c f in
    let y_cols : cols y ≡ c = ap cols ey ∙ cols-tabulate m c f in
    let z_is : z ≡ tabulate m c (patched among s (entry y)) = resized z y m c (patched among s (entry y)) y_rows y_cols ez in
    let z_rows : z.rows ≡ m = ap (λ a. a.rows) z_is ∙ rows-tabulate m c (patched among s (entry y)) in
    let z_cols : cols z ≡ c = ap cols z_is ∙ cols-tabulate m c (patched among s (entry y)) in
    let u_is : u ≡ tabulate m c (patched below g (entry z)) = resized u z m c (patched below g (entry z)) z_rows z_cols eu in
    let kept : (i k : ℕ) → i < m → k < c → (i < first) ⊎ (first + n ≤ i) → entry z i k ≡ f i k =
    λ i k hi hk out. entry_is z m c (patched among s (entry y)) i k z_is hi hk ∙ outside among s (entry y) i k out ∙ entry_is y m c f i k ey hi hk in
    let solved_word : (q k : ℕ) → q < n → k < c → entry z (first + q) k ≡ solved p inverse true t first (λ i. f i k) q =
    λ q k hq hk. entry_is z m c (patched among s (entry y)) (first + q) k z_is (omega arith) hk ∙ patched_in among s (entry y) (first + q) k (omega arith) (omega arith) (omega arith) hk
    ∙ ap (solution p inverse true (part_entry l (rows_part first (first + n) n)) (λ r. entry y (first + r) (0 + (k - 0)))) (let e : first + q - first ≡ q = omega arith in e)
    ∙ solution-same p inverse true (part_entry l (rows_part first (first + n) n)) (λ i k. t (first + i) (first + k)) (λ r. entry y (first + r) (0 + (k - 0))) (λ r. f (first + r) k) q
    (λ r j _ _. ap (entry l (first + r)) (let e : 0 + j ≡ first + j - first = omega arith in e))
    (λ r hr. ap (entry y (first + r)) (let e : 0 + (k - 0) ≡ k = omega arith in e) ∙ entry_is y m c f (first + r) k ey (omega arith) hk) in
    let word : (i k : ℕ) → i < m → k < c → patched below g (entry z) i k ≡ carried p inverse t v first n (λ r. entry x r k) i =
    λ i k hi hk. elim (cases_lt i first) [
      | inl above ↦ patched_above below g (entry z) i k (omega arith) ∙ kept i k hi hk (inl above) ∙ sym (reduced-above p inverse true t first n (λ i. f i k) i above)
      | inr from ↦
          (elim (cases_lt i (first + n)) [
            | inl inside ↦
                (let e : first + (i - first) ≡ i = omega arith in
                patched_above below g (entry z) i k inside ∙ ap (λ r. entry z r k) (sym e) ∙ solved_word (i - first) k (omega arith) hk
                ∙ sym (reduced-among p inverse true t first n (λ i. f i k) (i - first) (omega arith)) ∙ ap (carried p inverse t v first n (λ r. entry x r k)) e)
            | inr under ↦
                (let e : first + n + (i - (first + n)) ≡ i = omega arith in
                let terms : sum_to (n - 0) (λ q. entry l (first + n + (i - (first + n))) (0 + q) * entry w (0 + q) (0 + (k - 0))) ≡ sum_to n (λ q. t i (first + q) * solved p inverse true t first (λ i. f i k) q) =
                ap (λ d. sum_to d (λ q. entry l (first + n + (i - (first + n))) (0 + q) * entry w (0 + q) (0 + (k - 0)))) (let e : n - 0 ≡ n = omega arith in e)
                ∙ sum_to-same n (λ q. entry l (first + n + (i - (first + n))) (0 + q) * entry w (0 + q) (0 + (k - 0))) (λ q. t i (first + q) * solved p inverse true t first (λ i. f i k) q)
                (λ q hq. ap (λ r. entry l r (0 + q) * entry w (0 + q) (0 + (k - 0))) e
                ∙ ap (λ r. entry l i r * entry w (0 + q) (0 + (k - 0))) (let d : 0 + q ≡ first + q - first = omega arith in d)
                ∙ ap (λ r. t i (first + q) * entry w r (0 + (k - 0))) (let d : 0 + q ≡ q = omega arith in d)
                ∙ ap (λ r. t i (first + q) * entry w q r) (let d : 0 + (k - 0) ≡ k = omega arith in d)
                ∙ ap (λ y. t i (first + q) * y) (entry_is w (first + n - first) (c - 0) (λ i j. entry z (first + i) (0 + j)) q k ew (omega arith) (omega arith)
                ∙ ap (entry z (first + q)) (let d : 0 + k ≡ k = omega arith in d) ∙ solved_word q k hq hk)) in
                patched_in below g (entry z) i k under hi (omega arith) hk
                ∙ ap (λ y. (y + (p - 1) * product_word l (rows_part (first + n) m n) w (rows_part 0 n c) (i - (first + n)) (k - 0)) % p) (kept i k hi hk (inr under))
                ∙ ap (λ s. (f i k + (p - 1) * s) % p) terms
                ∙ sym (reduced-under p inverse true t first n (λ i. f i k) i under))
          ])
    ] in
    u_is ∙ tabulate-same m c (patched below g (entry z)) (λ i k. carried p inverse t v first n (λ r. entry x r k) i) word
  where
    outside : (at : Part) (f g : ℕ → ℕ → ℕ) (r c : ℕ) → (r < at.r0) ⊎ (at.r1 ≤ r) → patched at f g r c ≡ g r c
    outside at f g r c (inl h) = patched_above at f g r c h
    outside at f g r c (inr h) = patched_under at f g r c h

-- the same, with the numbers that the code read
pub carried_by_kernels : (p : ℕ) (inverse : ℕ → ℕ) (x y z u l w : Matrix) (v : List ℕ) (first n m c q : ℕ) → first + n ≤ x.rows → m ≡ x.rows → c ≡ cols x → q ≡ p → y ≡ with_rows_exchanged x v first n → z ≡ with_solved_lower p inverse y (rows_part first (first + n) c) l (rows_part first (first + n) n) true → w ≡ part_of z (rows_part first (first + n) c) → u ≡ with_product p z (rows_part (first + n) m c) (q - 1) l (rows_part (first + n) m n) w (rows_part 0 n c) → u ≡ with_carried p inverse x l v first n
carried_by_kernels p inverse x y z u l w v first n m c q h em ec eq ey ez ew eu =
    carried-is p inverse x y z u l w v first n h ey (ez ∙ ap (λ c. with_solved_lower p inverse y (rows_part first (first + n) c) l (rows_part first (first + n) n) true) ec) (ew ∙ ap (λ c. part_of z (rows_part first (first + n) c)) ec)
    (eu ∙ ap (λ q. with_product p z (rows_part (first + n) m c) (q - 1) l (rows_part (first + n) m n) w (rows_part 0 n c)) eq ∙ ap (λ m. with_product p z (rows_part (first + n) m c) (p - 1) l (rows_part (first + n) m n) w (rows_part 0 n c)) em
    ∙ ap (λ c. with_product p z (rows_part (first + n) x.rows c) (p - 1) l (rows_part (first + n) x.rows n) w (rows_part 0 n c)) ec)

pub rows_after_exchange : (x y : Matrix) (v : List ℕ) (first n : ℕ) → y ≡ with_rows_exchanged x v first n → y.rows ≡ x.rows
rows_after_exchange x y v first n e = ap (λ a. a.rows) e ∙ rows-tabulate x.rows (cols x) (λ i k. exchanged v first n (λ r. entry x r k) i)

pub cols_after_exchange : (x y : Matrix) (v : List ℕ) (first n : ℕ) → y ≡ with_rows_exchanged x v first n → cols y ≡ cols x
cols_after_exchange x y v first n e = ap cols e ∙ cols-tabulate x.rows (cols x) (λ i k. exchanged v first n (λ r. entry x r k) i)

pub words_after_exchange : (p : ℕ) (x y : Matrix) (v : List ℕ) (first n : ℕ) → AreWords p x → y ≡ with_rows_exchanged x v first n → AreWords p y
words_after_exchange p x y v first n words e =
    rw e (AreWords-tabulate p x.rows (cols x) (λ i k. exchanged v first n (λ r. entry x r k) i) (omega (arith, words.below 0 0)) (λ i k _ _. words.below (came_from v first n i) k))

pub rows_after_solve : (p : ℕ) (inverse : ℕ → ℕ) (y z l : Matrix) (first n c : ℕ) → z ≡ with_solved_lower p inverse y (rows_part first (first + n) c) l (rows_part first (first + n) n) true → z.rows ≡ y.rows
rows_after_solve p inverse y z l first n c e = ap (λ a. a.rows) e ∙ rows-with_part y (rows_part first (first + n) c) (λ i j. solution p inverse true (part_entry l (rows_part first (first + n) n)) (λ k. entry y (first + k) (0 + (j - 0))) (i - first))

pub cols_after_solve : (p : ℕ) (inverse : ℕ → ℕ) (y z l : Matrix) (first n c : ℕ) → z ≡ with_solved_lower p inverse y (rows_part first (first + n) c) l (rows_part first (first + n) n) true → cols z ≡ cols y
cols_after_solve p inverse y z l first n c e = ap cols e ∙ cols-with_part y (rows_part first (first + n) c) (λ i j. solution p inverse true (part_entry l (rows_part first (first + n) n)) (λ k. entry y (first + k) (0 + (j - 0))) (i - first))

pub words_after_solve : (p : ℕ) (inverse : ℕ → ℕ) (y z l : Matrix) (first n c : ℕ) → AreWords p y → z ≡ with_solved_lower p inverse y (rows_part first (first + n) c) l (rows_part first (first + n) n) true → AreWords p z
words_after_solve p inverse y z l first n c words e =
    let pos_p : 0 < p = omega (arith, words.below 0 0) in
    rw e (AreWords-with_part p y (rows_part first (first + n) c) (λ i j. solution p inverse true (part_entry l (rows_part first (first + n) n)) (λ k. entry y (first + k) (0 + (j - 0))) (i - first)) pos_p words (λ i j. solution-below p inverse true (part_entry l (rows_part first (first + n) n)) (λ k. entry y (first + k) (0 + (j - 0))) (i - first) pos_p))

pub words_of_part : (p : ℕ) (z w : Matrix) (at : Part) → AreWords p z → w ≡ part_of z at → AreWords p w
words_of_part p z w at words e =
    rw e (AreWords-tabulate p (at.r1 - at.r0) (at.c1 - at.c0) (λ i j. entry z (at.r0 + i) (at.c0 + j)) (omega (arith, words.below 0 0)) (λ i k _ _. words.below (at.r0 + i) (at.c0 + k)))

pub rows_of_part : (z w : Matrix) (at : Part) → w ≡ part_of z at → w.rows ≡ at.r1 - at.r0
rows_of_part z w at e = ap (λ a. a.rows) e ∙ rows-tabulate (at.r1 - at.r0) (at.c1 - at.c0) (λ i j. entry z (at.r0 + i) (at.c0 + j))

pub cols_of_part : (z w : Matrix) (at : Part) → w ≡ part_of z at → cols w ≡ at.c1 - at.c0
cols_of_part z w at e = ap cols e ∙ cols-tabulate (at.r1 - at.r0) (at.c1 - at.c0) (λ i j. entry z (at.r0 + i) (at.c0 + j))
