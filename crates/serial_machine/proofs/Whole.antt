-- The kernels on all of a matrix give the words that the commands are defined by.
use Rattle.std.proofs.Common.{◌≡◌, ◌≢◌, ℕ, zero, suc, ◌+◌, ◌-◌, ◌*◌, ◌%◌, ◌<◌, ◌≤◌, ◌==◌, if◌then◌else◌, Bool, true, false, List, inl, inr, eq-eqb, refl, sym, subst, ◌∙◌, ap, arith}
use Rattle.std.proofs.Math.Nat.{mod-lt}
use Rattle.std.proofs.lemmas.Bool.{cases_eq, ne_eqb}
use Rattle.field_core.specs.Sums.{sum_to}
use Rattle.field_core.proofs.Modular.{residues}
use Rattle.run_data.specs.declared.matrix.Part.{Part}
use Rattle.run_data.specs.Matrix.{Matrix, cols, entry, AreWords, tabulate}
use Rattle.run_data.specs.Parts.{IsWithin, whole_part, with_part, part_entry}
use Rattle.run_data.proofs.Matrices.{tabulate-same, rows-tabulate, cols-tabulate, entry-tabulate}
use Rattle.run_data.proofs.PartLaws.{rows-with_part, cols-with_part, entry-with_part_inside, AreWords-with_part, AreWords-tabulate}
use Rattle.local_blas.specs.Kernels.{ShapesMultiply, ShapesSolve, solution, upper_solution, product_word, with_scaled, with_product, with_solved_lower, with_solved_upper}
use Rattle.local_blas.proofs.Solutions.{solution-below}
use Rattle.local_blas.proofs.SolutionLaws.{solution-same}
use Rattle.local_blas.proofs.UpperSolutions.{upper_solution-below, upper_solution-same}
use Rattle.elimination.specs.Whole.{with_rows_exchanged}
use Rattle.serial_model.specs.Elimination.{exchanged, least_zero, diagonal}
use Rattle.serial_model.specs.Solves.{first_zero, product_of, solved_column, solved_unless, solved_with_factors, triangle_solved, factors_solved}
use Rattle.serial_machine.specs.Solved.{with_columns_solved}

after_zero : (n : ℕ) → 0 + n ≡ n
after_zero n = omega arith

before_zero : (n : ℕ) → n - 0 ≡ n
before_zero n = omega arith

both_zero : (n : ℕ) → 0 + (n - 0) ≡ n
both_zero n = omega arith

-- ---- all of a matrix as a part
pub IsWithin-whole : (a b : Matrix) (at : Part) → at ≡ whole_part a → a.rows ≡ b.rows → cols a ≡ cols b → IsWithin at b
IsWithin-whole a b at e rows columns =
    rw e (record { rows_ordered = omega arith; rows_end = omega (arith, rows); columns_ordered = omega arith; columns_end = omega (arith, columns) })

with_whole : (a : Matrix) (f : ℕ → ℕ → ℕ) → with_part a (whole_part a) f ≡ tabulate a.rows (cols a) f
with_whole a f =
    tabulate-same a.rows (cols a) _ f
    (λ i j hi hj. sym (entry-tabulate a.rows (cols a) _ i j hi hj) ∙ entry-with_part_inside a (whole_part a) f i j (IsWithin-whole a a (whole_part a) refl refl refl) (omega arith) hi (omega arith) hj)

-- all of a matrix written anew
pub whole_filled : (a b : Matrix) (at : Part) (f : ℕ → ℕ → ℕ) → at ≡ whole_part a → b ≡ with_part a at f → b ≡ tabulate a.rows (cols a) f
whole_filled a b at f e made = made ∙ ap (λ (p : Part). with_part a p f) e ∙ with_whole a f

same_whole : (a b : Matrix) → a.rows ≡ b.rows → cols a ≡ cols b → whole_part a ≡ whole_part b
same_whole a b rows columns = λ t. record { r0 = 0; r1 = rows t; c0 = 0; c1 = columns t }

-- a kernel on all of b, which has the shape of c
whole_step : (c b b' : Matrix) (at : Part) (f g : ℕ → ℕ → ℕ) → b.rows ≡ c.rows → cols b ≡ cols c → at ≡ whole_part c → b' ≡ with_part b at f → ((i j : ℕ) → i < c.rows → j < cols c → f i j ≡ g i j) → b' ≡ tabulate c.rows (cols c) g
whole_step c b b' at f g rows columns e made same =
    made ∙ ap (λ (p : Part). with_part b p f) (e ∙ sym (same_whole b c rows columns)) ∙ with_whole b f
    ∙ ap (λ k. tabulate k (cols b) f) rows ∙ ap (λ k. tabulate c.rows k f) columns ∙ tabulate-same c.rows (cols c) f g same

entry_is : (a : Matrix) (m c : ℕ) (f : ℕ → ℕ → ℕ) (i k : ℕ) → a ≡ tabulate m c f → i < m → k < c → entry a i k ≡ f i k
entry_is a m c f i k e hi hk = ap (λ a. entry a i k) e ∙ entry-tabulate m c f i k hi hk

rows_is : (a : Matrix) (m c : ℕ) (f : ℕ → ℕ → ℕ) → a ≡ tabulate m c f → a.rows ≡ m
rows_is a m c f e = ap (λ (a : Matrix). a.rows) e ∙ rows-tabulate m c f

cols_is : (a : Matrix) (m c : ℕ) (f : ℕ → ℕ → ℕ) → a ≡ tabulate m c f → cols a ≡ c
cols_is a m c f e = ap cols e ∙ cols-tabulate m c f

-- ---- scaling
scaled_word : ℕ → ℕ → Matrix → ℕ → ℕ → ℕ
scaled_word p alpha b i j = (entry b i j * alpha) % p

scaled-is : (p alpha : ℕ) (b b' : Matrix) (at : Part) → at ≡ whole_part b → b' ≡ with_scaled p b at alpha → b' ≡ tabulate b.rows (cols b) (scaled_word p alpha b)
unfolding scaled_word
scaled-is p alpha b b' at e made = whole_step b b b' at (λ i j. (entry b i j * alpha) % p) (λ i j. (entry b i j * alpha) % p) refl refl e made (λ i j _ _. refl)

-- ---- products
whole_product : (a b : Matrix) (i j : ℕ) → product_word a (whole_part a) b (whole_part b) (i - 0) (j - 0) ≡ sum_to (cols a) (λ k. entry a i k * entry b k j)
whole_product a b i j = λ t. sum_to (before_zero (cols a) t) (λ k. entry a (both_zero i t) (after_zero k t) * entry b (after_zero k t) (both_zero j t))

product_number : (p alpha beta x y s : ℕ) → y ≡ (x * beta) % p → (y + alpha * s) % p ≡ (alpha * s + beta * x) % p
product_number p alpha beta x y s e =
    let one : ((x * beta) % p + alpha * s) % p ≡ (x * beta + alpha * s) % p = simp residues in
    let turned : x * beta + alpha * s ≡ alpha * s + beta * x = omega arith in
    ap (λ z. (z + alpha * s) % p) e ∙ one ∙ ap (λ n. n % p) turned

pub product-is : (p alpha beta : ℕ) (a b c c1 c2 : Matrix) (at pa pb : Part) → at ≡ whole_part c → pa ≡ whole_part a → pb ≡ whole_part b
    → c1 ≡ with_scaled p c at beta → c2 ≡ with_product p c1 at alpha a pa b pb → c2 ≡ product_of p alpha a b beta c
unfolding scaled_word
product-is p alpha beta a b c c1 c2 at pa pb eat ea eb scaled made =
    let c1_is = scaled-is p beta c c1 at eat scaled in
    let parts : c2 ≡ with_product p c1 (whole_part c) alpha a (whole_part a) b (whole_part b) = made ∙ (λ t. with_product p c1 (eat t) alpha a (ea t) b (eb t)) in
    whole_step c c1 c2 (whole_part c) (λ i j. (entry c1 i j + alpha * product_word a (whole_part a) b (whole_part b) (i - 0) (j - 0)) % p)
    (λ i j. (alpha * sum_to (cols a) (λ k. entry a i k * entry b k j) + beta * entry c i j) % p) (rows_is c1 c.rows (cols c) (scaled_word p beta c) c1_is) (cols_is c1 c.rows (cols c) (scaled_word p beta c) c1_is) refl parts
    (λ i j hi hj. ap (λ s. (entry c1 i j + alpha * s) % p) (whole_product a b i j)
    ∙ product_number p alpha beta (entry c i j) (entry c1 i j) (sum_to (cols a) (λ k. entry a i k * entry b k j)) (entry_is c1 c.rows (cols c) (scaled_word p beta c) i j c1_is hi hj))

-- ---- solves
-- a column of n rows reads the first n words alone
column-same : (p : ℕ) (inverse : ℕ → ℕ) (lower unit : Bool) (n : ℕ) (a : ℕ → ℕ → ℕ) (b b' : ℕ → ℕ) → ((i : ℕ) → i < n → b i ≡ b' i) → (i : ℕ) → i < n
    → solved_column p inverse lower unit n a b i ≡ solved_column p inverse lower unit n a b' i
column-same p inverse true unit n a b b' same i h = solution-same p inverse unit a a b b' i (λ _ _ _ _. refl) (λ r hr. same r (omega (arith, h, hr)))
column-same p inverse false unit n a b b' same i h = upper_solution-same p inverse unit n a a b b' (λ _ _ _ _. refl) same i h

pub lower-is : (p : ℕ) (inverse : ℕ → ℕ) (lower unit : Bool) (a b b' : Matrix) (at pa : Part) → lower ≡ true → at ≡ whole_part b → pa ≡ whole_part a
    → b' ≡ with_solved_lower p inverse b at a pa unit → b' ≡ with_columns_solved p inverse lower unit a b
lower-is p inverse lower unit a b b' at pa is eat ea made =
    let parts : b' ≡ with_solved_lower p inverse b (whole_part b) a (whole_part a) unit = made ∙ (λ t. with_solved_lower p inverse b (eat t) a (ea t) unit) in
    whole_step b b b' (whole_part b) (λ i j. solution p inverse unit (part_entry a (whole_part a)) (λ k. part_entry b (whole_part b) k (j - 0)) (i - 0)) (λ i j. solution p inverse unit (entry a) (λ k. entry b k j) i) refl refl refl parts
    (λ i j _ _. (λ t. solution p inverse unit (λ r k. entry a (after_zero r t) (after_zero k t)) (λ k. entry b (after_zero k t) (both_zero j t)) (before_zero i t)))
    ∙ ap (λ l. with_columns_solved p inverse l unit a b) (sym is)

pub upper-is : (p : ℕ) (inverse : ℕ → ℕ) (lower unit : Bool) (a b b' : Matrix) (at pa : Part) → lower ≡ false → b.rows ≡ a.rows → at ≡ whole_part b → pa ≡ whole_part a
    → b' ≡ with_solved_upper p inverse b at a pa unit → b' ≡ with_columns_solved p inverse lower unit a b
upper-is p inverse lower unit a b b' at pa is rows eat ea made =
    let parts : b' ≡ with_solved_upper p inverse b (whole_part b) a (whole_part a) unit = made ∙ (λ t. with_solved_upper p inverse b (eat t) a (ea t) unit) in
    let count : b.rows - 0 ≡ a.rows = before_zero b.rows ∙ rows in
    whole_step b b b' (whole_part b) (λ i j. upper_solution p inverse unit (b.rows - 0) (part_entry a (whole_part a)) (λ k. part_entry b (whole_part b) k (j - 0)) (i - 0))
    (λ i j. upper_solution p inverse unit a.rows (entry a) (λ k. entry b k j) i) refl refl refl parts
    (λ i j _ _. (λ t. upper_solution p inverse unit (count t) (λ r k. entry a (after_zero r t) (after_zero k t)) (λ k. entry b (after_zero k t) (both_zero j t)) (before_zero i t)))
    ∙ ap (λ l. with_columns_solved p inverse l unit a b) (sym is)

-- the columns of b, whose words are g in a shape
pub solved-again : (p : ℕ) (inverse : ℕ → ℕ) (lower unit : Bool) (a b b' : Matrix) (m n : ℕ) (g : ℕ → ℕ → ℕ) → m ≡ a.rows → b ≡ tabulate m n g → b' ≡ with_columns_solved p inverse lower unit a b
    → b' ≡ tabulate m n (λ i j. solved_column p inverse lower unit a.rows (entry a) (λ k. g k j) i)
solved-again p inverse lower unit a b b' m n g rows eb made =
    made ∙ (λ t. tabulate (rows_is b m n g eb t) (cols_is b m n g eb t) (λ i j. solved_column p inverse lower unit a.rows (entry a) (λ k. entry b k j) i))
    ∙ tabulate-same m n _ _ (λ i j hi hj. column-same p inverse lower unit a.rows (entry a) (λ k. entry b k j) (λ k. g k j) (λ k hk. entry_is b m n g k j eb (omega (arith, rows, hk)) hj) i (omega (arith, rows, hi)))

pub triangle-is : (p : ℕ) (inverse : ℕ → ℕ) (lower unit : Bool) (alpha : ℕ) (a b b1 b2 : Matrix) (at : Part) → b.rows ≡ a.rows → at ≡ whole_part b → b1 ≡ with_scaled p b at alpha
    → b2 ≡ with_columns_solved p inverse lower unit a b1 → b2 ≡ tabulate b.rows (cols b) (λ i j. solved_column p inverse lower unit a.rows (entry a) (λ k. (entry b k j * alpha) % p) i)
unfolding scaled_word
triangle-is p inverse lower unit alpha a b b1 b2 at rows eat scaled made =
    solved-again p inverse lower unit a b1 b2 b.rows (cols b) (λ i j. (entry b i j * alpha) % p) rows (scaled-is p alpha b b1 at eat scaled) made

pub factors-are : (p : ℕ) (inverse : ℕ → ℕ) (a b b1 b2 b3 : Matrix) (v : List ℕ) (n : ℕ) → b.rows ≡ a.rows → n ≡ a.rows → b1 ≡ with_rows_exchanged b v 0 n
    → b2 ≡ with_columns_solved p inverse true true a b1 → b3 ≡ with_columns_solved p inverse false false a b2
    → b3 ≡ tabulate b.rows (cols b) (λ i j. solved_with_factors p inverse (entry a) v a.rows (λ k. entry b k j) i)
factors-are p inverse a b b1 b2 b3 v n rows en first second third =
    let b2_is = solved-again p inverse true true a b1 b2 b.rows (cols b) (λ i k. exchanged v 0 n (λ r. entry b r k) i) rows first second in
    solved-again p inverse false false a b2 b3 b.rows (cols b) (λ i j. solution p inverse true (entry a) (exchanged v 0 n (λ r. entry b r j)) i) rows b2_is third
    ∙ (λ t. tabulate b.rows (cols b) (λ i j. upper_solution p inverse false a.rows (entry a) (solution p inverse true (entry a) (exchanged v 0 (en t) (λ k. entry b k j))) i))

-- ---- INFO 0 says that no word of the diagonal is 0
passed : (before x n : ℕ) → (if before == 0 then (if x == 0 then n + 1 else 0) else before) ≡ 0 → (before ≡ 0) × (x ≢ 0)
passed before x n e =
    elim (cases_eq before 0) [
      | inl z ↦
          (let t : (before == 0) ≡ true = eq-eqb before 0 z in
          let rest : (if x == 0 then n + 1 else 0) ≡ 0 = sym (ap (λ (b : Bool). if b then (if x == 0 then n + 1 else 0) else before) t) ∙ e in
          (z, λ xz. (let u : (x == 0) ≡ true = eq-eqb x 0 xz in let bad : n + 1 ≡ 0 = sym (ap (λ (b : Bool). if b then n + 1 else 0) u) ∙ rest in omega arith)))
      | inr some ↦ (let t : (before == 0) ≡ false = ne_eqb before 0 some in absurd (some (sym (ap (λ (b : Bool). if b then (if x == 0 then n + 1 else 0) else before) t) ∙ e)))
    ]

pub no_zero : (c : ℕ → ℕ) (n : ℕ) → least_zero c n ≡ 0 → (i : ℕ) → i < n → c i ≢ 0
unfolding least_zero
no_zero c zero e i h = absurd (omega (arith, h))
no_zero c (suc n) e i h =
    let w = passed (least_zero c n) (c n) n e in
    elim (cases_eq i n) [ inl last ↦ (λ z. w.1 (ap c (sym last) ∙ z)) | inr before ↦ no_zero c n w.0 i (omega (arith, h, before)) ]

-- ---- what the next kernel asks for
pub shapes_multiply : (a b x : Matrix) (at lp rp : Part) → at ≡ whole_part x → lp ≡ whole_part a → rp ≡ whole_part b → a.rows ≡ x.rows → cols b ≡ cols x → cols a ≡ b.rows → ShapesMultiply at lp rp
shapes_multiply a b x at lp rp e el er rows columns inner = rw (e, el, er) (record { rows = ap (λ n. n - 0) (sym rows); columns = ap (λ n. n - 0) (sym columns); inner = ap (λ n. n - 0) inner })

pub shapes_solve : (a b : Matrix) (at bp : Part) → at ≡ whole_part b → bp ≡ whole_part a → cols a ≡ a.rows → b.rows ≡ a.rows → ShapesSolve at bp
shapes_solve a b at bp e ea square rows = rw (e, ea) (record { square = ap (λ n. n - 0) (sym square); rows = ap (λ n. n - 0) rows })

pub rows-scaled : (p alpha : ℕ) (b b' : Matrix) (at : Part) → b' ≡ with_scaled p b at alpha → b'.rows ≡ b.rows
rows-scaled p alpha b b' at e = ap (λ (a : Matrix). a.rows) e ∙ rows-with_part b at _

pub cols-scaled : (p alpha : ℕ) (b b' : Matrix) (at : Part) → b' ≡ with_scaled p b at alpha → cols b' ≡ cols b
cols-scaled p alpha b b' at e = ap cols e ∙ cols-with_part b at _

pub words-scaled : (p alpha : ℕ) (b b' : Matrix) (at : Part) → 0 < p → AreWords p b → b' ≡ with_scaled p b at alpha → AreWords p b'
words-scaled p alpha b b' at pos words e = rw e (AreWords-with_part p b at _ pos words (λ r c. mod-lt (entry b r c * alpha) pos))

pub rows-exchanged : (x y : Matrix) (v : List ℕ) (n : ℕ) → y ≡ with_rows_exchanged x v 0 n → y.rows ≡ x.rows
rows-exchanged x y v n e = ap (λ (a : Matrix). a.rows) e ∙ rows-tabulate x.rows (cols x) _

pub words-exchanged : (p : ℕ) (x y : Matrix) (v : List ℕ) (n : ℕ) → 0 < p → AreWords p x → y ≡ with_rows_exchanged x v 0 n → AreWords p y
words-exchanged p x y v n pos words e = rw e (AreWords-tabulate p x.rows (cols x) _ pos (λ i k _ _. words.below _ _))

pub column-below : (p : ℕ) (inverse : ℕ → ℕ) (lower unit : Bool) (n : ℕ) (a : ℕ → ℕ → ℕ) (b : ℕ → ℕ) (i : ℕ) → 0 < p → solved_column p inverse lower unit n a b i < p
column-below p inverse true unit n a b i pos = solution-below p inverse unit a b i pos
column-below p inverse false unit n a b i pos = upper_solution-below p inverse unit n a b i pos

pub rows-solved : (p : ℕ) (inverse : ℕ → ℕ) (lower unit : Bool) (a b b' : Matrix) → b' ≡ with_columns_solved p inverse lower unit a b → b'.rows ≡ b.rows
rows-solved p inverse lower unit a b b' e = ap (λ (m : Matrix). m.rows) e ∙ rows-tabulate b.rows (cols b) _

pub words-solved : (p : ℕ) (inverse : ℕ → ℕ) (lower unit : Bool) (a b b' : Matrix) → 0 < p → b' ≡ with_columns_solved p inverse lower unit a b → AreWords p b'
words-solved p inverse lower unit a b b' pos e = rw e (AreWords-tabulate p b.rows (cols b) _ pos (λ i j _ _. column-below p inverse lower unit a.rows (entry a) (λ k. entry b k j) i pos))

-- a field has words
pub some_modulus : (p : ℕ) → 32 ≤ p → 0 < p
some_modulus p h = omega (arith, h)

-- the diagonal of all of a matrix has no 0
pub nonzero_part : (a : Matrix) (bp : Part) → bp ≡ whole_part a → ((i : ℕ) → i < a.rows → entry a i i ≢ 0) → (i : ℕ) → i < bp.r1 - bp.r0 → part_entry a bp i i ≢ 0
nonzero_part a bp e passes i h =
    let inside : i < a.rows = subst (λ n. i < n) (ap (λ (b : Part). b.r1 - b.r0) e ∙ before_zero a.rows) h in
    λ z. passes i inside (sym (ap (λ (b : Part). part_entry a b i i) e ∙ (λ t. entry a (after_zero i t) (after_zero i t))) ∙ z)

-- ---- solves that test the diagonal first
pub solved_when : (info : ℕ) (b x : Matrix) (solve : (ℕ → ℕ) → ℕ → ℕ) → info ≡ 0 → x ≡ tabulate b.rows (cols b) (λ i j. solve (λ k. entry b k j) i) → x ≡ (solved_unless info b solve).matrix
solved_when info b x solve e made =
    let t : (info == 0) ≡ true = eq-eqb info 0 e in
    made ∙ sym (ap (λ (c : Bool). if c then tabulate b.rows (cols b) (λ i j. solve (λ k. entry b k j) i) else b) t)

-- INFO of a solve with a triangle
abbrev pub tested : Bool → Matrix → ℕ
tested unit a = if unit then 0 else first_zero a

pub triangle_passes : (unit : Bool) (a : Matrix) (info : ℕ) → info ≡ tested unit a → info ≡ 0 → unit ≡ false → (i : ℕ) → i < a.rows → entry a i i ≢ 0
triangle_passes unit a info found e counts = no_zero (diagonal (entry a)) a.rows (sym (ap (λ (u : Bool). tested u a) counts) ∙ sym found ∙ e)

pub triangle_done : (p : ℕ) (inverse : ℕ → ℕ) (lower unit : Bool) (alpha info : ℕ) (a b b1 b2 : Matrix) (at : Part) → info ≡ tested unit a → info ≡ 0 → b.rows ≡ a.rows → at ≡ whole_part b → b1 ≡ with_scaled p b at alpha
    → b2 ≡ with_columns_solved p inverse lower unit a b1 → b2 ≡ (triangle_solved p inverse lower unit alpha a b).matrix
triangle_done p inverse lower unit alpha info a b b1 b2 at found e rows eat scaled made =
    solved_when (tested unit a) b b2 (λ x. solved_column p inverse lower unit a.rows (entry a) (λ k. (x k * alpha) % p)) (sym found ∙ e) (triangle-is p inverse lower unit alpha a b b1 b2 at rows eat scaled made)

pub factors_pass : (a : Matrix) (info n : ℕ) → n ≡ a.rows → info ≡ least_zero (diagonal (entry a)) n → info ≡ 0 → (i : ℕ) → i < a.rows → entry a i i ≢ 0
factors_pass a info n en found e = no_zero (diagonal (entry a)) a.rows (ap (least_zero (diagonal (entry a))) (sym en) ∙ sym found ∙ e)

pub factors_done : (p : ℕ) (inverse : ℕ → ℕ) (a b b1 b2 b3 : Matrix) (v : List ℕ) (info n : ℕ) → n ≡ a.rows → info ≡ least_zero (diagonal (entry a)) n → info ≡ 0 → b.rows ≡ a.rows → b1 ≡ with_rows_exchanged b v 0 n
    → b2 ≡ with_columns_solved p inverse true true a b1 → b3 ≡ with_columns_solved p inverse false false a b2 → b3 ≡ (factors_solved p inverse a v b).matrix
factors_done p inverse a b b1 b2 b3 v info n en found e rows first second third =
    solved_when (first_zero a) b b3 (solved_with_factors p inverse (entry a) v a.rows) (ap (least_zero (diagonal (entry a))) (sym en) ∙ sym found ∙ e) (factors-are p inverse a b b1 b2 b3 v n rows en first second third)
