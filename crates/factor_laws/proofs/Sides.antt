-- Triangular solves from both sides, with a triangle or its transpose, and solves with factors of a transpose, on whole matrices.
use Rattle.std.proofs.Common.{◌≡◌, ◌≢◌, ℕ, ◌*◌, ◌%◌, ◌<◌, ◌==◌, Bool, true, false, not, if◌then◌else◌, List, refl, sym, ◌∙◌, ap, arith, subst, eq-eqb}
use Rattle.std.proofs.Math.Nat.{mod-eq_of_lt, mod-mod}
use Rattle.std.proofs.lemmas.Bool.{ne_eqb}
use Rattle.field_core.specs.Sums.{sum_to}
use Rattle.field_core.proofs.Sums.{sum_to-same}
use Rattle.run_data.specs.Matrix.{Matrix, cols, entry, IsShaped, AreWords, tabulate}
use Rattle.run_data.proofs.Matrices.{rows-tabulate, cols-tabulate, entry-tabulate, IsShaped-tabulate, same_matrices}
use Rattle.serial_model.specs.Elimination.{elimination_of, eliminated_matrix, least_zero, diagonal}
use Rattle.serial_model.specs.Solves.{product_of, solved_column, triangle_solved, first_zero}
use Rattle.elimination.proofs.Info.{least_zero-same}
use Rattle.elimination.proofs.Words.{ready-matrix}
use Rattle.local_blas.specs.Kernels.{solution}
use Rattle.local_blas.proofs.SolutionLaws.{solution-same}
use Rattle.local_blas.proofs.UpperSolutions.{upper_solution-same}
use Rattle.serial_model.specs.Transposes.{transposed, came_back_from, left_solved, side_solved, trans_solved, transposed_solved, flipped}
use Rattle.factor_laws.specs.Triangles.{Inverts, triangle_word, triangle_of, transposed_if, multiplied}
use Rattle.factor_laws.proofs.Triangles.{Divides, divides-one, divides-word}
use Rattle.factor_laws.proofs.Solves.{IsFactored, factored-of, least_zero-found_none}
use Rattle.factor_laws.proofs.Exchanges.{came_back_from-below}
use Rattle.factor_laws.proofs.Matrices.{product-equals, triangle-same, first_zero-is_info, square_elimination, square-is, matrix-is}
use Rattle.factor_laws.proofs.Transposes.{triangle-flipped, column-meets, transpose-solve}

-- INFO of a triangular solve
abbrev pub info_of : Bool → Matrix → ℕ
info_of unit a = if unit then 0 else first_zero a

-- a transpose has the words of the other place
pub entry-transposed : (a : Matrix) (i j : ℕ) → i < cols a → j < a.rows → entry (transposed a) i j ≡ entry a j i
entry-transposed a i j hi hj = entry-tabulate (cols a) a.rows (λ i j. entry a j i) i j hi hj

pub rows-transposed : (a : Matrix) → (transposed a).rows ≡ cols a
rows-transposed a = rows-tabulate (cols a) a.rows (λ i j. entry a j i)

pub cols-transposed : (a : Matrix) → cols (transposed a) ≡ a.rows
cols-transposed a = cols-tabulate (cols a) a.rows (λ i j. entry a j i)

pub IsShaped-transposed : (a : Matrix) → IsShaped (transposed a)
IsShaped-transposed a = IsShaped-tabulate (cols a) a.rows (λ i j. entry a j i)

-- the transpose of the transpose
pub transposed-transposed : (a : Matrix) → IsShaped a → transposed (transposed a) ≡ a
transposed-transposed a shaped =
    same_matrices (transposed (transposed a)) a (IsShaped-transposed (transposed a)) shaped (rows-transposed (transposed a) ∙ cols-transposed a) (cols-transposed (transposed a) ∙ rows-transposed a)
    (λ i j hi hj. entry-transposed (transposed a) i j (subst (λ n. i < n) (sym (cols-transposed a)) hi) (subst (λ n. j < n) (sym (rows-transposed a)) hj) ∙ entry-transposed a j i hj hi)

-- a square matrix and its transpose have one diagonal
pub first_zero-transposed : (a : Matrix) → cols a ≡ a.rows → first_zero (transposed a) ≡ first_zero a
first_zero-transposed a square =
    ap (least_zero (diagonal (entry (transposed a)))) (rows-transposed a ∙ square)
    ∙ least_zero-same (diagonal (entry (transposed a))) (diagonal (entry a)) a.rows (λ i h. entry-transposed a i i (subst (λ n. i < n) (sym square) h) h)

pub info_of-transposed : (unit : Bool) (a : Matrix) → cols a ≡ a.rows → info_of unit (transposed a) ≡ info_of unit a
info_of-transposed unit a square = ap (λ n. if unit then 0 else n) (first_zero-transposed a square)

-- the shape of what a solve gives
unless_rows : (q : Bool) (b : Matrix) (g : ℕ → ℕ → ℕ) → (if q then tabulate b.rows (cols b) g else b).rows ≡ b.rows
unless_rows true b g = rows-tabulate b.rows (cols b) g
unless_rows false b g = refl

unless_cols : (q : Bool) (b : Matrix) (g : ℕ → ℕ → ℕ) → cols (if q then tabulate b.rows (cols b) g else b) ≡ cols b
unless_cols true b g = cols-tabulate b.rows (cols b) g
unless_cols false b g = refl

unless_stays : (n : ℕ) (b : Matrix) (g : ℕ → ℕ → ℕ) → n ≢ 0 → (if n == 0 then tabulate b.rows (cols b) g else b) ≡ b
unless_stays n b g some = (let t : (n == 0) ≡ false = ne_eqb n 0 some in ap (λ q. if q then tabulate b.rows (cols b) g else b) t)

unless_entry : (n : ℕ) (b : Matrix) (g : ℕ → ℕ → ℕ) (i j : ℕ) → n ≡ 0 → i < b.rows → j < cols b → entry (if n == 0 then tabulate b.rows (cols b) g else b) i j ≡ g i j
unless_entry n b g i j none hi hj =
    (let t : (n == 0) ≡ true = eq-eqb n 0 none in ap (λ q. entry (if q then tabulate b.rows (cols b) g else b) i j) t) ∙ entry-tabulate b.rows (cols b) g i j hi hj

pub left-rows : (p : ℕ) (inverse : ℕ → ℕ) (trans lower unit : Bool) (alpha : ℕ) (a b : Matrix) → (left_solved p inverse trans lower unit alpha a b).matrix.rows ≡ b.rows
left-rows p inverse true lower unit alpha a b = unless_rows (info_of unit (transposed a) == 0) b _
left-rows p inverse false lower unit alpha a b = unless_rows (info_of unit a == 0) b _

pub left-cols : (p : ℕ) (inverse : ℕ → ℕ) (trans lower unit : Bool) (alpha : ℕ) (a b : Matrix) → cols (left_solved p inverse trans lower unit alpha a b).matrix ≡ cols b
left-cols p inverse true lower unit alpha a b = unless_cols (info_of unit (transposed a) == 0) b _
left-cols p inverse false lower unit alpha a b = unless_cols (info_of unit a == 0) b _

pub left-info : (p : ℕ) (inverse : ℕ → ℕ) (trans lower unit : Bool) (alpha : ℕ) (a b : Matrix) → cols a ≡ a.rows → (left_solved p inverse trans lower unit alpha a b).info ≡ info_of unit a
left-info p inverse true lower unit alpha a b square = info_of-transposed unit a square
left-info p inverse false lower unit alpha a b square = refl

pub left-stays : (p : ℕ) (inverse : ℕ → ℕ) (trans lower unit : Bool) (alpha : ℕ) (a b : Matrix) → cols a ≡ a.rows → info_of unit a ≢ 0 → (left_solved p inverse trans lower unit alpha a b).matrix ≡ b
left-stays p inverse true lower unit alpha a b square some = unless_stays (info_of unit (transposed a)) b _ (λ e. some (sym (info_of-transposed unit a square) ∙ e))
left-stays p inverse false lower unit alpha a b square some = unless_stays (info_of unit a) b _ some

-- a triangle of a matrix divides
pub divides-triangle : (p : ℕ) (inverse : ℕ → ℕ) (unit : Bool) (a : Matrix) → Inverts p inverse → AreWords p a → info_of unit a ≡ 0 → (i : ℕ) → i < a.rows → Divides p inverse unit (entry a i i)
divides-triangle p inverse true a inverts words none i h = divides-one p inverse (entry a i i)
divides-triangle p inverse false a inverts words none i h = divides-word p inverse (entry a i i) inverts (least_zero-found_none (diagonal (entry a)) a.rows none i h) (words.below i i)

-- what a triangle meets, row by row: a is square, of n rows
plain_words : (p : ℕ) (inverse : ℕ → ℕ) (lower unit : Bool) (alpha n : ℕ) (a b : Matrix) (i j : ℕ) → 0 < p → a.rows ≡ n → ((i : ℕ) → i < n → Divides p inverse unit (entry a i i)) → info_of unit a ≡ 0 → b.rows ≡ n → i < n → j < cols b → sum_to n (λ k. triangle_word lower unit (entry a) i k * entry (triangle_solved p inverse lower unit alpha a b).matrix k j) % p ≡ (entry b i j * alpha) % p
plain_words p inverse lower unit alpha n a b i j pos_p ea divides none eb hi hj =
    let col : ℕ → ℕ = λ k. (entry b k j * alpha) % p in
    let g : ℕ → ℕ → ℕ = λ i j. solved_column p inverse lower unit a.rows (entry a) (λ k. (entry b k j * alpha) % p) i in
    ap (λ s. s % p)
    (sum_to-same n (λ k. triangle_word lower unit (entry a) i k * entry (triangle_solved p inverse lower unit alpha a b).matrix k j) (λ k. triangle_word lower unit (entry a) i k * solved_column p inverse lower unit n (entry a) col k)
    (λ k hk. ap (λ y. triangle_word lower unit (entry a) i k * y)
    (unless_entry (info_of unit a) b g k j none (omega arith) hj ∙ ap (λ r. solved_column p inverse lower unit r (entry a) col k) ea)))
    ∙ column-meets p inverse lower unit (entry a) col n i pos_p hi (divides i hi) ∙ mod-mod (entry b i j * alpha) p

-- the words of op of a triangle
op_entry : (trans lower unit : Bool) (a : Matrix) (i k : ℕ) → cols a ≡ a.rows → i < a.rows → k < a.rows → entry (transposed_if trans (triangle_of lower unit a)) i k ≡ (if trans then triangle_word lower unit (entry a) k i else triangle_word lower unit (entry a) i k)
op_entry true lower unit a i k square hi hk =
    let g = triangle_word lower unit (entry a) in
    entry-transposed (triangle_of lower unit a) i k (rw cols-tabulate (omega arith)) (rw rows-tabulate hk)
    ∙ entry-tabulate a.rows (cols a) g k i hk (omega arith)
op_entry false lower unit a i k square hi hk = entry-tabulate a.rows (cols a) (triangle_word lower unit (entry a)) i k hi (omega arith)

pub op-cols : (trans lower unit : Bool) (a : Matrix) → cols a ≡ a.rows → cols (transposed_if trans (triangle_of lower unit a)) ≡ a.rows
op-cols true lower unit a square = cols-transposed (triangle_of lower unit a) ∙ rows-tabulate a.rows (cols a) (triangle_word lower unit (entry a))
op-cols false lower unit a square = cols-tabulate a.rows (cols a) (triangle_word lower unit (entry a)) ∙ square

-- what op of a triangle meets, row by row
pub left-words : (p : ℕ) (inverse : ℕ → ℕ) (trans lower unit : Bool) (alpha : ℕ) (a b : Matrix) (i j : ℕ) → 0 < p → Inverts p inverse → AreWords p a → cols a ≡ a.rows → info_of unit a ≡ 0 → b.rows ≡ a.rows → i < a.rows → j < cols b → sum_to a.rows (λ k. entry (transposed_if trans (triangle_of lower unit a)) i k * entry (left_solved p inverse trans lower unit alpha a b).matrix k j) % p ≡ (entry b i j * alpha) % p
left-words p inverse true lower unit alpha a b i j pos_p inverts words square none eb hi hj =
    let n = a.rows in
    let a' = transposed a in
    let same : (i k : ℕ) → i < n → k < n → entry a' i k ≡ entry a k i = λ i k hi hk. entry-transposed a i k (omega arith) hk in
    let x = (triangle_solved p inverse (not lower) unit alpha a' b).matrix in
    ap (λ s. s % p)
    (sum_to-same n (λ k. entry (transposed_if true (triangle_of lower unit a)) i k * entry x k j) (λ k. triangle_word (not lower) unit (entry a') i k * entry x k j)
    (λ k hk. ap (λ y. y * entry x k j) (op_entry true lower unit a i k square hi hk ∙ sym (triangle-flipped lower unit (entry a) i k) ∙ triangle-same (not lower) unit (flipped (entry a)) (entry a') i k (sym (same i k hi hk)))))
    ∙ plain_words p inverse (not lower) unit alpha n a' b i j pos_p (rows-transposed a ∙ square)
    (λ r hr. subst (Divides p inverse unit) (sym (same r r hr hr)) (divides-triangle p inverse unit a inverts words none r hr))
    (info_of-transposed unit a square ∙ none) eb hi hj
left-words p inverse false lower unit alpha a b i j pos_p inverts words square none eb hi hj =
    let x = (triangle_solved p inverse lower unit alpha a b).matrix in
    ap (λ s. s % p)
    (sum_to-same a.rows (λ k. entry (triangle_of lower unit a) i k * entry x k j) (λ k. triangle_word lower unit (entry a) i k * entry x k j)
    (λ k hk. ap (λ y. y * entry x k j) (op_entry false lower unit a i k square hi hk)))
    ∙ plain_words p inverse lower unit alpha a.rows a b i j pos_p refl (divides-triangle p inverse unit a inverts words none) none eb hi hj

-- from the left: op(A) X = alpha B
pub left-solves : (p : ℕ) (inverse : ℕ → ℕ) (trans lower unit : Bool) (alpha : ℕ) (a b c : Matrix) → 0 < p → Inverts p inverse → AreWords p a → cols a ≡ a.rows → info_of unit a ≡ 0 → b.rows ≡ a.rows → c.rows ≡ b.rows → cols c ≡ cols b → product_of p 1 (transposed_if trans (triangle_of lower unit a)) (side_solved p inverse true trans lower unit alpha a b).matrix 0 c ≡ multiplied p alpha b
left-solves p inverse trans lower unit alpha a b c pos_p inverts words square none eb er ec =
    let g : ℕ → ℕ → ℕ = λ i j. (entry b i j * alpha) % p in
    let m = transposed_if trans (triangle_of lower unit a) in
    let x = (left_solved p inverse trans lower unit alpha a b).matrix in
    product-equals p m x c (multiplied p alpha b) (IsShaped-tabulate b.rows (cols b) g) (rows-tabulate b.rows (cols b) g ∙ sym er) (cols-tabulate b.rows (cols b) g ∙ sym ec)
    (λ i j hi hj.
    let hi' : i < b.rows = rw rows-tabulate at hi in
    let hj' : j < cols b = rw cols-tabulate at hj in
    ap (λ q. sum_to q (λ k. entry m i k * entry x k j) % p) (op-cols trans lower unit a square)
    ∙ left-words p inverse trans lower unit alpha a b i j pos_p inverts words square none eb (omega arith) hj'
    ∙ sym (entry-tabulate b.rows (cols b) g i j hi' hj'))

-- op of a triangle and of its transpose
op_other : (trans lower unit : Bool) (a : Matrix) (i k : ℕ) → cols a ≡ a.rows → i < a.rows → k < a.rows → entry (transposed_if trans (triangle_of lower unit a)) k i ≡ entry (transposed_if (not trans) (triangle_of lower unit a)) i k
op_other true lower unit a i k square hi hk = op_entry true lower unit a k i square hk hi ∙ sym (op_entry false lower unit a i k square hi hk)
op_other false lower unit a i k square hi hk = op_entry false lower unit a k i square hk hi ∙ sym (op_entry true lower unit a i k square hi hk)

-- from the right: X op(A) = alpha B
pub right-solves : (p : ℕ) (inverse : ℕ → ℕ) (trans lower unit : Bool) (alpha : ℕ) (a b c : Matrix) → 0 < p → Inverts p inverse → AreWords p a → cols a ≡ a.rows → info_of unit a ≡ 0 → cols b ≡ a.rows → c.rows ≡ b.rows → cols c ≡ cols b → product_of p 1 (side_solved p inverse false trans lower unit alpha a b).matrix (transposed_if trans (triangle_of lower unit a)) 0 c ≡ multiplied p alpha b
right-solves p inverse trans lower unit alpha a b c pos_p inverts words square none eb er ec =
    let n = a.rows in
    let g : ℕ → ℕ → ℕ = λ i j. (entry b i j * alpha) % p in
    let m = transposed_if trans (triangle_of lower unit a) in
    let b' = transposed b in
    let y = (left_solved p inverse (not trans) lower unit alpha a b').matrix in
    let x = transposed y in
    let rows_y : y.rows ≡ n = left-rows p inverse (not trans) lower unit alpha a b' ∙ rows-transposed b ∙ eb in
    let cols_y : cols y ≡ b.rows = left-cols p inverse (not trans) lower unit alpha a b' ∙ cols-transposed b in
    product-equals p x m c (multiplied p alpha b) (IsShaped-tabulate b.rows (cols b) g) (rows-tabulate b.rows (cols b) g ∙ sym er) (cols-tabulate b.rows (cols b) g ∙ sym ec)
    (λ i j hi hj.
    let hi' : i < b.rows = rw rows-tabulate at hi in
    let hj' : j < cols b = rw cols-tabulate at hj in
    let hn : j < n = omega arith in
    ap (λ q. sum_to q (λ k. entry x i k * entry m k j) % p) (cols-transposed y ∙ rows_y)
    ∙ ap (λ s. s % p) (sum_to-same n (λ k. entry x i k * entry m k j) (λ k. entry (transposed_if (not trans) (triangle_of lower unit a)) j k * entry y k i)
    (λ k hk. ap (λ z. z * entry m k j) (entry-transposed y i k (subst (λ q. i < q) (sym cols_y) hi') (subst (λ q. k < q) (sym rows_y) hk))
    ∙ ap (λ z. entry y k i * z) (op_other trans lower unit a j k square hn hk)
    ∙ turn (entry y k i) (entry (transposed_if (not trans) (triangle_of lower unit a)) j k)))
    ∙ left-words p inverse (not trans) lower unit alpha a b' j i pos_p inverts words square none (rows-transposed b ∙ eb) hn (subst (λ q. i < q) (sym (cols-transposed b)) hi')
    ∙ ap (λ z. (z * alpha) % p) (entry-transposed b j i hj' hi')
    ∙ sym (entry-tabulate b.rows (cols b) g i j hi' hj'))
  where
    turn : (a b : ℕ) → a * b ≡ b * a
    turn a b = omega arith

-- INFO is that of A, from either side
pub side-info : (p : ℕ) (inverse : ℕ → ℕ) (left trans lower unit : Bool) (alpha : ℕ) (a b : Matrix) → cols a ≡ a.rows → (side_solved p inverse left trans lower unit alpha a b).info ≡ info_of unit a
side-info p inverse true trans lower unit alpha a b square = left-info p inverse trans lower unit alpha a b square
side-info p inverse false trans lower unit alpha a b square = left-info p inverse (not trans) lower unit alpha a (transposed b) square

-- and where it is not 0 B stays
pub side-stays : (p : ℕ) (inverse : ℕ → ℕ) (left trans lower unit : Bool) (alpha : ℕ) (a b : Matrix) → cols a ≡ a.rows → IsShaped b → info_of unit a ≢ 0 → (side_solved p inverse left trans lower unit alpha a b).matrix ≡ b
side-stays p inverse true trans lower unit alpha a b square shaped some = left-stays p inverse trans lower unit alpha a b square some
side-stays p inverse false trans lower unit alpha a b square shaped some =
    ap transposed (left-stays p inverse (not trans) lower unit alpha a (transposed b) square some) ∙ transposed-transposed b shaped

-- a solve with the transpose of factors reads the first n rows and columns alone
transposed_solved-same : (p : ℕ) (inverse : ℕ → ℕ) (n : ℕ) (f g : ℕ → ℕ → ℕ) (v : List ℕ) (b : ℕ → ℕ) (i : ℕ) → i < n → came_back_from v 0 n i < n → ((r k : ℕ) → r < n → k < n → f r k ≡ g r k) → transposed_solved p inverse f v n b i ≡ transposed_solved p inverse g v n b i
transposed_solved-same p inverse n f g v b i h hq same =
    upper_solution-same p inverse true n (flipped f) (flipped g) (solution p inverse false (flipped f) b) (solution p inverse false (flipped g) b) (λ r k hr hk. same k r hk hr)
    (λ r hr. solution-same p inverse false (flipped f) (flipped g) b b r (λ q k hq hk. same k q (omega arith) (omega arith)) (λ q _. refl)) (came_back_from v 0 n i) hq

transpose_matrix : (p : ℕ) (inverse : ℕ → ℕ) (n : ℕ) (w : ℕ → ℕ → ℕ) (v : List ℕ) (a b c : Matrix) → IsFactored p inverse n (entry a) w v → first_zero (tabulate n n w) ≡ 0 → cols a ≡ n → a.rows ≡ n → IsShaped b → AreWords p b → b.rows ≡ n → c.rows ≡ b.rows → cols c ≡ cols b → product_of p 1 (transposed a) (trans_solved p inverse true (tabulate n n w) v b).matrix 0 c ≡ b
transpose_matrix p inverse n w v a b c known none square ea shaped words eb er ec =
    let f = tabulate n n w in
    let x = (trans_solved p inverse true f v b).matrix in
    let g : ℕ → ℕ → ℕ = λ i j. transposed_solved p inverse (entry f) v f.rows (λ k. entry b k j) i in
    product-equals p (transposed a) x c b shaped (sym er) (sym ec)
    (λ i j hi hj.
    let h : i < n = omega arith in
    ap (λ q. sum_to q (λ k. entry (transposed a) i k * entry x k j) % p) (cols-transposed a ∙ ea)
    ∙ ap (λ s. s % p) (sum_to-same n (λ k. entry (transposed a) i k * entry x k j) (λ k. entry a k i * transposed_solved p inverse w v n (λ k. entry b k j) k)
    (λ k hk. ap (λ y. y * entry x k j) (entry-transposed a i k (omega arith) (omega arith))
    ∙ ap (λ y. entry a k i * y)
    (unless_entry (first_zero f) b g k j none (omega arith) hj
    ∙ ap (λ r. transposed_solved p inverse (entry f) v r (λ k. entry b k j) k) (rows-tabulate n n w)
    ∙ transposed_solved-same p inverse n (entry f) w v (λ k. entry b k j) k hk (came_back_from-below v 0 n n k (omega arith) known.rows hk) (λ r q hr hq. entry-tabulate n n w r q hr hq))))
    ∙ transpose-solve p inverse n (entry a) w v (λ k. entry b k j) i known h ∙ mod-eq_of_lt (words.below i j))

-- the solve with the transpose of the factors solves A^T X = B
pub transposed_system-solved : (p : ℕ) (inverse : ℕ → ℕ) (a b c : Matrix) → Inverts p inverse → IsShaped a → AreWords p a → cols a ≡ a.rows → (elimination_of p inverse a).info ≡ 0 → IsShaped b → AreWords p b → b.rows ≡ a.rows → c.rows ≡ b.rows → cols c ≡ cols b → product_of p 1 (transposed a) (trans_solved p inverse true (eliminated_matrix p inverse a) (elimination_of p inverse a).pivots b).matrix 0 c ≡ b
transposed_system-solved p inverse a b c inverts shaped words square none shaped_b words_b eb er ec =
    let n = a.rows in
    let s = square_elimination p inverse a in
    let whole : elimination_of p inverse a ≡ s = square-is p inverse a square in
    let matrix : eliminated_matrix p inverse a ≡ tabulate n n s.words = matrix-is p inverse a square in
    let none_here : s.info ≡ 0 = ap (λ t. t.info) (sym whole) ∙ none in
    let zero_none : first_zero (tabulate n n s.words) ≡ 0 = ap first_zero (sym matrix) ∙ first_zero-is_info p inverse a shaped words square ∙ none in
    ap (λ f. product_of p 1 (transposed a) (trans_solved p inverse true f (elimination_of p inverse a).pivots b).matrix 0 c) matrix
    ∙ ap (λ t. product_of p 1 (transposed a) (trans_solved p inverse true (tabulate n n s.words) t.pivots b).matrix 0 c) whole
    ∙ transpose_matrix p inverse n s.words s.pivots a b c (factored-of p inverse n (entry a) inverts (ready-matrix p a shaped words) none_here) zero_none square refl shaped_b words_b eb er ec
