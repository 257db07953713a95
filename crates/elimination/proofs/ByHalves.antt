-- A strip that is cut in two: its left half is eliminated and carried to the right half, then that one is eliminated, and the rows of the left half are exchanged.
use Rattle.std.proofs.Common.{◌≡◌, ℕ, ◌+◌, ◌-◌, ◌≤◌, ◌/◌, List, length, refl, sym, ◌∙◌, ap, arith, get_or}
use Rattle.run_data.specs.Matrix.{Matrix, cols, IsShaped}
use Rattle.local_blas.specs.Kernels.{AreWords}
use Rattle.serial_model.specs.Elimination.{Eliminated, eliminate_columns}
use Rattle.elimination.specs.Panels.{IsReady}
use Rattle.elimination.specs.Whole.{AreRows, cut_columns, with_columns, with_rows_exchanged, with_carried, strip_of_words, strip_state}
use Rattle.elimination.proofs.PanelLaws.{ready-columns, columns-split}
use Rattle.elimination.proofs.Numbers.{columns-count, columns-rows}
use Rattle.elimination.proofs.WholeLoops.{strip_after, strip_ready}
use Rattle.elimination.proofs.Pieces.{IsPiece, strip_piece, piece_cut, piece_eliminated, piece_list, piece_exchanged, piece_carried, IsFilled, filled_nowhere, next_put, last_put}

-- the strip after the n columns of its left half, and then k columns more
abbrev pub strip_then : ℕ → (ℕ → ℕ) → ℕ → ℕ → ℕ → Matrix → List ℕ → Eliminated
strip_then p inverse first n k a v = eliminate_columns p inverse a.rows (first + n) k (strip_after p inverse first n a v)

-- a strip that has words, and the list of as many pivots as there are columns left of it
pub record IsStrip (p first n : ℕ) (a : Matrix) (v : List ℕ) : Type 0 where
  pub shaped : IsShaped a
  pub words : AreWords p a
  pub count : length v ≡ first
  pub inside : first + n ≤ a.rows
  pub columns : n ≤ cols a

-- a strip of which n columns are to be eliminated, and half of them
pub half_strip : (p first n : ℕ) (a : Matrix) (v : List ℕ) → IsShaped a → AreWords p a → length v ≡ first → first + n ≤ a.rows → n ≤ cols a → IsStrip p first (n / 2) a v
half_strip p first n a v shaped words count inside columns = record { shaped = shaped; words = words; count = count; inside = omega arith; columns = omega arith }

pub ready_before : (p first n : ℕ) (a : Matrix) (v : List ℕ) → IsStrip p first n a v → IsReady p a.rows first (strip_state first a v)
ready_before p first n a v strip = strip_ready p first a v strip.shaped strip.words strip.count

pub ready_between : (p : ℕ) (inverse : ℕ → ℕ) (first n : ℕ) (a : Matrix) (v : List ℕ) → IsStrip p first n a v → IsReady p a.rows (first + n) (strip_after p inverse first n a v)
ready_between p inverse first n a v strip = ready-columns p inverse a.rows first n (strip_state first a v) strip.inside (ready_before p first n a v strip)

pub left_cut : (p first n : ℕ) (a b : Matrix) (v : List ℕ) → IsStrip p first n a v → b ≡ cut_columns a 0 n → IsPiece a.rows first (first + n) (strip_state first a v) b
left_cut p first n a b v strip e =
    piece_cut p a.rows first first (first + cols a) 0 n first (first + n) (strip_state first a v) a b (ready_before p first n a v strip) (strip_piece first a v strip.shaped) e (omega arith) refl (omega (arith, strip.columns))

pub right_cut : (p first n : ℕ) (a b : Matrix) (v : List ℕ) → IsStrip p first n a v → b ≡ cut_columns a n (cols a) → IsPiece a.rows (first + n) (first + cols a) (strip_state first a v) b
right_cut p first n a b v strip e =
    piece_cut p a.rows first first (first + cols a) n (cols a) (first + n) (first + cols a) (strip_state first a v) a b (ready_before p first n a v strip) (strip_piece first a v strip.shaped) e refl refl (omega arith)

-- the left half is eliminated
pub left_done : (p : ℕ) (inverse : ℕ → ℕ) (first n : ℕ) (a b b' : Matrix) (v : List ℕ) → IsStrip p first n a v → b ≡ cut_columns a 0 n → b' ≡ strip_of_words b.rows (cols b) first (eliminate_columns p inverse b.rows first n (strip_state first b v)).words → IsPiece a.rows first (first + n) (strip_after p inverse first n a v) b'
left_done p inverse first n a b b' v strip e made =
    piece_eliminated p inverse a.rows first (first + n) n (strip_state first a v) b b' v strip.inside (omega arith) (ready_before p first n a v strip) (left_cut p first n a b v strip e) refl made

pub left_list : (p : ℕ) (inverse : ℕ → ℕ) (first n : ℕ) (a b : Matrix) (v w : List ℕ) → IsStrip p first n a v → b ≡ cut_columns a 0 n → w ≡ (eliminate_columns p inverse b.rows first n (strip_state first b v)).pivots → w ≡ (strip_after p inverse first n a v).pivots
left_list p inverse first n a b v w strip e made =
    piece_list p inverse a.rows first (first + n) n (strip_state first a v) b v w (omega arith) (left_cut p first n a b v strip e) refl made

-- and carried to the right one
pub right_carried : (p : ℕ) (inverse : ℕ → ℕ) (first n : ℕ) (a left b b' : Matrix) (v w u : List ℕ) → IsStrip p first n a v → IsPiece a.rows first (first + n) (strip_after p inverse first n a v) left → w ≡ (strip_after p inverse first n a v).pivots → u ≡ w → b ≡ cut_columns a n (cols a) → b' ≡ with_carried p inverse b left u first n → IsPiece a.rows (first + n) (first + cols a) (strip_after p inverse first n a v) b'
right_carried p inverse first n a left b b' v w u strip panel list same e made =
    piece_carried p inverse a.rows (first + n) (first + cols a) first (first + n) n (strip_state first a v) left b b' u strip.inside (omega arith) (omega arith) (ready_before p first n a v strip) panel (same ∙ list)
    (right_cut p first n a b v strip e) made

-- which is eliminated from there
pub right_done : (p : ℕ) (inverse : ℕ → ℕ) (first n k : ℕ) (a b b' : Matrix) (v w : List ℕ) → IsStrip p first n a v → first + n + k ≤ a.rows → n + k ≤ cols a → IsPiece a.rows (first + n) (first + cols a) (strip_after p inverse first n a v) b → w ≡ (strip_after p inverse first n a v).pivots → b' ≡ strip_of_words b.rows (cols b) (first + n) (eliminate_columns p inverse b.rows (first + n) k (strip_state (first + n) b w)).words → IsPiece a.rows (first + n) (first + cols a) (strip_then p inverse first n k a v) b'
right_done p inverse first n k a b b' v w strip inside narrow piece list made =
    piece_eliminated p inverse a.rows (first + n) (first + cols a) k (strip_after p inverse first n a v) b b' w inside (omega arith) (ready_between p inverse first n a v strip) piece list made

pub right_list : (p : ℕ) (inverse : ℕ → ℕ) (first n k : ℕ) (a b : Matrix) (v w x : List ℕ) → n + k ≤ cols a → IsPiece a.rows (first + n) (first + cols a) (strip_after p inverse first n a v) b → w ≡ (strip_after p inverse first n a v).pivots → x ≡ (eliminate_columns p inverse b.rows (first + n) k (strip_state (first + n) b w)).pivots → x ≡ (strip_then p inverse first n k a v).pivots
right_list p inverse first n k a b v w x narrow piece list made =
    piece_list p inverse a.rows (first + n) (first + cols a) k (strip_after p inverse first n a v) b w x (omega arith) piece list made

-- the rows of the left half are exchanged
pub left_exchanged : (p : ℕ) (inverse : ℕ → ℕ) (first n k : ℕ) (a b b' : Matrix) (v x u : List ℕ) → IsStrip p first n a v → first + n + k ≤ a.rows → IsPiece a.rows first (first + n) (strip_after p inverse first n a v) b → x ≡ (strip_then p inverse first n k a v).pivots → u ≡ x → b' ≡ with_rows_exchanged b u (first + n) k → IsPiece a.rows first (first + n) (strip_then p inverse first n k a v) b'
left_exchanged p inverse first n k a b b' v x u strip inside piece list same made =
    piece_exchanged p inverse a.rows first (first + n) (first + n) k (strip_after p inverse first n a v) b b' u inside (omega arith) (ready_between p inverse first n a v strip) piece (same ∙ list) made

-- the two halves are all of the strip
then_is : (p : ℕ) (inverse : ℕ → ℕ) (first n k all : ℕ) (a : Matrix) (v : List ℕ) → all ≡ n + k → strip_then p inverse first n k a v ≡ strip_after p inverse first all a v
then_is p inverse first n k all a v e = sym (ap (λ c. strip_after p inverse first c a v) e ∙ columns-split p inverse a.rows first n k (strip_state first a v))

pub halves_joined : (p : ℕ) (inverse : ℕ → ℕ) (first n k all end : ℕ) (a left right b c : Matrix) (v : List ℕ) → n ≤ cols a → all ≡ n + k → IsPiece a.rows first (first + n) (strip_then p inverse first n k a v) left → IsPiece a.rows (first + n) (first + cols a) (strip_then p inverse first n k a v) right → b ≡ with_columns a 0 n left → c ≡ with_columns b n end right → end ≡ cols a → c ≡ strip_of_words a.rows (cols a) first (strip_after p inverse first all a v).words
halves_joined p inverse first n k all end a left right b c v narrow e is_left is_right eb ec e_end =
    let s = strip_then p inverse first n k a v in
    let m = a.rows in
    let hi = first + cols a in
    let width : hi - first ≡ cols a = omega arith in
    let half : IsFilled m first (first + n) hi s b =
    next_put m first first (first + n) hi 0 n s a b left (filled_nowhere m first hi s a refl (omega arith)) is_left (omega arith) (omega arith) (omega arith) (omega arith) (omega arith) eb in
    last_put m first (first + n) hi n end s b c right half is_right (omega arith) (omega arith) (omega arith) (omega arith) ec
    ∙ ap (λ w. strip_of_words m w first s.words) width
    ∙ ap (λ s. strip_of_words m (cols a) first s.words) (then_is p inverse first n k all a v e)

pub list_joined : (p : ℕ) (inverse : ℕ → ℕ) (first n k all : ℕ) (a : Matrix) (v x : List ℕ) → all ≡ n + k → x ≡ (strip_then p inverse first n k a v).pivots → x ≡ (strip_after p inverse first all a v).pivots
list_joined p inverse first n k all a v x e list = list ∙ ap (λ s. s.pivots) (then_is p inverse first n k all a v e)

-- ---- what the lists are

rows_named : (v w : List ℕ) (first n m k : ℕ) → v ≡ w → k ≡ m → AreRows w first n m → AreRows v first n k
rows_named v w first n m k ev ek rows = record { from = λ j h1 h2. omega (arith, rows.from j h1 h2, ap (λ v. get_or v j 0) ev); to = λ j h1 h2. omega (arith, rows.to j h1 h2, ap (λ v. get_or v j 0) ev) }

pub left_count : (p : ℕ) (inverse : ℕ → ℕ) (first n : ℕ) (a : Matrix) (v w : List ℕ) → IsStrip p first n a v → w ≡ (strip_after p inverse first n a v).pivots → length w ≡ first + n
left_count p inverse first n a v w strip list = ap length list ∙ columns-count p inverse a.rows first n (strip_state first a v) strip.inside ∙ ap (λ c. c + n) strip.count

pub left_rows : (p : ℕ) (inverse : ℕ → ℕ) (first n m : ℕ) (a : Matrix) (v w u : List ℕ) → IsStrip p first n a v → w ≡ (strip_after p inverse first n a v).pivots → u ≡ w → m ≡ a.rows → AreRows u first n m
left_rows p inverse first n m a v w u strip list same rows =
    rows_named u (strip_after p inverse first n a v).pivots first n a.rows m (same ∙ list) rows (columns-rows p inverse a.rows first n (strip_state first a v) strip.inside strip.count)

pub right_count : (p : ℕ) (inverse : ℕ → ℕ) (first n k : ℕ) (a : Matrix) (v x : List ℕ) → IsStrip p first n a v → first + n + k ≤ a.rows → x ≡ (strip_then p inverse first n k a v).pivots → length x ≡ first + n + k
right_count p inverse first n k a v x strip inside list =
    ap length list ∙ columns-count p inverse a.rows (first + n) k (strip_after p inverse first n a v) inside ∙ ap (λ c. c + k) (left_count p inverse first n a v (strip_after p inverse first n a v).pivots strip refl)

pub right_rows : (p : ℕ) (inverse : ℕ → ℕ) (first n k m : ℕ) (a : Matrix) (v x u : List ℕ) → IsStrip p first n a v → first + n + k ≤ a.rows → x ≡ (strip_then p inverse first n k a v).pivots → u ≡ x → m ≡ a.rows → AreRows u (first + n) k m
right_rows p inverse first n k m a v x u strip inside list same rows =
    rows_named u (strip_then p inverse first n k a v).pivots (first + n) k a.rows m (same ∙ list) rows
    (columns-rows p inverse a.rows (first + n) k (strip_after p inverse first n a v) inside (left_count p inverse first n a v (strip_after p inverse first n a v).pivots strip refl))
