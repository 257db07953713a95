-- Some columns of a state, as a matrix of their own: what is done to such matrices, where the columns of the whole are eliminated.
use Rattle.std.proofs.Common.{◌≡◌, ℕ, ◌+◌, ◌-◌, ◌<◌, ◌≤◌, List, refl, sym, ◌∙◌, ap, subst, arith, inl, inr, true, false, if◌then◌else◌, nat_lt}
use Rattle.std.proofs.Math.Path.{fun_ext}
use Rattle.std.proofs.lemmas.Bool.{cases_lt, lt-ltb, le-ltb}
use Rattle.run_data.specs.Matrix.{Matrix, cols, entry, IsShaped, tabulate}
use Rattle.run_data.specs.Parts.{patched, part_of, with_copy}
use Rattle.run_data.proofs.Matrices.{tabulate_is, tabulate-same, rows-tabulate, cols-tabulate, entry-tabulate, entry-past, IsShaped-tabulate}
use Rattle.run_data.proofs.PartLaws.{AreWords-from_inside}
use Rattle.local_blas.specs.Kernels.{AreWords}
use Rattle.serial_model.specs.Elimination.{Eliminated, eliminate_columns, pivot_row, came_from, exchanged}
use Rattle.elimination.specs.Panels.{IsReady, AgreesOn, IsPanel, carried}
use Rattle.elimination.specs.Whole.{cut_columns, with_columns, with_rows_exchanged, with_carried, strip_of_words, strip_state}
use Rattle.elimination.proofs.PanelLaws.{ready-columns, columns-agree, column-carried_by, column-exchanged_by}
use Rattle.elimination.proofs.WholeSteps.{patched_in, patched_left, patched_right}

-- b has m rows, and the columns of s from lo to hi - 1
pub record IsPiece (m lo hi : ℕ) (s : Eliminated) (b : Matrix) : Type 0 where
  pub rows : b.rows ≡ m
  pub columns : cols b ≡ hi - lo
  pub shaped : IsShaped b
  pub words : (i k : ℕ) → lo ≤ k → k < hi → entry b i (k - lo) ≡ s.words i k

piece_made : (p m j lo hi r w : ℕ) (s : Eliminated) (b : Matrix) (f : ℕ → ℕ → ℕ) → IsReady p m j s → b ≡ tabulate r w f → r ≡ m → w ≡ hi - lo → ((i k : ℕ) → lo ≤ k → k < hi → f i (k - lo) ≡ s.words i k) → IsPiece m lo hi s b
piece_made p m j lo hi r w s b f ready e er ew same =
    record {
      rows = ap (λ b. b.rows) e ∙ rows-tabulate r w f ∙ er;
      columns = ap cols e ∙ cols-tabulate r w f ∙ ew;
      shaped = subst (λ b. IsShaped b) (sym e) (IsShaped-tabulate r w f);
      words = λ i k h1 h2. elim (cases_lt i r) [
        | inl within ↦ ap (λ b. entry b i (k - lo)) e ∙ entry-tabulate r w f i (k - lo) within (omega arith) ∙ same i k h1 h2
        | inr past ↦
            ap (λ b. entry b i (k - lo)) e ∙ entry-past (tabulate r w f) (IsShaped-tabulate r w f) i (k - lo) (subst (λ n. n ≤ i) (sym (rows-tabulate r w f)) past)
            ∙ sym (ready.past i k (omega arith))
      ];
    }

-- a strip is one
pub strip_piece : (first : ℕ) (a : Matrix) (v : List ℕ) → IsShaped a → IsPiece a.rows first (first + cols a) (strip_state first a v) a
strip_piece first a v shaped = record { rows = refl; columns = omega arith; shaped = shaped; words = λ i k _ _. refl }

-- its words are below the modulus
pub piece_words : (p m j lo hi : ℕ) (s : Eliminated) (b : Matrix) → IsReady p m j s → IsPiece m lo hi s b → AreWords p b
piece_words p m j lo hi s b ready piece =
    AreWords-from_inside p b piece.shaped (omega (arith, ready.below 0 0))
    (λ i c h1 h2.
    (let columns : cols b ≡ hi - lo = piece.columns in
    let back : lo + c - lo ≡ c = omega arith in
    subst (λ n. n < p) (sym (ap (entry b i) (sym back) ∙ piece.words i (lo + c) (omega arith) (omega arith))) (ready.below i (lo + c))))

-- some of its columns
pub piece_cut : (p m j lo hi c0 c1 from to : ℕ) (s : Eliminated) (a b : Matrix) → IsReady p m j s → IsPiece m lo hi s a → b ≡ cut_columns a c0 c1 → from ≡ lo + c0 → to ≡ lo + c1 → to ≤ hi → IsPiece m from to s b
piece_cut p m j lo hi c0 c1 from to s a b ready piece e efrom eto inside =
    piece_made p m j from to a.rows (c1 - c0) s b (λ i c. entry a i (c0 + c)) ready e piece.rows (omega arith)
    (λ i k h1 h2. ap (entry a i) (let back : c0 + (k - from) ≡ k - lo = omega arith in back) ∙ piece.words i k (omega arith) (omega arith))

-- its first columns are eliminated
piece_agrees : (p : ℕ) (inverse : ℕ → ℕ) (m first hi n : ℕ) (s : Eliminated) (b : Matrix) (v : List ℕ) → n ≤ hi - first → IsPiece m first hi s b → v ≡ s.pivots → AgreesOn first (first + (hi - first)) (eliminate_columns p inverse m first n (strip_state first b v)) (eliminate_columns p inverse m first n s)
piece_agrees p inverse m first hi n s b v narrow piece list =
    columns-agree p inverse m first (hi - first) (strip_state first b v) s n narrow (record { words = λ i k h1 h2. piece.words i k h1 (omega arith); pivots = list })

pub piece_eliminated : (p : ℕ) (inverse : ℕ → ℕ) (m first hi n : ℕ) (s : Eliminated) (b b' : Matrix) (v : List ℕ) → first + n ≤ m → n ≤ hi - first → IsReady p m first s → IsPiece m first hi s b → v ≡ s.pivots → b' ≡ strip_of_words b.rows (cols b) first (eliminate_columns p inverse b.rows first n (strip_state first b v)).words → IsPiece m first hi (eliminate_columns p inverse m first n s) b'
piece_eliminated p inverse m first hi n s b b' v inside narrow ready piece list made =
    let t = eliminate_columns p inverse m first n (strip_state first b v) in
    let agree : AgreesOn first (first + (hi - first)) t (eliminate_columns p inverse m first n s) = piece_agrees p inverse m first hi n s b v narrow piece list in
    piece_made p m (first + n) first hi m (cols b) (eliminate_columns p inverse m first n s) b' (λ i c. t.words i (first + c)) (ready-columns p inverse m first n s inside ready)
    (made ∙ ap (λ r. strip_of_words r (cols b) first (eliminate_columns p inverse r first n (strip_state first b v)).words) piece.rows) refl piece.columns
    (λ i k h1 h2. ap (t.words i) (let back : first + (k - first) ≡ k = omega arith in back) ∙ agree.words i k h1 (omega arith))

pub piece_list : (p : ℕ) (inverse : ℕ → ℕ) (m first hi n : ℕ) (s : Eliminated) (b : Matrix) (v w : List ℕ) → n ≤ hi - first → IsPiece m first hi s b → v ≡ s.pivots → w ≡ (eliminate_columns p inverse b.rows first n (strip_state first b v)).pivots → w ≡ (eliminate_columns p inverse m first n s).pivots
piece_list p inverse m first hi n s b v w narrow piece list made =
    made ∙ ap (λ r. (eliminate_columns p inverse r first n (strip_state first b v)).pivots) piece.rows ∙ (piece_agrees p inverse m first hi n s b v narrow piece list).pivots

-- columns left of those that are eliminated
pub piece_exchanged : (p : ℕ) (inverse : ℕ → ℕ) (m lo hi first n : ℕ) (s : Eliminated) (b b' : Matrix) (w : List ℕ) → first + n ≤ m → hi ≤ first → IsReady p m first s → IsPiece m lo hi s b → w ≡ (eliminate_columns p inverse m first n s).pivots → b' ≡ with_rows_exchanged b w first n → IsPiece m lo hi (eliminate_columns p inverse m first n s) b'
piece_exchanged p inverse m lo hi first n s b b' w inside before ready piece list made =
    let u = eliminate_columns p inverse m first n s in
    let is_panel : IsPanel first n u u.words w = record { words = λ i k _ _. refl; pivots = λ k _ _. ap (λ v. pivot_row v k) list } in
    piece_made p m (first + n) lo hi b.rows (cols b) u b' (λ i c. exchanged w first n (λ r. entry b r c) i) (ready-columns p inverse m first n s inside ready) made piece.rows piece.columns
    (λ i k h1 h2. piece.words (came_from w first n i) k h1 h2 ∙ sym (column-exchanged_by p inverse m first n s u.words w i k inside ready is_panel (omega arith)))

-- columns right of them, by a panel that begins with them
pub piece_carried : (p : ℕ) (inverse : ℕ → ℕ) (m lo hi first end n : ℕ) (s : Eliminated) (panel b b' : Matrix) (w : List ℕ) → first + n ≤ m → first + n ≤ end → first + n ≤ lo → IsReady p m first s → IsPiece m first end (eliminate_columns p inverse m first n s) panel → w ≡ (eliminate_columns p inverse m first n s).pivots → IsPiece m lo hi s b → b' ≡ with_carried p inverse b panel w first n → IsPiece m lo hi (eliminate_columns p inverse m first n s) b'
piece_carried p inverse m lo hi first end n s panel b b' w inside within after ready panel_is list piece made =
    let u = eliminate_columns p inverse m first n s in
    let l : ℕ → ℕ → ℕ = λ i k. entry panel i (k - first) in
    let is_panel : IsPanel first n u l w = record { words = λ i k g1 g2. panel_is.words i k g1 (omega arith); pivots = λ k _ _. ap (λ v. pivot_row v k) list } in
    piece_made p m (first + n) lo hi b.rows (cols b) u b' (λ i c. carried p inverse l w first n (λ r. entry b r c) i) (ready-columns p inverse m first n s inside ready) made piece.rows piece.columns
    (λ i k h1 h2. ap (λ x. carried p inverse l w first n x i) (fun_ext (λ r. piece.words r k h1 h2))
    ∙ sym (column-carried_by p inverse m first n s l w i k inside ready is_panel (omega arith)))

-- ---- pieces that are put together

-- a copy over some columns
pub put_is : (a b piece : Matrix) (c0 c1 m q w : ℕ) → m ≡ a.rows → b ≡ with_copy a (record { r0 = 0; r1 = m; c0 = c0; c1 = c1 }) piece (record { r0 = 0; r1 = q; c0 = 0; c1 = w }) → b ≡ with_columns a c0 c1 piece
put_is a b piece c0 c1 m q w all e =
    let f : ℕ → ℕ → ℕ = λ i j. entry piece (0 + (i - 0)) (0 + (j - c0)) in
    e
    ∙ tabulate-same a.rows (cols a) (patched (record { r0 = 0; r1 = m; c0 = c0; c1 = c1 }) f (entry a))
    (λ i k. if nat_lt k c0 then entry a i k else if nat_lt k c1 then entry piece i (k - c0) else entry a i k)
    (λ i k hi hk. elim (cases_lt k c0) [
      | inl before ↦
          (let t : nat_lt k c0 ≡ true = lt-ltb k c0 before in
          rw t (patched_left (record { r0 = 0; r1 = m; c0 = c0; c1 = c1 }) f (entry a) i k before))
      | inr from ↦
          (let t : nat_lt k c0 ≡ false = le-ltb k c0 from in
          elim (cases_lt k c1) [
            | inl inside ↦
                (let u : nat_lt k c1 ≡ true = lt-ltb k c1 inside in
                rw (t, u) (patched_in (record { r0 = 0; r1 = m; c0 = c0; c1 = c1 }) f (entry a) i k (omega arith) (omega arith) from inside
                ∙ ap (λ r. entry piece r (0 + (k - c0))) (let e : 0 + (i - 0) ≡ i = omega arith in e) ∙ ap (entry piece i) (let e : 0 + (k - c0) ≡ k - c0 = omega arith in e)))
            | inr after ↦
                (let u : nat_lt k c1 ≡ false = le-ltb k c1 after in rw (t, u) (patched_right (record { r0 = 0; r1 = m; c0 = c0; c1 = c1 }) f (entry a) i k after))
          ])
    ])

-- and columns that are cut out
pub cut_is : (a b : Matrix) (c0 c1 m : ℕ) → m ≡ a.rows → b ≡ part_of a (record { r0 = 0; r1 = m; c0 = c0; c1 = c1 }) → b ≡ cut_columns a c0 c1
cut_is a b c0 c1 m all e =
    let whole : m - 0 ≡ a.rows = omega arith in
    e ∙ ap (λ m. tabulate m (c1 - c0) (λ i j. entry a (0 + i) (c0 + j))) whole
    ∙ tabulate-same a.rows (c1 - c0) (λ i j. entry a (0 + i) (c0 + j)) (λ i j. entry a i (c0 + j))
    (λ i j _ _. ap (λ r. entry a r (c0 + j)) (let e : 0 + i ≡ i = omega arith in e))

pub put-rows : (a b piece : Matrix) (c0 c1 : ℕ) → b ≡ with_columns a c0 c1 piece → b.rows ≡ a.rows
put-rows a b piece c0 c1 e = ap (λ b. b.rows) e ∙ rows-tabulate a.rows (cols a) (λ i k. if nat_lt k c0 then entry a i k else if nat_lt k c1 then entry piece i (k - c0) else entry a i k)

pub put-cols : (a b piece : Matrix) (c0 c1 : ℕ) → b ≡ with_columns a c0 c1 piece → cols b ≡ cols a
put-cols a b piece c0 c1 e = ap cols e ∙ cols-tabulate a.rows (cols a) (λ i k. if nat_lt k c0 then entry a i k else if nat_lt k c1 then entry piece i (k - c0) else entry a i k)

put-shaped : (a b piece : Matrix) (c0 c1 : ℕ) → b ≡ with_columns a c0 c1 piece → IsShaped b
put-shaped a b piece c0 c1 e =
    subst (λ b. IsShaped b) (sym e) (IsShaped-tabulate a.rows (cols a) (λ i k. if nat_lt k c0 then entry a i k else if nat_lt k c1 then entry piece i (k - c0) else entry a i k))

put-before : (a b piece : Matrix) (c0 c1 i k : ℕ) → b ≡ with_columns a c0 c1 piece → i < a.rows → k < cols a → k < c0 → entry b i k ≡ entry a i k
put-before a b piece c0 c1 i k e hi hk h =
    let t : nat_lt k c0 ≡ true = lt-ltb k c0 h in
    ap (λ b. entry b i k) e ∙ entry-tabulate a.rows (cols a) (λ i k. if nat_lt k c0 then entry a i k else if nat_lt k c1 then entry piece i (k - c0) else entry a i k) i k hi hk ∙ rw t refl

put-inside : (a b piece : Matrix) (c0 c1 i k : ℕ) → b ≡ with_columns a c0 c1 piece → i < a.rows → k < cols a → c0 ≤ k → k < c1 → entry b i k ≡ entry piece i (k - c0)
put-inside a b piece c0 c1 i k e hi hk h1 h2 =
    let t : nat_lt k c0 ≡ false = le-ltb k c0 h1 in
    let u : nat_lt k c1 ≡ true = lt-ltb k c1 h2 in
    ap (λ b. entry b i k) e ∙ entry-tabulate a.rows (cols a) (λ i k. if nat_lt k c0 then entry a i k else if nat_lt k c1 then entry piece i (k - c0) else entry a i k) i k hi hk ∙ rw (t, u) refl

-- a has m rows and as many columns as those from lo to hi - 1, and the columns of s from lo to mid - 1
pub record IsFilled (m lo mid hi : ℕ) (s : Eliminated) (a : Matrix) : Type 0 where
  pub rows : a.rows ≡ m
  pub columns : cols a ≡ hi - lo
  pub words : (i k : ℕ) → i < m → lo ≤ k → k < mid → entry a i (k - lo) ≡ s.words i k

pub filled_nowhere : (m lo hi : ℕ) (s : Eliminated) (a : Matrix) → a.rows ≡ m → cols a ≡ hi - lo → IsFilled m lo lo hi s a
filled_nowhere m lo hi s a rows columns = record { rows = rows; columns = columns; words = λ i k _ h1 h2. absurd (omega arith) }

-- the next piece fills some more
pub next_put : (m lo mid next hi c0 c1 : ℕ) (s : Eliminated) (a b piece : Matrix) → IsFilled m lo mid hi s a → IsPiece m mid next s piece → lo ≤ mid → mid ≤ next → next ≤ hi → c0 ≡ mid - lo → c1 ≡ next - lo → b ≡ with_columns a c0 c1 piece → IsFilled m lo next hi s b
next_put m lo mid next hi c0 c1 s a b piece filled is h1 h2 h3 e0 e1 e =
    let rows : a.rows ≡ m = filled.rows in
    let columns : cols a ≡ hi - lo = filled.columns in
    record {
      rows = put-rows a b piece c0 c1 e ∙ rows;
      columns = put-cols a b piece c0 c1 e ∙ columns;
      words = λ i k hi g1 g2. elim (cases_lt k mid) [
        | inl before ↦ put-before a b piece c0 c1 i (k - lo) e (omega arith) (omega arith) (omega arith) ∙ filled.words i k hi g1 before
        | inr from ↦
            put-inside a b piece c0 c1 i (k - lo) e (omega arith) (omega arith) (omega arith) (omega arith) ∙ ap (entry piece i) (let same : k - lo - c0 ≡ k - mid = omega arith in same)
            ∙ is.words i k from g2
      ];
    }

-- the last one all of it
pub last_put : (m lo mid hi c0 c1 : ℕ) (s : Eliminated) (a b piece : Matrix) → IsFilled m lo mid hi s a → IsPiece m mid hi s piece → lo ≤ mid → mid ≤ hi → c0 ≡ mid - lo → c1 ≡ hi - lo → b ≡ with_columns a c0 c1 piece → b ≡ strip_of_words m (hi - lo) lo s.words
last_put m lo mid hi c0 c1 s a b piece filled is h1 h2 e0 e1 e =
    let all : IsFilled m lo hi hi s b = next_put m lo mid hi hi c0 c1 s a b piece filled is h1 h2 (omega arith) e0 e1 e in
    tabulate_is b m (hi - lo) (λ i c. s.words i (lo + c)) (put-shaped a b piece c0 c1 e) all.rows all.columns
    (λ i c hi hc. ap (entry b i) (let back : c ≡ lo + c - lo = omega arith in back) ∙ all.words i (lo + c) hi (omega arith) (omega arith))
