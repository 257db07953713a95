-- What is done to the strips of a block column, as a change of the words that they hold.
use Rattle.std.proofs.Common.{◌≡◌, ◌≢◌, ℕ, suc, ◌+◌, ◌-◌, ◌*◌, ◌%◌, ◌<◌, ◌≤◌, ◌⊎◌, ◌&&◌, if◌then◌else◌, nat_lt, nat_le, Bool, true, false, Some, None, List, [], ◌∷◌, ◌++◌, refl, sym, ◌∙◌, ap, arith, inl, inr}
use Rattle.std.proofs.lemmas.Bool.{cases_lt, cases_eq, lt-ltb, le-ltb}
use Rattle.std.proofs.lemmas.Bool.Decides.{nat_tests}
use Rattle.field_core.specs.Sums.{sum_to}
use Rattle.field_core.proofs.Sums.{sum_to-same}
use Rattle.run_data.specs.declared.matrix.Part.{Part}
use Rattle.run_data.specs.Matrix.{Matrix, cols, entry}
use Rattle.run_data.specs.Parts.{patched, with_part, part_entry, with_copy, whole_part}
use Rattle.run_data.proofs.Matrices.{rows-tabulate, cols-tabulate, entry-tabulate}
use Rattle.run_data.proofs.PartLaws.{rows-with_part, cols-with_part}
use Rattle.local_blas.specs.Kernels.{solution, upper_solution, swapped, eliminated_word, multiplier, with_rows_swapped, product_word, with_scaled}
use Rattle.local_blas.proofs.SolutionLaws.{solution-same}
use Rattle.local_blas.proofs.UpperSolutions.{upper_solution-same}
use Rattle.local_blas.proofs.Eliminations.{eliminated_word-first, eliminated_word-later}
use Rattle.serial_model.specs.Elimination.{exchange, divide, subtract, pivot_from, with_pivot, Eliminated, eliminate_column, pivot_row, came_from, exchanged}
use Rattle.elimination.specs.Panels.{solved, reduced}
use Rattle.elimination.specs.Solves.{upper_solved, upper_reduced, gained}
use Rattle.elimination.specs.Strips.{RowMap, IsRowMap, IsBlock, rows_below, row_at, row_owner, row_place, Hold, held, AreExchanged, in_rows, solved_rows, upper_solved_rows, gained_rows, span, block_rows, AreSolved, AreUpperSolved, HaveGained, AreEliminated, one_row, HaveAdded, added_words}
use Rattle.elimination.proofs.Reductions.{reduced-above, reduced-among, reduced-under}
use Rattle.elimination.proofs.UpperLaws.{upper_reduced-above, upper_reduced-among, upper_reduced-under}
use Rattle.elimination.proofs.Words.{multiplier_at, column-above, column-left, column-multiplier, column-right}
use Rattle.elimination.proofs.Pivots.{pivot_from-none, pivot_from-some}
use Rattle.elimination.proofs.StripMaps.{row_owner-lt, row_at-owner, row_owner-at, row_place-at, row_place-lt, row_at-lt, place-before, place-from, block_row, in_block, block_owner, block_place}

pub in_rows-inside : (lo hi : ℕ) (f g : ℕ → ℕ → ℕ) (i c : ℕ) → lo ≤ i → i < hi → in_rows lo hi f g i c ≡ f i c
unfolding in_rows
in_rows-inside lo hi f g i c h1 h2 = grind (arith, nat_tests)

pub in_rows-outside : (lo hi : ℕ) (f g : ℕ → ℕ → ℕ) (i c : ℕ) → (i < lo) ⊎ (hi ≤ i) → in_rows lo hi f g i c ≡ g i c
unfolding in_rows
in_rows-outside lo hi f g i c (inl h) = grind (arith, nat_tests)
in_rows-outside lo hi f g i c (inr h) = grind (arith, nat_tests)

patched-inside : (at : Part) (f g : ℕ → ℕ → ℕ) (r c : ℕ) → at.r0 ≤ r → r < at.r1 → at.c0 ≤ c → c < at.c1 → patched at f g r c ≡ f r c
unfolding patched
patched-inside at f g r c h1 h2 h3 h4 = grind (arith, nat_tests)

patched-outside : (at : Part) (f g : ℕ → ℕ → ℕ) (r c : ℕ) → (r < at.r0) ⊎ (at.r1 ≤ r) → patched at f g r c ≡ g r c
unfolding patched
patched-outside at f g r c (inl h) = grind (arith, nat_tests)
patched-outside at f g r c (inr h) = grind (arith, nat_tests)

-- the words that strips hold are read at their owners
pub held-is : (d : RowMap) (width : ℕ) (f : ℕ → ℕ → ℕ) (strips : ℕ → Matrix) (i c : ℕ) → IsRowMap d → Hold d width f strips → i < d.m → c < width → held d strips i c ≡ f i c
held-is d width f strips i c map hold hi hc =
    let t : nat_lt i d.m ≡ true = lt-ltb i d.m hi in
    rw t (hold.words (row_owner d i) (row_place d i) c (row_owner-lt d i map) (row_place-lt d i map hi) hc ∙ ap (λ r. f r c) (row_at-owner d i map))

-- strips of the right shape hold the words that are read so
pub held-holds : (d : RowMap) (width : ℕ) (strips : ℕ → Matrix) → IsRowMap d → ((row : ℕ) → row < d.procs → (strips row).rows ≡ rows_below d d.m row) → ((row : ℕ) → row < d.procs → cols (strips row) ≡ width) → Hold d width (held d strips) strips
held-holds d width strips map rows columns =
    record {
      rows = rows;
      columns = columns;
      words = λ row l c h hl hc.
          (let t : nat_lt (row_at d row l) d.m ≡ true = lt-ltb (row_at d row l) d.m (row_at-lt d row l map h hl) in
          rw t (ap (λ r. entry (strips r) l c) (sym (row_owner-at d row l map h)) ∙ ap (λ k. entry (strips (row_owner d (row_at d row l))) k c) (sym (row_place-at d row l map))));
    }

-- only the words in the rows and columns matter
pub hold-same : (d : RowMap) (width : ℕ) (f g : ℕ → ℕ → ℕ) (strips : ℕ → Matrix) → IsRowMap d → ((i c : ℕ) → i < d.m → c < width → f i c ≡ g i c) → Hold d width f strips → Hold d width g strips
hold-same d width f g strips map same hold =
    record {
      rows = hold.rows;
      columns = hold.columns;
      words = λ row l c h hl hc. hold.words row l c h hl hc ∙ same (row_at d row l) c (row_at-lt d row l map h hl) hc;
    }

-- other strips, equal one by one
pub hold-strips : (d : RowMap) (width : ℕ) (f : ℕ → ℕ → ℕ) (strips strips' : ℕ → Matrix) → ((row : ℕ) → row < d.procs → strips' row ≡ strips row) → Hold d width f strips → Hold d width f strips'
hold-strips d width f strips strips' same hold =
    record {
      rows = λ row h. ap (λ m. m.rows) (same row h) ∙ hold.rows row h;
      columns = λ row h. ap cols (same row h) ∙ hold.columns row h;
      words = λ row l c h hl hc. ap (λ m. entry m l c) (same row h) ∙ hold.words row l c h hl hc;
    }

swapped-first : (i j : ℕ) → swapped i j i ≡ j
swapped-first i j = grind (arith, nat_tests)

swapped-second : (i j : ℕ) → swapped i j j ≡ i
swapped-second i j = grind (arith, nat_tests)

swapped-other : (i j r : ℕ) → r ≢ i → r ≢ j → swapped i j r ≡ r
swapped-other i j r h1 h2 = grind (arith, nat_tests)

-- an exchange of two rows
pub exchange-held : (d : RowMap) (width i j : ℕ) (f : ℕ → ℕ → ℕ) (strips strips' : ℕ → Matrix) → IsRowMap d → i < d.m → j < d.m → AreExchanged d width i j strips strips' → Hold d width f strips → Hold d width (exchange i j f) strips'
exchange-held d width i j f strips strips' map hi hj done hold =
    record {
      rows = λ row h. done.rows row h ∙ hold.rows row h;
      columns = λ row h. done.columns row h ∙ hold.columns row h;
      words = λ row l c h hl hc.
          (let g = row_at d row l in
          let own : row_owner d g ≡ row = row_owner-at d row l map h in
          let place : row_place d g ≡ l = row_place-at d row l map in
          elim (cases_eq g i) [
            | inl is_first ↦
                ap (λ r. entry (strips' r) l c) (sym own ∙ ap (λ r. row_owner d r) is_first) ∙ ap (λ k. entry (strips' (row_owner d i)) k c) (sym place ∙ ap (λ r. row_place d r) is_first)
                ∙ done.first c hc ∙ hold.words (row_owner d j) (row_place d j) c (row_owner-lt d j map) (row_place-lt d j map hj) hc
                ∙ ap (λ r. f r c) (row_at-owner d j map ∙ sym (ap (swapped i j) is_first ∙ swapped-first i j))
            | inr not_first ↦
                (elim (cases_eq g j) [
                  | inl is_second ↦
                      ap (λ r. entry (strips' r) l c) (sym own ∙ ap (λ r. row_owner d r) is_second) ∙ ap (λ k. entry (strips' (row_owner d j)) k c) (sym place ∙ ap (λ r. row_place d r) is_second)
                      ∙ done.second c hc ∙ hold.words (row_owner d i) (row_place d i) c (row_owner-lt d i map) (row_place-lt d i map hi) hc
                      ∙ ap (λ r. f r c) (row_at-owner d i map ∙ sym (ap (swapped i j) is_second ∙ swapped-second i j))
                  | inr not_second ↦ done.others row l c h hl hc not_first not_second ∙ hold.words row l c h hl hc ∙ ap (λ r. f r c) (sym (swapped-other i j g not_first not_second))
                ])
          ]);
    }

-- a block of rows that is changed on its process row
block-held : (d : RowMap) (width first n : ℕ) (f g : ℕ → ℕ → ℕ) (w : ℕ → ℕ → ℕ) (strips strips' : ℕ → Matrix) → IsRowMap d → IsBlock d first n → strips' (row_owner d first) ≡ with_part (strips (row_owner d first)) (block_rows d first n width) w → ((row : ℕ) → row < d.procs → row ≢ row_owner d first → strips' row ≡ strips row) → Hold d width f strips → ((k c : ℕ) → k < n → c < width → w (row_place d first + k) c ≡ g (first + k) c) → Hold d width (in_rows first (first + n) g f) strips'
block-held d width first n f g w strips strips' map block made others hold words =
    let o = row_owner d first in
    let at : Part = block_rows d first n width in
    record {
      rows = λ row h. elim (cases_eq row o) [
        | inl here ↦ ap (λ r. (strips' r).rows) here ∙ ap (λ a. a.rows) made ∙ rows-with_part (strips o) at w ∙ ap (λ r. (strips r).rows) (sym here) ∙ hold.rows row h
        | inr other ↦ ap (λ a. a.rows) (others row h other) ∙ hold.rows row h
      ];
      columns = λ row h. elim (cases_eq row o) [
        | inl here ↦ ap (λ r. cols (strips' r)) here ∙ ap cols made ∙ cols-with_part (strips o) at w ∙ ap (λ r. cols (strips r)) (sym here) ∙ hold.columns row h
        | inr other ↦ ap cols (others row h other) ∙ hold.columns row h
      ];
      words = λ row l c h hl hc. at_place row l c h hl hc;
    }
  where
    written : (l c : ℕ) → l < rows_below d d.m (row_owner d first) → c < width → entry (strips' (row_owner d first)) l c ≡ patched (block_rows d first n width) w (entry (strips (row_owner d first))) l c
    written l c hl hc =
        let o = row_owner d first in
        let rows : (strips o).rows ≡ rows_below d d.m o = hold.rows o (row_owner-lt d first map) in
        let columns : cols (strips o) ≡ width = hold.columns o (row_owner-lt d first map) in
        ap (λ a. entry a l c) made ∙ entry-tabulate (strips o).rows (cols (strips o)) (patched (block_rows d first n width) w (entry (strips o))) l c (rw rows hl) (rw columns hc)

    outside : (row l c : ℕ) → row < d.procs → l < rows_below d d.m row → c < width → (row_at d row l < first) ⊎ (first + n ≤ row_at d row l) → entry (strips' row) l c ≡ f (row_at d row l) c
    outside row l c h hl hc out =
        elim (cases_eq row (row_owner d first)) [
          | inl here ↦
              (let hl' : l < rows_below d d.m (row_owner d first) = rw here at hl in
              ap (λ r. entry (strips' r) l c) here ∙ written l c hl' hc
              ∙ patched-outside (block_rows d first n width) w (entry (strips (row_owner d first))) l c
              (elim (cases_lt l (row_place d first)) [
                | inl before ↦ inl before
                | inr from ↦
                    (elim (cases_lt l (row_place d first + n)) [
                      | inl among ↦
                          (let k = l - row_place d first in
                          let is : row_place d first + k ≡ l = omega arith in
                          let g_is : row_at d row l ≡ first + k = ap (λ r. row_at d r l) here ∙ ap (row_at d (row_owner d first)) (sym is) ∙ block_row d first n k map block (omega arith) in
                          absurd (elim out [ inl a ↦ omega arith | inr b ↦ omega arith ]))
                      | inr past ↦ inr past
                    ])
              ])
              ∙ ap (λ r. entry (strips r) l c) (sym here) ∙ hold.words row l c h hl hc)
          | inr other ↦ ap (λ a. entry a l c) (others row h other) ∙ hold.words row l c h hl hc
        ]

    inside : (row l c : ℕ) → row < d.procs → l < rows_below d d.m row → c < width → first ≤ row_at d row l → row_at d row l < first + n → entry (strips' row) l c ≡ g (row_at d row l) c
    inside row l c h hl hc h1 h2 =
        let place = in_block d first n row l map block h h1 h2 in
        let k = row_at d row l - first in
        let hl' : l < rows_below d d.m (row_owner d first) = rw place.0 at hl in
        let small : k < n = omega arith in
        let here : l ≡ row_place d first + k = place.1 in
        ap (λ r. entry (strips' r) l c) place.0 ∙ written l c hl' hc
        ∙ patched-inside (block_rows d first n width) w (entry (strips (row_owner d first))) l c (omega arith) (omega arith) (omega arith) hc
        ∙ ap (λ i. w i c) here ∙ words k c small hc ∙ ap (λ i. g i c) (let e : first + k ≡ row_at d row l = omega arith in e)

    at_place : (row l c : ℕ) → row < d.procs → l < rows_below d d.m row → c < width → entry (strips' row) l c ≡ in_rows first (first + n) g f (row_at d row l) c
    at_place row l c h hl hc =
        elim (cases_lt (row_at d row l) first) [
          | inl before ↦ outside row l c h hl hc (inl before) ∙ sym (in_rows-outside first (first + n) g f (row_at d row l) c (inl before))
          | inr from ↦
              (elim (cases_lt (row_at d row l) (first + n)) [
                | inl among ↦ inside row l c h hl hc from among ∙ sym (in_rows-inside first (first + n) g f (row_at d row l) c from among)
                | inr past ↦ outside row l c h hl hc (inr past) ∙ sym (in_rows-outside first (first + n) g f (row_at d row l) c (inr past))
              ])
        ]

-- the words of the block's rows, as the kernels read them
pub block_words : (d : RowMap) (width first n : ℕ) (f : ℕ → ℕ → ℕ) (strips : ℕ → Matrix) (r j c : ℕ) → IsRowMap d → IsBlock d first n → Hold d width f strips → r < n → c < width → j ≡ c → part_entry (strips (row_owner d first)) (block_rows d first n width) r j ≡ f (first + r) c
block_words d width first n f strips r j c map block hold hr hc e =
    let o = row_owner d first in
    let place : row_place d first + r < rows_below d d.m o =
    (let moved : row_place d (first + r) ≡ row_place d first + r = block_place d first n r block hr in
    let owned : row_owner d (first + r) ≡ o = block_owner d first n r block hr in
    rw (moved, owned) at (row_place-lt d (first + r) map (omega (arith, block.inside)))) in
    ap (entry (strips o) (row_place d first + r)) (let z : 0 + j ≡ c = omega arith in z)
    ∙ hold.words o (row_place d first + r) c (row_owner-lt d first map) place hc ∙ ap (λ i. f i c) (block_row d first n r map block hr)

-- rows solved by a lower triangle
pub solve-held : (d : RowMap) (width : ℕ) (p : ℕ) (inverse : ℕ → ℕ) (unit : Bool) (l f : ℕ → ℕ → ℕ) (first n : ℕ) (block : Matrix) (bp : Part) (strips strips' : ℕ → Matrix) → IsRowMap d → IsBlock d first n → AreSolved d width p inverse unit l first n block bp strips strips' → Hold d width f strips → Hold d width (solved_rows p inverse unit l first n f) strips'
solve-held d width p inverse unit l f first n block bp strips strips' map in_one done hold =
    let o = row_owner d first in
    let at : Part = block_rows d first n width in
    block-held d width first n f (λ i c. solved p inverse unit l first (λ r. f r c) (i - first))
    (λ i j. solution p inverse unit (part_entry block bp) (λ k. part_entry (strips o) at k (j - 0)) (i - row_place d first)) strips strips' map in_one done.made done.others hold
    (λ k c hk hc.
    ap (solution p inverse unit (part_entry block bp) (λ r. part_entry (strips o) at r (c - 0))) (let e : row_place d first + k - row_place d first ≡ k = omega arith in e)
    ∙ solution-same p inverse unit (part_entry block bp) (λ i k. l (first + i) (first + k)) (λ r. part_entry (strips o) at r (c - 0)) (λ r. f (first + r) c) k
    (λ r j hr hj. done.triangle r j (omega arith) (omega arith)) (λ r hr. block_words d width first n f strips r (c - 0) c map in_one hold (omega arith) hc (omega arith))
    ∙ ap (solved p inverse unit l first (λ r. f r c)) (let e : k ≡ first + k - first = omega arith in e))

-- rows solved by an upper triangle
pub upper_solve-held : (d : RowMap) (width : ℕ) (p : ℕ) (inverse : ℕ → ℕ) (unit : Bool) (u f : ℕ → ℕ → ℕ) (first n : ℕ) (block : Matrix) (bp : Part) (strips strips' : ℕ → Matrix) → IsRowMap d → IsBlock d first n → AreUpperSolved d width p inverse unit u first n block bp strips strips' → Hold d width f strips → Hold d width (upper_solved_rows p inverse unit u first n f) strips'
upper_solve-held d width p inverse unit u f first n block bp strips strips' map in_one done hold =
    let o = row_owner d first in
    let at : Part = block_rows d first n width in
    let count : row_place d first + n - row_place d first ≡ n = omega arith in
    block-held d width first n f (λ i c. upper_solved p inverse unit u first n (λ r. f r c) (i - first))
    (λ i j. upper_solution p inverse unit (row_place d first + n - row_place d first) (part_entry block bp) (λ k. part_entry (strips o) at k (j - 0)) (i - row_place d first)) strips strips' map in_one done.made done.others hold
    (λ k c hk hc.
    ap (upper_solution p inverse unit (row_place d first + n - row_place d first) (part_entry block bp) (λ r. part_entry (strips o) at r (c - 0))) (let e : row_place d first + k - row_place d first ≡ k = omega arith in e)
    ∙ ap (λ m. upper_solution p inverse unit m (part_entry block bp) (λ r. part_entry (strips o) at r (c - 0)) k) count
    ∙ upper_solution-same p inverse unit n (part_entry block bp) (λ i k. u (first + i) (first + k)) (λ r. part_entry (strips o) at r (c - 0)) (λ r. f (first + r) c)
    (λ r j hr hj. done.triangle r j hr hj) (λ r hr. block_words d width first n f strips r (c - 0) c map in_one hold hr hc (omega arith)) k hk
    ∙ ap (upper_solved p inverse unit u first n (λ r. f r c)) (let e : k ≡ first + k - first = omega arith in e))

-- rows that gained a product
pub gain-held : (d : RowMap) (width p a : ℕ) (l : ℕ → ℕ → ℕ) (n : ℕ) (y f : ℕ → ℕ → ℕ) (lo hi : ℕ) (left : ℕ → Matrix) (lp : ℕ → Part) (right : ℕ → Matrix) (rp : ℕ → Part) (strips strips' : ℕ → Matrix) → IsRowMap d → HaveGained d width p a l n y lo hi left lp right rp strips strips' → Hold d width f strips → Hold d width (gained_rows p a l n y lo hi f) strips'
gain-held d width p a l n y f lo hi left lp right rp strips strips' map done hold =
    record {
      rows = λ row h. elim (cases_lt (rows_below d lo row) (rows_below d hi row)) [
        | inl some ↦ ap (λ m. m.rows) (done.made row h some) ∙ rows-with_part (strips row) (span d lo hi width row) (w row) ∙ hold.rows row h
        | inr none ↦ done.other_rows row h none ∙ hold.rows row h
      ];
      columns = λ row h. elim (cases_lt (rows_below d lo row) (rows_below d hi row)) [
        | inl some ↦ ap cols (done.made row h some) ∙ cols-with_part (strips row) (span d lo hi width row) (w row) ∙ hold.columns row h
        | inr none ↦ done.other_columns row h none ∙ hold.columns row h
      ];
      words = λ row r c h hl hc. elim (cases_lt (rows_below d lo row) (rows_below d hi row)) [
        | inl some ↦ some_rows row r c h hl hc some
        | inr none ↦
            done.other_words row r c h none hl hc ∙ hold.words row r c h hl hc
            ∙ sym (in_rows-outside lo hi gain f (row_at d row r) c (elim (cases_lt r (rows_below d lo row)) [
              | inl before ↦ inl (place-before d row r lo map h before)
              | inr from ↦ inr (place-from d row r hi map h (omega arith))
            ]))
      ];
    }
  where
    gain : ℕ → ℕ → ℕ
    gain i c = gained p a l n (λ r. f r c) (λ k. y k c) i

    w : ℕ → ℕ → ℕ → ℕ
    w row i j = (entry (strips row) i j + a * product_word (left row) (lp row) (right row) (rp row) (i - rows_below d lo row) (j - 0)) % p

    gain_at : (row r c : ℕ) → row < d.procs → r < rows_below d d.m row → c < width → rows_below d lo row ≤ r → r < rows_below d hi row → w row r c ≡ gain (row_at d row r) c
    gain_at row r c h hl hc from among =
        let i = r - rows_below d lo row in
        let back : rows_below d lo row + i ≡ r = omega arith in
        let column : c - 0 ≡ c = omega arith in
        let sums : product_word (left row) (lp row) (right row) (rp row) i (c - 0) ≡ sum_to n (λ k. l (row_at d row r) k * y k c) =
        ap (product_word (left row) (lp row) (right row) (rp row) i) column
        ∙ ap (λ m. sum_to m (λ k. part_entry (left row) (lp row) i k * part_entry (right row) (rp row) k c)) (done.inner row h (omega arith))
        ∙ sum_to-same n (λ k. part_entry (left row) (lp row) i k * part_entry (right row) (rp row) k c) (λ k. l (row_at d row r) k * y k c)
        (λ k hk. ap (λ v. v * part_entry (right row) (rp row) k c) (done.left_words row i k h (omega arith) hk ∙ ap (λ m. l (row_at d row m) k) back)
        ∙ ap (λ v. l (row_at d row r) k * v) (done.right_words row k c h (omega arith) hk hc)) in
        ap (λ v. (v + a * product_word (left row) (lp row) (right row) (rp row) i (c - 0)) % p) (hold.words row r c h hl hc) ∙ ap (λ s. (f (row_at d row r) c + a * s) % p) sums

    some_rows : (row r c : ℕ) → row < d.procs → r < rows_below d d.m row → c < width → rows_below d lo row < rows_below d hi row → entry (strips' row) r c ≡ in_rows lo hi gain f (row_at d row r) c
    some_rows row r c h hl hc some =
        let g = row_at d row r in
        let at : Part = span d lo hi width row in
        let rows : (strips row).rows ≡ rows_below d d.m row = hold.rows row h in
        let columns : cols (strips row) ≡ width = hold.columns row h in
        let written : entry (strips' row) r c ≡ patched at (w row) (entry (strips row)) r c =
        ap (λ m. entry m r c) (done.made row h some) ∙ entry-tabulate (strips row).rows (cols (strips row)) (patched at (w row) (entry (strips row))) r c (rw rows hl) (rw columns hc) in
        elim (cases_lt r (rows_below d lo row)) [
          | inl before ↦
              written ∙ patched-outside at (w row) (entry (strips row)) r c (inl before) ∙ hold.words row r c h hl hc
              ∙ sym (in_rows-outside lo hi gain f g c (inl (place-before d row r lo map h before)))
          | inr from ↦
              (elim (cases_lt r (rows_below d hi row)) [
                | inl among ↦
                    written ∙ patched-inside at (w row) (entry (strips row)) r c from among (omega arith) hc ∙ gain_at row r c h hl hc from among
                    ∙ sym (in_rows-inside lo hi gain f g c (place-from d row r lo map h from) (place-before d row r hi map h among))
                | inr past ↦
                    written ∙ patched-outside at (w row) (entry (strips row)) r c (inr past) ∙ hold.words row r c h hl hc
                    ∙ sym (in_rows-outside lo hi gain f g c (inr (place-from d row r hi map h past)))
              ])
        ]

-- a word of a strip whose column j is eliminated
eliminated_at : (p : ℕ) (inverse : ℕ → ℕ) (a : Matrix) (first j l k g : ℕ) (line : ℕ → ℕ) (x : ℕ → ℕ → ℕ) → entry a l k ≡ x g (first + k) → entry a l j ≡ x g (first + j) → line j ≡ x (first + j) (first + j) → line k ≡ x (first + j) (first + k) → (if nat_lt (first + j) g && nat_le j k then eliminated_word p inverse a j line l k else entry a l k) ≡ subtract p (first + j) (divide p inverse (first + j) x) g (first + k)
eliminated_at p inverse a first j l k g line x here column pivot above =
    let d = first + j in
    elim (cases_lt d g) [
      | inr not_below ↦ test_is (nat_lt d g) (nat_le j k) _ _ (inl (le-ltb d g not_below)) ∙ here ∙ sym (column-above p inverse d x g (first + k) not_below)
      | inl below ↦
          (elim (cases_lt k j) [
            | inl left ↦ test_is (nat_lt d g) (nat_le j k) _ _ (inr (before j k left)) ∙ here ∙ sym (column-left p inverse d x g (first + k) (omega arith))
            | inr from ↦
                test_holds (nat_lt d g) (nat_le j k) _ _ (lt-ltb d g below) (after j k from)
                ∙ (elim (cases_eq k j) [
                  | inl same ↦
                      ap (eliminated_word p inverse a j line l) same ∙ eliminated_word-first p inverse a j line l ∙ times
                      ∙ sym (column-multiplier p inverse d x g below) ∙ ap (λ n. subtract p d (divide p inverse d x) g (first + n)) (sym same)
                  | inr other ↦
                      eliminated_word-later p inverse a j line l k (omega arith) ∙ ap (λ n. (n + (p - 1) * (multiplier p inverse a j (line j) l * line k)) % p) here
                      ∙ ap (λ n. (x g (first + k) + (p - 1) * (n * line k)) % p) times ∙ ap (λ n. (x g (first + k) + (p - 1) * (multiplier_at p inverse d x g * n)) % p) above
                      ∙ sym (column-right p inverse d x g (first + k) below (omega arith))
                ])
          ])
    ]
  where
    times : multiplier p inverse a j (line j) l ≡ multiplier_at p inverse (first + j) x g
    times = ap (λ n. (n * inverse (line j)) % p) column ∙ ap (λ n. (x g (first + j) * inverse n) % p) pivot

    before : (j k : ℕ) → k < j → nat_le j k ≡ false
    before j k h = grind (arith, nat_tests)

    after : (j k : ℕ) → j ≤ k → nat_le j k ≡ true
    after j k h = grind (arith, nat_tests)

    test_is : (b c : Bool) (y z : ℕ) → (b ≡ false) ⊎ (c ≡ false) → (if b && c then y else z) ≡ z
    test_is b c y z (inl e) = (rw e refl)
    test_is true c y z (inr e) = (rw e refl)
    test_is false c y z (inr e) = refl

    test_holds : (b c : Bool) (y z : ℕ) → b ≡ true → c ≡ true → (if b && c then y else z) ≡ y
    test_holds b c y z e f = (rw (e, f) refl)

-- one column of a panel, by the words of the global columns from `first` on
pub eliminate-held : (d : RowMap) (width p : ℕ) (inverse : ℕ → ℕ) (first j : ℕ) (x : ℕ → ℕ → ℕ) (line : ℕ → Matrix) (at : ℕ → Part) (strips strips' : ℕ → Matrix) → IsRowMap d → j < width → AreEliminated d width p inverse (first + j) j (λ i c. x i (first + c)) line at strips strips' → Hold d width (λ i c. x i (first + c)) strips → Hold d width (λ i c. subtract p (first + j) (divide p inverse (first + j) x) i (first + c)) strips'
eliminate-held d width p inverse first j x line at strips strips' map hj done hold =
    record {
      rows = λ row h. ap (λ m. m.rows) (done.made row h) ∙ rows-tabulate (strips row).rows (cols (strips row)) (w row) ∙ hold.rows row h;
      columns = λ row h. ap cols (done.made row h) ∙ cols-tabulate (strips row).rows (cols (strips row)) (w row) ∙ hold.columns row h;
      words = λ row l c h hl hc.
          (let rows : (strips row).rows ≡ rows_below d d.m row = hold.rows row h in
          let columns : cols (strips row) ≡ width = hold.columns row h in
          ap (λ m. entry m l c) (done.made row h) ∙ entry-tabulate (strips row).rows (cols (strips row)) (w row) l c (rw rows hl) (rw columns hc)
          ∙ eliminated_at p inverse (strips row) first j l c (row_at d row l) (part_entry (line row) (at row) 0) x
          (hold.words row l c h hl hc) (hold.words row l j h hl hj) (done.pivot_words row j h hj) (done.pivot_words row c h hc));
    }
  where
    w : ℕ → ℕ → ℕ → ℕ
    w row l k = if nat_lt (first + j) (row_at d row l) && nat_le j k then eliminated_word p inverse (strips row) j (part_entry (line row) (at row) 0) l k else entry (strips row) l k

-- rows that were solved, and then the product taken off the rows below them, are rows reduced
pub solved-reduced : (p : ℕ) (inverse : ℕ → ℕ) (unit : Bool) (l f : ℕ → ℕ → ℕ) (first n m i c : ℕ) → first + n ≤ m → i < m → gained_rows p (p - 1) (λ i k. l i (first + k)) n (λ k c. solved_rows p inverse unit l first n f (first + k) c) (first + n) m (solved_rows p inverse unit l first n f) i c ≡ reduced p inverse unit l first n (λ r. f r c) i
solved-reduced p inverse unit l f first n m i c hm hi =
    let s : ℕ → ℕ → ℕ = λ i c. solved p inverse unit l first (λ r. f r c) (i - first) in
    let h : ℕ → ℕ → ℕ = solved_rows p inverse unit l first n f in
    let gain : ℕ → ℕ → ℕ = λ i c. gained p (p - 1) (λ i k. l i (first + k)) n (λ r. h r c) (λ k. h (first + k) c) i in
    elim (cases_lt i (first + n)) [
      | inl before ↦
          in_rows-outside (first + n) m gain h i c (inl before)
          ∙ (elim (cases_lt i first) [
            | inl above ↦ in_rows-outside first (first + n) s f i c (inl above) ∙ sym (reduced-above p inverse unit l first n (λ r. f r c) i above)
            | inr from ↦
                in_rows-inside first (first + n) s f i c from before ∙ sym (reduced-among p inverse unit l first n (λ r. f r c) (i - first) (omega arith))
                ∙ ap (reduced p inverse unit l first n (λ r. f r c)) (let e : first + (i - first) ≡ i = omega arith in e)
          ])
      | inr under ↦
          in_rows-inside (first + n) m gain h i c under hi
          ∙ ap (λ v. (v + (p - 1) * sum_to n (λ k. l i (first + k) * h (first + k) c)) % p) (in_rows-outside first (first + n) s f i c (inr under))
          ∙ ap (λ v. (f i c + (p - 1) * v) % p)
          (sum_to-same n (λ k. l i (first + k) * h (first + k) c) (λ k. l i (first + k) * solved p inverse unit l first (λ r. f r c) k)
          (λ k hk. ap (λ v. l i (first + k) * v)
          (in_rows-inside first (first + n) s f (first + k) c (omega arith) (omega arith) ∙ ap (solved p inverse unit l first (λ r. f r c)) (let e : first + k - first ≡ k = omega arith in e))))
          ∙ sym (reduced-under p inverse unit l first n (λ r. f r c) i under)
    ]

-- and so are those of an upper triangle, with the rows above them
pub upper_solved-reduced : (p : ℕ) (inverse : ℕ → ℕ) (unit : Bool) (u f : ℕ → ℕ → ℕ) (first n i c : ℕ) → gained_rows p (p - 1) (λ i k. u i (first + k)) n (λ k c. upper_solved_rows p inverse unit u first n f (first + k) c) 0 first (upper_solved_rows p inverse unit u first n f) i c ≡ upper_reduced p inverse unit u first n (λ r. f r c) i
upper_solved-reduced p inverse unit u f first n i c =
    let s : ℕ → ℕ → ℕ = λ i c. upper_solved p inverse unit u first n (λ r. f r c) (i - first) in
    let h : ℕ → ℕ → ℕ = upper_solved_rows p inverse unit u first n f in
    let gain : ℕ → ℕ → ℕ = λ i c. gained p (p - 1) (λ i k. u i (first + k)) n (λ r. h r c) (λ k. h (first + k) c) i in
    elim (cases_lt i first) [
      | inl above ↦
          in_rows-inside 0 first gain h i c (omega arith) above
          ∙ ap (λ v. (v + (p - 1) * sum_to n (λ k. u i (first + k) * h (first + k) c)) % p) (in_rows-outside first (first + n) s f i c (inl above))
          ∙ ap (λ v. (f i c + (p - 1) * v) % p)
          (sum_to-same n (λ k. u i (first + k) * h (first + k) c) (λ k. u i (first + k) * upper_solved p inverse unit u first n (λ r. f r c) k)
          (λ k hk. ap (λ v. u i (first + k) * v)
          (in_rows-inside first (first + n) s f (first + k) c (omega arith) (omega arith) ∙ ap (upper_solved p inverse unit u first n (λ r. f r c)) (let e : first + k - first ≡ k = omega arith in e))))
          ∙ sym (upper_reduced-above p inverse unit u first n (λ r. f r c) i above)
      | inr from ↦
          in_rows-outside 0 first gain h i c (inr from)
          ∙ (elim (cases_lt i (first + n)) [
            | inl among ↦
                in_rows-inside first (first + n) s f i c from among ∙ sym (upper_reduced-among p inverse unit u first n (λ r. f r c) (i - first) (omega arith))
                ∙ ap (upper_reduced p inverse unit u first n (λ r. f r c)) (let e : first + (i - first) ≡ i = omega arith in e)
            | inr under ↦ in_rows-outside first (first + n) s f i c (inr under) ∙ sym (upper_reduced-under p inverse unit u first n (λ r. f r c) i under)
          ])
    ]

-- the next exchange of a list of pivots, on words by row and column
pub exchanged-next : (v : List ℕ) (first k : ℕ) (f : ℕ → ℕ → ℕ) → exchange (first + k) (pivot_row v (first + k)) (λ i c. exchanged v first k (λ r. f r c) i) ≡ (λ i c. exchanged v first (suc k) (λ r. f r c) i)
unfolding came_from
exchanged-next v first k f = refl

-- one exchange more on strips
pub exchanges-held : (d : RowMap) (width : ℕ) (v : List ℕ) (first k : ℕ) (f : ℕ → ℕ → ℕ) (strips strips' : ℕ → Matrix) → IsRowMap d → first + k < d.m → pivot_row v (first + k) < d.m → AreExchanged d width (first + k) (pivot_row v (first + k)) strips strips' → Hold d width (λ i c. exchanged v first k (λ r. f r c) i) strips → Hold d width (λ i c. exchanged v first (suc k) (λ r. f r c) i) strips'
unfolding came_from
exchanges-held d width v first k f strips strips' map hi hj done hold = exchange-held d width (first + k) (pivot_row v (first + k)) (λ i c. exchanged v first k (λ r. f r c) i) strips strips' map hi hj done hold

-- a column of a panel on strips: exchanged with the pivot's row, and then eliminated
pub column-held : (d : RowMap) (width p : ℕ) (inverse : ℕ → ℕ) (first j r : ℕ) (s : Eliminated) (line : ℕ → Matrix) (at : ℕ → Part) (strips swapped_strips strips' : ℕ → Matrix) → IsRowMap d → j < width → first + j < d.m → first + j ≤ r → r < d.m → s.words r (first + j) ≢ 0 → ((k : ℕ) → first + j ≤ k → k < r → s.words k (first + j) ≡ 0) → AreExchanged d width (first + j) r strips swapped_strips → AreEliminated d width p inverse (first + j) j (λ i c. s.words (swapped (first + j) r i) (first + c)) line at swapped_strips strips' → Hold d width (λ i c. s.words i (first + c)) strips → Hold d width (λ i c. (eliminate_column p inverse d.m (first + j) s).words i (first + c)) strips' × ((eliminate_column p inverse d.m (first + j) s).pivots ≡ s.pivots ++ ((r + 1) ∷ []))
unfolding eliminate_column with_pivot
column-held d width p inverse first j r s line at strips swapped_strips strips' map hj hd from below nonzero none swaps done hold =
    let found : pivot_from (λ i. s.words i (first + j)) (first + j) (d.m - (first + j)) ≡ Some r =
    pivot_from-some (λ i. s.words i (first + j)) (first + j) (d.m - (first + j)) r from (omega arith) nonzero none in
    let moved : Hold d width (λ i c. s.words (swapped (first + j) r i) (first + c)) swapped_strips = exchange-held d width (first + j) r (λ i c. s.words i (first + c)) strips swapped_strips map hd below swaps hold in
    rw found ((eliminate-held d width p inverse first j (exchange (first + j) r s.words) line at swapped_strips strips' map hj done moved, refl))

-- a column without a pivot stays
pub column-without_pivot : (p : ℕ) (inverse : ℕ → ℕ) (m j : ℕ) (s : Eliminated) → j < m → ((k : ℕ) → j ≤ k → k < m → s.words k j ≡ 0) → ((eliminate_column p inverse m j s).words ≡ s.words) × ((eliminate_column p inverse m j s).pivots ≡ s.pivots ++ ((j + 1) ∷ []))
unfolding eliminate_column with_pivot
column-without_pivot p inverse m j s h none =
    let found : pivot_from (λ i. s.words i j) j (m - j) ≡ None = pivot_from-none (λ i. s.words i j) j (m - j) (λ k h1 h2. none k h1 (omega arith)) in
    rw found ((refl, refl))

-- a block row of a lower triangle on strips: solved on its process row, and then taken off the rows below
pub block_row-held : (d : RowMap) (width p : ℕ) (inverse : ℕ → ℕ) (unit : Bool) (l f : ℕ → ℕ → ℕ) (first n : ℕ) (block : Matrix) (bp : Part) (left : ℕ → Matrix) (lp : ℕ → Part) (right : ℕ → Matrix) (rp : ℕ → Part) (strips solved_strips strips' : ℕ → Matrix) → IsRowMap d → IsBlock d first n → AreSolved d width p inverse unit l first n block bp strips solved_strips → HaveGained d width p (p - 1) (λ i k. l i (first + k)) n (λ k c. solved_rows p inverse unit l first n f (first + k) c) (first + n) d.m left lp right rp solved_strips strips' → Hold d width f strips → Hold d width (λ i c. reduced p inverse unit l first n (λ r. f r c) i) strips'
block_row-held d width p inverse unit l f first n block bp left lp right rp strips solved_strips strips' map in_one solve gain hold =
    let y : ℕ → ℕ → ℕ = λ k c. solved_rows p inverse unit l first n f (first + k) c in
    let h : ℕ → ℕ → ℕ = solved_rows p inverse unit l first n f in
    hold-same d width (gained_rows p (p - 1) (λ i k. l i (first + k)) n y (first + n) d.m h) (λ i c. reduced p inverse unit l first n (λ r. f r c) i) strips' map
    (λ i c hi _. solved-reduced p inverse unit l f first n d.m i c in_one.inside hi)
    (gain-held d width p (p - 1) (λ i k. l i (first + k)) n y h (first + n) d.m left lp right rp solved_strips strips' map gain
    (solve-held d width p inverse unit l f first n block bp strips solved_strips map in_one solve hold))

-- and of an upper triangle, taken off the rows above
pub upper_block_row-held : (d : RowMap) (width p : ℕ) (inverse : ℕ → ℕ) (unit : Bool) (u f : ℕ → ℕ → ℕ) (first n : ℕ) (block : Matrix) (bp : Part) (left : ℕ → Matrix) (lp : ℕ → Part) (right : ℕ → Matrix) (rp : ℕ → Part) (strips solved_strips strips' : ℕ → Matrix) → IsRowMap d → IsBlock d first n → AreUpperSolved d width p inverse unit u first n block bp strips solved_strips → HaveGained d width p (p - 1) (λ i k. u i (first + k)) n (λ k c. upper_solved_rows p inverse unit u first n f (first + k) c) 0 first left lp right rp solved_strips strips' → Hold d width f strips → Hold d width (λ i c. upper_reduced p inverse unit u first n (λ r. f r c) i) strips'
upper_block_row-held d width p inverse unit u f first n block bp left lp right rp strips solved_strips strips' map in_one solve gain hold =
    let y : ℕ → ℕ → ℕ = λ k c. upper_solved_rows p inverse unit u first n f (first + k) c in
    let h : ℕ → ℕ → ℕ = upper_solved_rows p inverse unit u first n f in
    hold-same d width (gained_rows p (p - 1) (λ i k. u i (first + k)) n y 0 first h) (λ i c. upper_reduced p inverse unit u first n (λ r. f r c) i) strips' map
    (λ i c _ _. upper_solved-reduced p inverse unit u f first n i c)
    (gain-held d width p (p - 1) (λ i k. u i (first + k)) n y h 0 first left lp right rp solved_strips strips' map gain
    (upper_solve-held d width p inverse unit u f first n block bp strips solved_strips map in_one solve hold))

-- an exchange of a row with itself changes nothing
pub exchanged-itself : (d : RowMap) (width i : ℕ) (strips : ℕ → Matrix) → AreExchanged d width i i strips strips
exchanged-itself d width i strips =
    record { rows = λ row h. refl; columns = λ row h. refl; first = λ c hc. refl; second = λ c hc. refl; others = λ row l c h hl hc other other'. refl }

-- two rows of one process row change places in its strip
pub exchanged-on_one : (d : RowMap) (width i j : ℕ) (f : ℕ → ℕ → ℕ) (strips strips' : ℕ → Matrix) → IsRowMap d → i < d.m → j < d.m → Hold d width f strips → row_owner d j ≡ row_owner d i → strips' (row_owner d i) ≡ with_rows_swapped (strips (row_owner d i)) (row_place d i) (row_place d j) → ((row : ℕ) → row < d.procs → row ≢ row_owner d i → strips' row ≡ strips row) → AreExchanged d width i j strips strips'
exchanged-on_one d width i j f strips strips' map hi hj hold together made others =
    record {
      rows = λ row h. elim (cases_eq row o) [
        | inl here ↦ ap (λ r. (strips' r).rows) here ∙ ap (λ m. m.rows) made ∙ rows-tabulate (strips o).rows (cols (strips o)) w ∙ ap (λ r. (strips r).rows) (sym here)
        | inr other ↦ ap (λ m. m.rows) (others row h other)
      ];
      columns = λ row h. elim (cases_eq row o) [
        | inl here ↦ ap (λ r. cols (strips' r)) here ∙ ap cols made ∙ cols-tabulate (strips o).rows (cols (strips o)) w ∙ ap (λ r. cols (strips r)) (sym here)
        | inr other ↦ ap cols (others row h other)
      ];
      first = λ c hc. written (row_place d i) c (row_place-lt d i map hi) hc ∙ ap (λ l. entry (strips o) l c) (swapped-first (row_place d i) (row_place d j)) ∙ ap (λ r. entry (strips r) (row_place d j) c) (sym together);
      second = λ c hc. ap (λ r. entry (strips' r) (row_place d j) c) together ∙ written (row_place d j) c (rw together at (row_place-lt d j map hj)) hc
          ∙ ap (λ l. entry (strips o) l c) (swapped-second (row_place d i) (row_place d j));
      others = λ row l c h hl hc not_first not_second. elim (cases_eq row o) [
        | inl here ↦
            ap (λ r. entry (strips' r) l c) here ∙ written l c (rw here at hl) hc
            ∙ ap (λ k. entry (strips o) k c) (swapped-other (row_place d i) (row_place d j) l
            (λ e. not_first (ap (λ r. row_at d r l) here ∙ ap (row_at d o) e ∙ row_at-owner d i map))
            (λ e. not_second (ap (λ r. row_at d r l) (here ∙ sym together) ∙ ap (row_at d (row_owner d j)) e ∙ row_at-owner d j map)))
            ∙ ap (λ r. entry (strips r) l c) (sym here)
        | inr other ↦ ap (λ m. entry m l c) (others row h other)
      ];
    }
  where
    o : ℕ
    o = row_owner d i

    w : ℕ → ℕ → ℕ
    w l c = entry (strips (row_owner d i)) (swapped (row_place d i) (row_place d j) l) c

    written : (l c : ℕ) → l < rows_below d d.m (row_owner d i) → c < width → entry (strips' (row_owner d i)) l c ≡ entry (strips (row_owner d i)) (swapped (row_place d i) (row_place d j) l) c
    written l c hl hc =
        let rows : (strips (row_owner d i)).rows ≡ rows_below d d.m (row_owner d i) = hold.rows (row_owner d i) (row_owner-lt d i map) in
        let columns : cols (strips (row_owner d i)) ≡ width = hold.columns (row_owner d i) (row_owner-lt d i map) in
        ap (λ m. entry m l c) made ∙ entry-tabulate (strips (row_owner d i)).rows (cols (strips (row_owner d i))) w l c (rw rows hl) (rw columns hc)

-- a row of a matrix that was written over by another
copied-row : (a b m : Matrix) (sp : Part) (k width l c : ℕ) → b ≡ with_copy a (one_row k width) m sp → l < a.rows → c < cols a → c < width → l ≡ k → entry b l c ≡ part_entry m sp 0 c
copied-row a b m sp k width l c e hl hc hw here =
    let w : ℕ → ℕ → ℕ = λ i j. part_entry m sp (i - k) (j - 0) in
    ap (λ x. entry x l c) e ∙ entry-tabulate a.rows (cols a) (patched (one_row k width) w (entry a)) l c hl hc
    ∙ patched-inside (one_row k width) w (entry a) l c (omega arith) (omega arith) (omega arith) hw
    ∙ ap (λ i. part_entry m sp i (c - 0)) (let z : l - k ≡ 0 = omega arith in z) ∙ ap (part_entry m sp 0) (let z : c - 0 ≡ c = omega arith in z)

copied-other : (a b m : Matrix) (sp : Part) (k width l c : ℕ) → b ≡ with_copy a (one_row k width) m sp → l < a.rows → c < cols a → l ≢ k → entry b l c ≡ entry a l c
copied-other a b m sp k width l c e hl hc other =
    let w : ℕ → ℕ → ℕ = λ i j. part_entry m sp (i - k) (j - 0) in
    ap (λ x. entry x l c) e ∙ entry-tabulate a.rows (cols a) (patched (one_row k width) w (entry a)) l c hl hc
    ∙ patched-outside (one_row k width) w (entry a) l c (elim (cases_lt l k) [ inl before ↦ inl before | inr from ↦ inr (omega arith) ])

-- rows of two process rows change places, as each strip gets the other's row
pub exchanged-on_two : (d : RowMap) (width i j : ℕ) (f : ℕ → ℕ → ℕ) (m m' : Matrix) (sp sp' : Part) (strips strips' : ℕ → Matrix) → IsRowMap d → i < d.m → j < d.m → Hold d width f strips → row_owner d j ≢ row_owner d i → strips' (row_owner d i) ≡ with_copy (strips (row_owner d i)) (one_row (row_place d i) width) m sp → strips' (row_owner d j) ≡ with_copy (strips (row_owner d j)) (one_row (row_place d j) width) m' sp' → ((c : ℕ) → c < width → part_entry m sp 0 c ≡ entry (strips (row_owner d j)) (row_place d j) c) → ((c : ℕ) → c < width → part_entry m' sp' 0 c ≡ entry (strips (row_owner d i)) (row_place d i) c) → ((row : ℕ) → row < d.procs → row ≢ row_owner d i → row ≢ row_owner d j → strips' row ≡ strips row) → AreExchanged d width i j strips strips'
exchanged-on_two d width i j f m m' sp sp' strips strips' map hi hj hold apart made made' words words' others =
    record {
      rows = λ row h. elim (cases_eq row (row_owner d i)) [
        | inl here ↦ ap (λ r. (strips' r).rows) here ∙ ap (λ x. x.rows) made ∙ rows-with_part (strips (row_owner d i)) (one_row (row_place d i) width) w ∙ ap (λ r. (strips r).rows) (sym here)
        | inr not_first ↦
            (elim (cases_eq row (row_owner d j)) [
              | inl here ↦ ap (λ r. (strips' r).rows) here ∙ ap (λ x. x.rows) made' ∙ rows-with_part (strips (row_owner d j)) (one_row (row_place d j) width) w' ∙ ap (λ r. (strips r).rows) (sym here)
              | inr not_second ↦ ap (λ x. x.rows) (others row h not_first not_second)
            ])
      ];
      columns = λ row h. elim (cases_eq row (row_owner d i)) [
        | inl here ↦ ap (λ r. cols (strips' r)) here ∙ ap cols made ∙ cols-with_part (strips (row_owner d i)) (one_row (row_place d i) width) w ∙ ap (λ r. cols (strips r)) (sym here)
        | inr not_first ↦
            (elim (cases_eq row (row_owner d j)) [
              | inl here ↦ ap (λ r. cols (strips' r)) here ∙ ap cols made' ∙ cols-with_part (strips (row_owner d j)) (one_row (row_place d j) width) w' ∙ ap (λ r. cols (strips r)) (sym here)
              | inr not_second ↦ ap cols (others row h not_first not_second)
            ])
      ];
      first = λ c hc. copied-row (strips (row_owner d i)) (strips' (row_owner d i)) m sp (row_place d i) width (row_place d i) c made (inside i hi) (across i c hc) hc refl ∙ words c hc;
      second = λ c hc. copied-row (strips (row_owner d j)) (strips' (row_owner d j)) m' sp' (row_place d j) width (row_place d j) c made' (inside j hj) (across j c hc) hc refl ∙ words' c hc;
      others = λ row l c h hl hc not_i not_j. elim (cases_eq row (row_owner d i)) [
        | inl here ↦
            ap (λ r. entry (strips' r) l c) here
            ∙ copied-other (strips (row_owner d i)) (strips' (row_owner d i)) m sp (row_place d i) width l c made (rw (hold.rows (row_owner d i) (row_owner-lt d i map)) (rw here at hl)) (across i c hc)
            (λ e. not_i (ap (λ r. row_at d r l) here ∙ ap (row_at d (row_owner d i)) e ∙ row_at-owner d i map))
            ∙ ap (λ r. entry (strips r) l c) (sym here)
        | inr not_first ↦
            (elim (cases_eq row (row_owner d j)) [
              | inl here ↦
                  ap (λ r. entry (strips' r) l c) here
                  ∙ copied-other (strips (row_owner d j)) (strips' (row_owner d j)) m' sp' (row_place d j) width l c made' (rw (hold.rows (row_owner d j) (row_owner-lt d j map)) (rw here at hl)) (across j c hc)
                  (λ e. not_j (ap (λ r. row_at d r l) here ∙ ap (row_at d (row_owner d j)) e ∙ row_at-owner d j map))
                  ∙ ap (λ r. entry (strips r) l c) (sym here)
              | inr not_second ↦ ap (λ x. entry x l c) (others row h not_first not_second)
            ])
      ];
    }
  where
    w : ℕ → ℕ → ℕ
    w a b = part_entry m sp (a - row_place d i) (b - 0)

    w' : ℕ → ℕ → ℕ
    w' a b = part_entry m' sp' (a - row_place d j) (b - 0)

    inside : (k : ℕ) → k < d.m → row_place d k < (strips (row_owner d k)).rows
    inside k hk = rw (hold.rows (row_owner d k) (row_owner-lt d k map)) (row_place-lt d k map hk)

    across : (k c : ℕ) → c < width → c < cols (strips (row_owner d k))
    across k c hc = rw (hold.columns (row_owner d k) (row_owner-lt d k map)) hc

-- a strip all of whose words were written
whole-held : (d : RowMap) (width : ℕ) (f g : ℕ → ℕ → ℕ) (w : ℕ → ℕ → ℕ → ℕ) (strips strips' : ℕ → Matrix) → Hold d width f strips → ((row : ℕ) → row < d.procs → strips' row ≡ with_part (strips row) (whole_part (strips row)) (w row)) → ((row l c : ℕ) → row < d.procs → l < rows_below d d.m row → c < width → w row l c ≡ g (row_at d row l) c) → Hold d width g strips'
whole-held d width f g w strips strips' hold made words =
    record {
      rows = λ row h. ap (λ m. m.rows) (made row h) ∙ rows-with_part (strips row) (whole_part (strips row)) (w row) ∙ hold.rows row h;
      columns = λ row h. ap cols (made row h) ∙ cols-with_part (strips row) (whole_part (strips row)) (w row) ∙ hold.columns row h;
      words = λ row l c h hl hc.
          (let rows : (strips row).rows ≡ rows_below d d.m row = hold.rows row h in
          let columns : cols (strips row) ≡ width = hold.columns row h in
          let hl' : l < (strips row).rows = rw rows hl in
          let hc' : c < cols (strips row) = rw columns hc in
          ap (λ m. entry m l c) (made row h) ∙ entry-tabulate (strips row).rows (cols (strips row)) (patched (whole_part (strips row)) (w row) (entry (strips row))) l c hl' hc'
          ∙ patched-inside (whole_part (strips row)) (w row) (entry (strips row)) l c (omega arith) hl' (omega arith) hc' ∙ words row l c h hl hc);
    }

-- strips that gained a multiple of others where a test holds
pub add-held : (d : RowMap) (width p a : ℕ) (f g : ℕ → ℕ → ℕ) (holds : ℕ → ℕ → Bool) (source : ℕ → Matrix) (sp : ℕ → Part) (test : ℕ → ℕ → ℕ → Bool) (strips strips' : ℕ → Matrix) → HaveAdded d width p a g holds source sp test strips strips' → Hold d width f strips → Hold d width (added_words p a g holds f) strips'
add-held d width p a f g holds source sp test strips strips' done hold =
    whole-held d width f (added_words p a g holds f)
    (λ row i j. if test row (0 + (i - 0)) (0 + (j - 0)) then (entry (strips row) i j + a * part_entry (source row) (sp row) (i - 0) (j - 0)) % p else entry (strips row) i j) strips strips' hold done.made
    (λ row l c h hl hc.
    let row_is : l - 0 ≡ l = omega arith in
    let col_is : c - 0 ≡ c = omega arith in
    let row_at_is : 0 + (l - 0) ≡ l = omega arith in
    let col_at_is : 0 + (c - 0) ≡ c = omega arith in
    ap (λ r. if test row r (0 + (c - 0)) then (entry (strips row) l c + a * part_entry (source row) (sp row) (l - 0) (c - 0)) % p else entry (strips row) l c) row_at_is
    ∙ ap (λ k. if test row l k then (entry (strips row) l c + a * part_entry (source row) (sp row) (l - 0) (c - 0)) % p else entry (strips row) l c) col_at_is
    ∙ ap (λ b. if b then (entry (strips row) l c + a * part_entry (source row) (sp row) (l - 0) (c - 0)) % p else entry (strips row) l c) (done.tests row l c h hl hc)
    ∙ ap (λ v. if holds (row_at d row l) c then (entry (strips row) l c + a * v) % p else entry (strips row) l c)
    (ap (λ r. part_entry (source row) (sp row) r (c - 0)) row_is ∙ ap (part_entry (source row) (sp row) l) col_is ∙ done.source_words row l c h hl hc)
    ∙ ap (λ v. if holds (row_at d row l) c then (v + a * g (row_at d row l) c) % p else v) (hold.words row l c h hl hc))

-- strips that were multiplied
pub scale-held : (d : RowMap) (width p a : ℕ) (f : ℕ → ℕ → ℕ) (strips strips' : ℕ → Matrix) → ((row : ℕ) → row < d.procs → strips' row ≡ with_scaled p (strips row) (whole_part (strips row)) a) → Hold d width f strips → Hold d width (λ i c. (f i c * a) % p) strips'
scale-held d width p a f strips strips' made hold =
    whole-held d width f (λ i c. (f i c * a) % p) (λ row i j. (entry (strips row) i j * a) % p) strips strips' hold made (λ row l c h hl hc. ap (λ v. (v * a) % p) (hold.words row l c h hl hc))
