-- A panel of a whole matrix, which is cut into the panel and the columns left and right of it, and put together again.
use Rattle.std.proofs.Common.{◌≡◌, ℕ, zero, suc, ◌+◌, ◌-◌, ◌<◌, ◌≤◌, ◌⊎◌, min, List, [], length, get_or, refl, sym, ◌∙◌, ap, subst, arith, inl, inr}
use Rattle.std.proofs.Math.Path.{fun_ext}
use Rattle.std.proofs.lemmas.Bool.{cases_lt}
use Rattle.run_data.specs.declared.matrix.Part.{Part}
use Rattle.run_data.specs.Matrix.{Matrix, cols, entry, IsShaped, tabulate}
use Rattle.run_data.specs.Parts.{IsWithin, SameShape, patched, part_of, with_copy}
use Rattle.run_data.proofs.Matrices.{tabulate_is, tabulate-same, rows-tabulate, cols-tabulate, entry-tabulate, entry-past, IsShaped-tabulate}
use Rattle.run_data.proofs.PartLaws.{AreWords-from_inside, AreWords-tabulate, rows-with_part, cols-with_part}
use Rattle.local_blas.specs.Kernels.{AreWords}
use Rattle.serial_model.specs.Elimination.{Eliminated, eliminate_columns, untouched, elimination, least_zero, diagonal, pivot_row, came_from, exchanged}
use Rattle.elimination.specs.Panels.{IsReady, AgreesOn, IsPanel, carried}
use Rattle.elimination.specs.Whole.{AreRows, cut_columns, with_rows_exchanged, with_carried, strip_of_words, strip_state, whole_state}
use Rattle.elimination.proofs.Steps.{step-agrees}
use Rattle.elimination.proofs.PanelLaws.{ready-columns, columns-agree, columns-split, column-carried_by, column-exchanged_by}
use Rattle.elimination.proofs.Info.{least_zero-same, info-is_test}
use Rattle.elimination.proofs.Numbers.{columns-count, columns-rows}
use Rattle.elimination.proofs.Words.{ready_whole, ready-matrix}
use Rattle.elimination.proofs.WholeSteps.{patched_in, patched_left, patched_right}

-- all rows of some columns
abbrev pub columns_part : ℕ → ℕ → ℕ → Part
columns_part m c0 c1 = record { r0 = 0; r1 = m; c0 = c0; c1 = c1 }

pub cut_is : (a b : Matrix) (at : Part) (c0 c1 : ℕ) → at ≡ columns_part a.rows c0 c1 → b ≡ part_of a at → b ≡ cut_columns a c0 c1
cut_is a b at c0 c1 eat e =
    let whole : a.rows - 0 ≡ a.rows = omega arith in
    e ∙ ap (part_of a) eat ∙ ap (λ m. tabulate m (c1 - c0) (λ i j. entry a (0 + i) (c0 + j))) whole
    ∙ tabulate-same a.rows (c1 - c0) (λ i j. entry a (0 + i) (c0 + j)) (λ i j. entry a i (c0 + j))
    (λ i j _ _. ap (λ r. entry a r (c0 + j)) (let e : 0 + i ≡ i = omega arith in e))

pub cut-rows : (a b : Matrix) (c0 c1 : ℕ) → b ≡ cut_columns a c0 c1 → b.rows ≡ a.rows
cut-rows a b c0 c1 e = ap (λ b. b.rows) e ∙ rows-tabulate a.rows (c1 - c0) (λ i j. entry a i (c0 + j))

pub cut-cols : (a b : Matrix) (c0 c1 : ℕ) → b ≡ cut_columns a c0 c1 → cols b ≡ c1 - c0
cut-cols a b c0 c1 e = ap cols e ∙ cols-tabulate a.rows (c1 - c0) (λ i j. entry a i (c0 + j))

pub cut-words : (p : ℕ) (a b : Matrix) (c0 c1 : ℕ) → AreWords p a → b ≡ cut_columns a c0 c1 → AreWords p b
cut-words p a b c0 c1 words e =
    subst (λ b. AreWords p b) (sym e) (AreWords-tabulate p a.rows (c1 - c0) (λ i j. entry a i (c0 + j)) (omega (arith, words.below 0 0)) (λ i j _ _. words.below i (c0 + j)))

-- its words, zeros past the rows as those of the whole
cut-entry : (a b : Matrix) (c0 c1 i k : ℕ) → IsShaped a → b ≡ cut_columns a c0 c1 → c0 ≤ k → k < c1 → entry b i (k - c0) ≡ entry a i k
cut-entry a b c0 c1 i k shaped e h1 h2 =
    let f : ℕ → ℕ → ℕ = λ i j. entry a i (c0 + j) in
    let back : c0 + (k - c0) ≡ k = omega arith in
    elim (cases_lt i a.rows) [
      | inl inside ↦ ap (λ b. entry b i (k - c0)) e ∙ entry-tabulate a.rows (c1 - c0) f i (k - c0) inside (omega arith) ∙ ap (entry a i) back
      | inr past ↦
          ap (λ b. entry b i (k - c0)) e ∙ entry-past (tabulate a.rows (c1 - c0) f) (IsShaped-tabulate a.rows (c1 - c0) f) i (k - c0) (subst (λ m. m ≤ i) (sym (rows-tabulate a.rows (c1 - c0) f)) past)
          ∙ sym (entry-past a shaped i k past)
    ]

-- a matrix that was copied over some columns of another
copied_inside : (dst src : Matrix) (m q w c0 c1 i k : ℕ) → i < dst.rows → k < cols dst → i < m → c0 ≤ k → k < c1 → entry (with_copy dst (columns_part m c0 c1) src (columns_part q 0 w)) i k ≡ entry src i (k - c0)
copied_inside dst src m q w c0 c1 i k hi hk hm h1 h2 =
    let f : ℕ → ℕ → ℕ = λ i j. entry src (0 + (i - 0)) (0 + (j - c0)) in
    entry-tabulate dst.rows (cols dst) (patched (columns_part m c0 c1) f (entry dst)) i k hi hk ∙ patched_in (columns_part m c0 c1) f (entry dst) i k (omega arith) hm h1 h2
    ∙ ap (λ r. entry src r (0 + (k - c0))) (let e : 0 + (i - 0) ≡ i = omega arith in e) ∙ ap (entry src i) (let e : 0 + (k - c0) ≡ k - c0 = omega arith in e)

copied_outside : (dst src : Matrix) (m q w c0 c1 i k : ℕ) → i < dst.rows → k < cols dst → (k < c0) ⊎ (c1 ≤ k) → entry (with_copy dst (columns_part m c0 c1) src (columns_part q 0 w)) i k ≡ entry dst i k
copied_outside dst src m q w c0 c1 i k hi hk out =
    let f : ℕ → ℕ → ℕ = λ i j. entry src (0 + (i - 0)) (0 + (j - c0)) in
    entry-tabulate dst.rows (cols dst) (patched (columns_part m c0 c1) f (entry dst)) i k hi hk ∙ kept f out
  where
    kept : (f : ℕ → ℕ → ℕ) → (k < c0) ⊎ (c1 ≤ k) → patched (columns_part m c0 c1) f (entry dst) i k ≡ entry dst i k
    kept f (inl left) = patched_left (columns_part m c0 c1) f (entry dst) i k left
    kept f (inr right) = patched_right (columns_part m c0 c1) f (entry dst) i k right

pub within_is : (at : Part) (m c0 c1 : ℕ) (b : Matrix) → at ≡ columns_part m c0 c1 → m ≤ b.rows → c0 ≤ c1 → c1 ≤ cols b → IsWithin at b
within_is at m c0 c1 b e h ordered end = subst (λ at. IsWithin at b) (sym e) (record { rows_ordered = omega arith; rows_end = h; columns_ordered = ordered; columns_end = end })

pub shapes_agree : (at sp : Part) (m q c0 c1 w : ℕ) → at ≡ columns_part m c0 c1 → sp ≡ columns_part q 0 w → m ≡ q → c1 - c0 ≡ w → SameShape at sp
shapes_agree at sp m q c0 c1 w eat esp rows columns =
    let left_rows : at.r1 - at.r0 ≡ m - 0 = ap (λ x. x.r1 - x.r0) eat in
    let right_rows : sp.r1 - sp.r0 ≡ q - 0 = ap (λ x. x.r1 - x.r0) esp in
    let left_columns : at.c1 - at.c0 ≡ c1 - c0 = ap (λ x. x.c1 - x.c0) eat in
    let right_columns : sp.c1 - sp.c0 ≡ w - 0 = ap (λ x. x.c1 - x.c0) esp in
    record { rows = omega arith; columns = omega arith }

pub copy-rows : (a dst src : Matrix) (at sp : Part) → a ≡ with_copy dst at src sp → a.rows ≡ dst.rows
copy-rows a dst src at sp e = ap (λ a. a.rows) e ∙ rows-with_part dst at (λ i j. entry src (sp.r0 + (i - at.r0)) (sp.c0 + (j - at.c0)))

pub copy-cols : (a dst src : Matrix) (at sp : Part) → a ≡ with_copy dst at src sp → cols a ≡ cols dst
copy-cols a dst src at sp e = ap cols e ∙ cols-with_part dst at (λ i j. entry src (sp.r0 + (i - at.r0)) (sp.c0 + (j - at.c0)))

pub carried-rows : (p : ℕ) (inverse : ℕ → ℕ) (x y l : Matrix) (v : List ℕ) (first n : ℕ) → y ≡ with_carried p inverse x l v first n → y.rows ≡ x.rows
carried-rows p inverse x y l v first n e = ap (λ a. a.rows) e ∙ rows-tabulate x.rows (cols x) (λ i k. carried p inverse (λ i k. entry l i (k - first)) v first n (λ r. entry x r k) i)

pub carried-cols : (p : ℕ) (inverse : ℕ → ℕ) (x y l : Matrix) (v : List ℕ) (first n : ℕ) → y ≡ with_carried p inverse x l v first n → cols y ≡ cols x
carried-cols p inverse x y l v first n e = ap cols e ∙ cols-tabulate x.rows (cols x) (λ i k. carried p inverse (λ i k. entry l i (k - first)) v first n (λ r. entry x r k) i)

-- what the panel and the list are after the panel was eliminated by itself: those of the whole
pub record IsDone (p : ℕ) (inverse : ℕ → ℕ) (a : Matrix) (v : List ℕ) (first end n : ℕ) (panel : Matrix) (w : List ℕ) : Type 0 where
  pub rows : panel.rows ≡ a.rows
  pub columns : cols panel ≡ end - first
  pub shaped : IsShaped panel
  pub words : (i k : ℕ) → first ≤ k → k < end → entry panel i (k - first) ≡ (eliminate_columns p inverse a.rows first n (whole_state a v)).words i k
  pub pivots : w ≡ (eliminate_columns p inverse a.rows first n (whole_state a v)).pivots

pub panel_done : (p : ℕ) (inverse : ℕ → ℕ) (a panel0 panel : Matrix) (v w : List ℕ) (first end n : ℕ) → IsShaped a → AreWords p a → length v ≡ first → first ≤ end → n ≤ end - first → first + n ≤ a.rows → panel0 ≡ cut_columns a first end → panel ≡ strip_of_words panel0.rows (cols panel0) first (eliminate_columns p inverse panel0.rows first n (strip_state first panel0 v)).words → w ≡ (eliminate_columns p inverse panel0.rows first n (strip_state first panel0 v)).pivots → IsDone p inverse a v first end n panel w
panel_done p inverse a panel0 panel v w first end n shaped words count ordered narrow inside cut made list =
    let m = a.rows in
    let s = whole_state a v in
    let t = eliminate_columns p inverse m first n (strip_state first panel0 v) in
    let u = eliminate_columns p inverse m first n s in
    let rows0 : panel0.rows ≡ m = cut-rows a panel0 first end cut in
    let cols0 : cols panel0 ≡ end - first = cut-cols a panel0 first end cut in
    let top : first + (end - first) ≡ end = omega arith in
    let start : AgreesOn first (first + (end - first)) (strip_state first panel0 v) s =
    record { words = λ i k h1 h2. cut-entry a panel0 first end i k shaped cut h1 (omega arith); pivots = refl } in
    let agree : AgreesOn first (first + (end - first)) t u = columns-agree p inverse m first (end - first) (strip_state first panel0 v) s n narrow start in
    let f : ℕ → ℕ → ℕ = λ i j. t.words i (first + j) in
    let is : panel ≡ tabulate m (end - first) f =
    made ∙ ap (λ r. strip_of_words r (cols panel0) first (eliminate_columns p inverse r first n (strip_state first panel0 v)).words) rows0 ∙ ap (λ c. tabulate m c f) cols0 in
    let ready : IsReady p m (first + n) u = ready-columns p inverse m first n s inside (ready_whole p a v first shaped words count) in
    record {
      rows = ap (λ b. b.rows) is ∙ rows-tabulate m (end - first) f;
      columns = ap cols is ∙ cols-tabulate m (end - first) f;
      shaped = subst (λ b. IsShaped b) (sym is) (IsShaped-tabulate m (end - first) f);
      words = λ i k h1 h2.
          (let back : first + (k - first) ≡ k = omega arith in
          elim (cases_lt i m) [
            | inl within ↦
                ap (λ b. entry b i (k - first)) is ∙ entry-tabulate m (end - first) f i (k - first) within (omega arith) ∙ ap (t.words i) back ∙ agree.words i k h1 (omega arith)
            | inr past ↦
                ap (λ b. entry b i (k - first)) is ∙ entry-past (tabulate m (end - first) f) (IsShaped-tabulate m (end - first) f) i (k - first) (subst (λ r. r ≤ i) (sym (rows-tabulate m (end - first) f)) past)
                ∙ sym (ready.past i k past)
          ]);
      pivots = list ∙ ap (λ r. (eliminate_columns p inverse r first n (strip_state first panel0 v)).pivots) rows0 ∙ agree.pivots;
    }

-- the panel's words are below the modulus
pub panel-words : (p : ℕ) (inverse : ℕ → ℕ) (a panel : Matrix) (v w : List ℕ) (first end n : ℕ) → IsShaped a → AreWords p a → length v ≡ first → first + n ≤ a.rows → first ≤ end → IsDone p inverse a v first end n panel w → AreWords p panel
panel-words p inverse a panel v w first end n shaped words count inside ordered done =
    let ready : IsReady p a.rows (first + n) (eliminate_columns p inverse a.rows first n (whole_state a v)) = ready-columns p inverse a.rows first n (whole_state a v) inside (ready_whole p a v first shaped words count) in
    AreWords-from_inside p panel done.shaped (omega (arith, words.below 0 0))
    (λ i j hi hj.
    (let columns : cols panel ≡ end - first = done.columns in
    let back : first + j - first ≡ j = omega arith in
    subst (λ n. n < p) (sym (ap (entry panel i) (sym back) ∙ done.words i (first + j) (omega arith) (omega arith))) (ready.below i (first + j))))

pub rows_same : (v w : List ℕ) (first n m k : ℕ) → v ≡ w → k ≡ m → AreRows w first n m → AreRows v first n k
rows_same v w first n m k ev ek rows = record { from = λ j h1 h2. omega (arith, rows.from j h1 h2, ap (λ v. get_or v j 0) ev); to = λ j h1 h2. omega (arith, rows.to j h1 h2, ap (λ v. get_or v j 0) ev) }

-- its numbers are rows
pub panel-rows : (p : ℕ) (inverse : ℕ → ℕ) (a panel : Matrix) (v w : List ℕ) (first end n : ℕ) → length v ≡ first → first + n ≤ a.rows → IsDone p inverse a v first end n panel w → AreRows w first n a.rows
panel-rows p inverse a panel v w first end n count inside done =
    rows_same w (eliminate_columns p inverse a.rows first n (whole_state a v)).pivots first n a.rows a.rows done.pivots refl (columns-rows p inverse a.rows first n (whole_state a v) inside count)

pub panel-count : (p : ℕ) (inverse : ℕ → ℕ) (a panel : Matrix) (v w : List ℕ) (first end n : ℕ) → length v ≡ first → first + n ≤ a.rows → IsDone p inverse a v first end n panel w → length w ≡ first + n
panel-count p inverse a panel v w first end n count inside done = ap length done.pivots ∙ columns-count p inverse a.rows first n (whole_state a v) inside ∙ ap (λ c. c + n) count

-- three pieces that were copied over all columns
pub joined : (a panel left right a1 a2 a3 : Matrix) (own before after own_all left_all right_all : Part) (first end q ql qr : ℕ) (f : ℕ → ℕ → ℕ) → first ≤ end → end ≤ cols a → own ≡ columns_part a.rows first end → before ≡ columns_part a.rows 0 first → after ≡ columns_part a.rows end (cols a) → own_all ≡ columns_part q 0 (end - first) → left_all ≡ columns_part ql 0 first → right_all ≡ columns_part qr 0 (cols a - end) → a1 ≡ with_copy a own panel own_all → a2 ≡ with_copy a1 before left left_all → a3 ≡ with_copy a2 after right right_all → ((i k : ℕ) → i < a.rows → first ≤ k → k < end → entry panel i (k - first) ≡ f i k) → ((i k : ℕ) → i < a.rows → k < first → entry left i k ≡ f i k) → ((i k : ℕ) → i < a.rows → end ≤ k → k < cols a → entry right i (k - end) ≡ f i k) → a3 ≡ tabulate a.rows (cols a) f
joined a panel left right a1 a2 a3 own before after own_all left_all right_all first end q ql qr f ordered inside eown ebefore eafter eown_all eleft_all eright_all e1 e2 e3 of_panel of_left of_right =
    let m = a.rows in
    let c = cols a in
    let is1 : a1 ≡ with_copy a (columns_part m first end) panel (columns_part q 0 (end - first)) = e1 ∙ ap (λ at. with_copy a at panel own_all) eown ∙ ap (with_copy a (columns_part m first end) panel) eown_all in
    let is2 : a2 ≡ with_copy a1 (columns_part m 0 first) left (columns_part ql 0 first) = e2 ∙ ap (λ at. with_copy a1 at left left_all) ebefore ∙ ap (with_copy a1 (columns_part m 0 first) left) eleft_all in
    let is3 : a3 ≡ with_copy a2 (columns_part m end c) right (columns_part qr 0 (c - end)) = e3 ∙ ap (λ at. with_copy a2 at right right_all) eafter ∙ ap (with_copy a2 (columns_part m end c) right) eright_all in
    let rows1 : a1.rows ≡ m = ap (λ b. b.rows) is1 ∙ rows-with_part a (columns_part m first end) (λ i j. entry panel (0 + (i - 0)) (0 + (j - first))) in
    let cols1 : cols a1 ≡ c = ap cols is1 ∙ cols-with_part a (columns_part m first end) (λ i j. entry panel (0 + (i - 0)) (0 + (j - first))) in
    let rows2 : a2.rows ≡ m = ap (λ b. b.rows) is2 ∙ rows-with_part a1 (columns_part m 0 first) (λ i j. entry left (0 + (i - 0)) (0 + (j - 0))) ∙ rows1 in
    let cols2 : cols a2 ≡ c = ap cols is2 ∙ cols-with_part a1 (columns_part m 0 first) (λ i j. entry left (0 + (i - 0)) (0 + (j - 0))) ∙ cols1 in
    let rows3 : a3.rows ≡ m = ap (λ b. b.rows) is3 ∙ rows-with_part a2 (columns_part m end c) (λ i j. entry right (0 + (i - 0)) (0 + (j - end))) ∙ rows2 in
    let cols3 : cols a3 ≡ c = ap cols is3 ∙ cols-with_part a2 (columns_part m end c) (λ i j. entry right (0 + (i - 0)) (0 + (j - end))) ∙ cols2 in
    let shaped3 : IsShaped a3 =
    subst (λ b. IsShaped b) (sym is3) (IsShaped-tabulate a2.rows (cols a2) (patched (columns_part m end c) (λ i j. entry right (0 + (i - 0)) (0 + (j - end))) (entry a2))) in
    let third : (i k : ℕ) → i < m → k < c → k < end → entry a3 i k ≡ entry a2 i k =
    λ i k hi hk h. ap (λ b. entry b i k) is3 ∙ copied_outside a2 right m qr (c - end) end c i k (omega arith) (omega arith) (inl h) in
    let second : (i k : ℕ) → i < m → k < c → first ≤ k → entry a2 i k ≡ entry a1 i k =
    λ i k hi hk h. ap (λ b. entry b i k) is2 ∙ copied_outside a1 left m ql first 0 first i k (omega arith) (omega arith) (inr h) in
    tabulate_is a3 m c f shaped3 rows3 cols3
    (λ i k hi hk. elim (cases_lt k end) [
      | inl early ↦
          (elim (cases_lt k first) [
            | inl left_of ↦
                third i k hi hk early ∙ ap (λ b. entry b i k) is2 ∙ copied_inside a1 left m ql first 0 first i k (omega arith) (omega arith) hi (omega arith) left_of
                ∙ ap (entry left i) (let e : k - 0 ≡ k = omega arith in e) ∙ of_left i k hi left_of
            | inr from ↦
                third i k hi hk early ∙ second i k hi hk from ∙ ap (λ b. entry b i k) is1 ∙ copied_inside a panel m q (end - first) first end i k hi hk hi from early ∙ of_panel i k hi from early
          ])
      | inr right_of ↦ ap (λ b. entry b i k) is3 ∙ copied_inside a2 right m qr (c - end) end c i k (omega arith) (omega arith) hi right_of hk ∙ of_right i k hi right_of hk
    ])

-- a column left of the panel
pub left-word : (p : ℕ) (inverse : ℕ → ℕ) (a panel left0 left : Matrix) (v w : List ℕ) (first end n i k : ℕ) → IsShaped a → AreWords p a → length v ≡ first → first + n ≤ a.rows → IsDone p inverse a v first end n panel w → left0 ≡ cut_columns a 0 first → left ≡ with_rows_exchanged left0 w first n → i < a.rows → k < first → entry left i k ≡ (eliminate_columns p inverse a.rows first n (whole_state a v)).words i k
left-word p inverse a panel left0 left v w first end n i k shaped words count inside done cut made hi hk =
    let s = whole_state a v in
    let u = eliminate_columns p inverse a.rows first n s in
    let rows0 : left0.rows ≡ a.rows = cut-rows a left0 0 first cut in
    let cols0 : cols left0 ≡ first - 0 = cut-cols a left0 0 first cut in
    let back : k - 0 ≡ k = omega arith in
    let is_panel : IsPanel first n u u.words w = record { words = λ i k _ _. refl; pivots = λ k _ _. ap (λ v. pivot_row v k) done.pivots } in
    ap (λ b. entry b i k) made ∙ entry-tabulate left0.rows (cols left0) (λ i k. exchanged w first n (λ r. entry left0 r k) i) i k (omega arith) (omega arith)
    ∙ ap (entry left0 (came_from w first n i)) (sym back) ∙ cut-entry a left0 0 first (came_from w first n i) k shaped cut (omega arith) hk
    ∙ sym (column-exchanged_by p inverse a.rows first n s u.words w i k inside (ready_whole p a v first shaped words count) is_panel hk)

-- and one right of it
pub right-word : (p : ℕ) (inverse : ℕ → ℕ) (a panel right0 right : Matrix) (v w : List ℕ) (first end n i k : ℕ) → IsShaped a → AreWords p a → length v ≡ first → first + n ≤ a.rows → first ≤ end → n ≤ end - first → IsDone p inverse a v first end n panel w → right0 ≡ cut_columns a end (cols a) → right ≡ with_carried p inverse right0 panel w first n → i < a.rows → end ≤ k → k < cols a → entry right i (k - end) ≡ (eliminate_columns p inverse a.rows first n (whole_state a v)).words i k
right-word p inverse a panel right0 right v w first end n i k shaped words count inside ordered narrow done cut made hi h1 h2 =
    let s = whole_state a v in
    let u = eliminate_columns p inverse a.rows first n s in
    let l : ℕ → ℕ → ℕ = λ i k. entry panel i (k - first) in
    let rows0 : right0.rows ≡ a.rows = cut-rows a right0 end (cols a) cut in
    let cols0 : cols right0 ≡ cols a - end = cut-cols a right0 end (cols a) cut in
    let is_panel : IsPanel first n u l w = record { words = λ i k g1 g2. done.words i k g1 (omega arith); pivots = λ k _ _. ap (λ v. pivot_row v k) done.pivots } in
    ap (λ b. entry b i (k - end)) made ∙ entry-tabulate right0.rows (cols right0) (λ i k. carried p inverse l w first n (λ r. entry right0 r k) i) i (k - end) (omega arith) (omega arith)
    ∙ ap (λ x. carried p inverse l w first n x i) (fun_ext (λ r. cut-entry a right0 end (cols a) r k shaped cut h1 h2))
    ∙ sym (column-carried_by p inverse a.rows first n s l w i k inside (ready_whole p a v first shaped words count) is_panel (omega arith))

-- how many columns the code eliminates
pub count_is : (rows cols first nb end n : ℕ) → first < rows → first < cols → end ≡ first + min nb (cols - first) → n ≡ min end rows - first → n ≡ min nb (min rows cols - first)
count_is rows cols first nb end n h1 h2 e1 e2 = omega arith

-- columns are eliminated from any columns that they stand among
columns-among : (p : ℕ) (inverse : ℕ → ℕ) (m lo hi first : ℕ) (s t : Eliminated) (n : ℕ) → lo ≤ first → first + n ≤ hi → AgreesOn lo hi s t → AgreesOn lo hi (eliminate_columns p inverse m first n s) (eliminate_columns p inverse m first n t)
unfolding eliminate_columns
columns-among p inverse m lo hi first s t zero h1 h2 agree = agree
columns-among p inverse m lo hi first s t (suc n) h1 h2 agree =
    step-agrees p inverse m lo hi (first + n) (eliminate_columns p inverse m first n s) (eliminate_columns p inverse m first n t) (omega arith) (omega arith) (columns-among p inverse m lo hi first s t n h1 (omega arith) agree)

-- a matrix after its first columns were eliminated
abbrev pub so_far : ℕ → (ℕ → ℕ) → Matrix → ℕ → Eliminated
so_far p inverse a0 first = eliminate_columns p inverse a0.rows 0 first (untouched (entry a0))

pub ready_so_far : (p : ℕ) (inverse : ℕ → ℕ) (a0 : Matrix) (first : ℕ) → IsShaped a0 → AreWords p a0 → first ≤ a0.rows → IsReady p a0.rows first (so_far p inverse a0 first)
ready_so_far p inverse a0 first shaped words inside =
    let at : 0 + first ≡ first = omega arith in
    rw at at (ready-columns p inverse a0.rows 0 first (untouched (entry a0)) (omega arith) (ready-matrix p a0 shaped words))

pub starts : (p : ℕ) (inverse : ℕ → ℕ) (a0 : Matrix) → IsShaped a0 → a0 ≡ tabulate a0.rows (cols a0) (so_far p inverse a0 0).words
unfolding eliminate_columns
starts p inverse a0 shaped = tabulate_is a0 a0.rows (cols a0) (entry a0) shaped refl refl (λ i j _ _. refl)

pub list_starts : (p : ℕ) (inverse : ℕ → ℕ) (a0 : Matrix) (v : List ℕ) → v ≡ [] → v ≡ (so_far p inverse a0 0).pivots
unfolding eliminate_columns
list_starts p inverse a0 v e = e

pub rows_so_far : (p : ℕ) (inverse : ℕ → ℕ) (a0 a : Matrix) (first : ℕ) → a ≡ tabulate a0.rows (cols a0) (so_far p inverse a0 first).words → a.rows ≡ a0.rows
rows_so_far p inverse a0 a first e = ap (λ a. a.rows) e ∙ rows-tabulate a0.rows (cols a0) (so_far p inverse a0 first).words

pub cols_so_far : (p : ℕ) (inverse : ℕ → ℕ) (a0 a : Matrix) (first : ℕ) → a ≡ tabulate a0.rows (cols a0) (so_far p inverse a0 first).words → cols a ≡ cols a0
cols_so_far p inverse a0 a first e = ap cols e ∙ cols-tabulate a0.rows (cols a0) (so_far p inverse a0 first).words

pub words_so_far : (p : ℕ) (inverse : ℕ → ℕ) (a0 a : Matrix) (first : ℕ) → IsShaped a0 → AreWords p a0 → first ≤ a0.rows → a ≡ tabulate a0.rows (cols a0) (so_far p inverse a0 first).words → AreWords p a
words_so_far p inverse a0 a first shaped words inside e =
    let ready : IsReady p a0.rows first (so_far p inverse a0 first) = ready_so_far p inverse a0 first shaped words inside in
    subst (λ a. AreWords p a) (sym e) (AreWords-tabulate p a0.rows (cols a0) (so_far p inverse a0 first).words (omega (arith, words.below 0 0)) (λ i k _ _. ready.below i k))

pub count_so_far : (p : ℕ) (inverse : ℕ → ℕ) (a0 : Matrix) (v : List ℕ) (first : ℕ) → IsShaped a0 → AreWords p a0 → first ≤ a0.rows → v ≡ (so_far p inverse a0 first).pivots → length v ≡ first
count_so_far p inverse a0 v first shaped words inside e = ap length e ∙ (ready_so_far p inverse a0 first shaped words inside).count

-- the next panel
next_agrees : (p : ℕ) (inverse : ℕ → ℕ) (a0 a : Matrix) (v : List ℕ) (first n : ℕ) → IsShaped a0 → AreWords p a0 → first + n ≤ min a0.rows (cols a0) → a ≡ tabulate a0.rows (cols a0) (so_far p inverse a0 first).words → v ≡ (so_far p inverse a0 first).pivots → AgreesOn 0 (cols a0) (eliminate_columns p inverse a0.rows first n (whole_state a v)) (so_far p inverse a0 (first + n))
next_agrees p inverse a0 a v first n shaped words inside ea ev =
    let m = a0.rows in
    let c = cols a0 in
    let s = so_far p inverse a0 first in
    let ready : IsReady p m first s = ready_so_far p inverse a0 first shaped words (omega arith) in
    let start : AgreesOn 0 c (whole_state a v) s =
    record {
      words = λ i k _ hk. elim (cases_lt i m) [
        | inl within ↦ ap (λ a. entry a i k) ea ∙ entry-tabulate m c s.words i k within hk
        | inr past ↦ ap (λ a. entry a i k) ea ∙ entry-past (tabulate m c s.words) (IsShaped-tabulate m c s.words) i k (subst (λ r. r ≤ i) (sym (rows-tabulate m c s.words)) past) ∙ sym (ready.past i k past)
      ];
      pivots = ev;
    } in
    let after : AgreesOn 0 c (eliminate_columns p inverse m first n (whole_state a v)) (eliminate_columns p inverse m first n s) = columns-among p inverse m 0 c first (whole_state a v) s n (omega arith) (omega arith) start in
    let at : 0 + first ≡ first = omega arith in
    let is : eliminate_columns p inverse m first n s ≡ so_far p inverse a0 (first + n) =
    ap (λ k. eliminate_columns p inverse m k n s) (sym at) ∙ sym (columns-split p inverse m 0 first n (untouched (entry a0))) in
    subst (λ t. AgreesOn 0 c (eliminate_columns p inverse m first n (whole_state a v)) t) is after

pub goes_on : (p : ℕ) (inverse : ℕ → ℕ) (a0 a a' : Matrix) (v : List ℕ) (first n next : ℕ) → IsShaped a0 → AreWords p a0 → first + n ≤ min a0.rows (cols a0) → next ≡ first + n → a ≡ tabulate a0.rows (cols a0) (so_far p inverse a0 first).words → v ≡ (so_far p inverse a0 first).pivots → a' ≡ tabulate a.rows (cols a) (eliminate_columns p inverse a.rows first n (whole_state a v)).words → a' ≡ tabulate a0.rows (cols a0) (so_far p inverse a0 next).words
goes_on p inverse a0 a a' v first n next shaped words inside enext ea ev ea' =
    let m = a0.rows in
    let c = cols a0 in
    let agree : AgreesOn 0 c (eliminate_columns p inverse m first n (whole_state a v)) (so_far p inverse a0 (first + n)) = next_agrees p inverse a0 a v first n shaped words inside ea ev in
    ea' ∙ ap (λ r. tabulate r (cols a) (eliminate_columns p inverse r first n (whole_state a v)).words) (rows_so_far p inverse a0 a first ea)
    ∙ ap (λ k. tabulate m k (eliminate_columns p inverse m first n (whole_state a v)).words) (cols_so_far p inverse a0 a first ea)
    ∙ tabulate-same m c (eliminate_columns p inverse m first n (whole_state a v)).words (so_far p inverse a0 (first + n)).words (λ i k _ hk. agree.words i k (omega arith) hk)
    ∙ ap (λ k. tabulate m c (so_far p inverse a0 k).words) (sym enext)

pub list_goes_on : (p : ℕ) (inverse : ℕ → ℕ) (a0 a : Matrix) (v v' : List ℕ) (first n next : ℕ) → IsShaped a0 → AreWords p a0 → first + n ≤ min a0.rows (cols a0) → next ≡ first + n → a ≡ tabulate a0.rows (cols a0) (so_far p inverse a0 first).words → v ≡ (so_far p inverse a0 first).pivots → v' ≡ (eliminate_columns p inverse a.rows first n (whole_state a v)).pivots → v' ≡ (so_far p inverse a0 next).pivots
list_goes_on p inverse a0 a v v' first n next shaped words inside enext ea ev ev' =
    let agree : AgreesOn 0 (cols a0) (eliminate_columns p inverse a0.rows first n (whole_state a v)) (so_far p inverse a0 (first + n)) = next_agrees p inverse a0 a v first n shaped words inside ea ev in
    ev' ∙ ap (λ r. (eliminate_columns p inverse r first n (whole_state a v)).pivots) (rows_so_far p inverse a0 a first ea) ∙ agree.pivots ∙ ap (λ k. (so_far p inverse a0 k).pivots) (sym enext)

-- all of them are the elimination
pub all_are_elimination : (p : ℕ) (inverse : ℕ → ℕ) (a0 : Matrix) (first : ℕ) → first ≡ min a0.rows (cols a0) → so_far p inverse a0 first ≡ elimination p inverse a0.rows (cols a0) (entry a0)
unfolding elimination
all_are_elimination p inverse a0 first e = ap (so_far p inverse a0) e

pub info_is : (p : ℕ) (inverse : ℕ → ℕ) (a0 a : Matrix) (last : ℕ) → IsShaped a0 → AreWords p a0 → last ≡ min a0.rows (cols a0) → a ≡ tabulate a0.rows (cols a0) (elimination p inverse a0.rows (cols a0) (entry a0)).words → least_zero (diagonal (entry a)) last ≡ (elimination p inverse a0.rows (cols a0) (entry a0)).info
info_is p inverse a0 a last shaped words elast e =
    let m = a0.rows in
    let c = cols a0 in
    let u = elimination p inverse m c (entry a0) in
    least_zero-same (diagonal (entry a)) (diagonal u.words) last (λ i h. ap (λ a. entry a i i) e ∙ entry-tabulate m c u.words i i (omega arith) (omega arith))
    ∙ ap (least_zero (diagonal u.words)) elast
    ∙ sym (info-is_test p inverse m c (entry a0) (ready-matrix p a0 shaped words))
