use Rattle.std.proofs.Common.{◌≡◌, ℕ, zero, suc, ◌+◌, ◌-◌, ◌*◌, ◌<◌, ◌≤◌, min, true, false, nat_lt, List, refl, sym, ◌∙◌, ap, arith, inl, inr}
use Rattle.std.proofs.Math.Path.{fun_ext}
use Rattle.std.proofs.lemmas.Bool.{cases_lt, lt-ltb, le-ltb}
use Rattle.local_blas.specs.Kernels.{swapped}
use Rattle.serial_model.specs.Elimination.{Eliminated, eliminate_column, eliminate_columns, untouched, elimination, pivot_row, came_from, exchanged}
use Rattle.elimination.specs.Panels.{IsReady, AgreesOn, IsPanel, reduced, carried, panel_words, panel_of, with_panel, eliminate_panel, eliminate_panels}
use Rattle.elimination.proofs.Exchanges.{KeepsBelow-swapped, lose, updated, updated-commutes, updated-same, came_from-same}
use Rattle.elimination.proofs.Steps.{IsStep, step-of, ready-step, step-agrees, step-info}
use Rattle.elimination.proofs.Reductions.{updated-is, reduced-same}
use Rattle.elimination.proofs.Numbers.{columns-in_range}

pub ready-columns : (p : ℕ) (inverse : ℕ → ℕ) (m first n : ℕ) (s : Eliminated) → first + n ≤ m → IsReady p m first s → IsReady p m (first + n) (eliminate_columns p inverse m first n s)
unfolding eliminate_columns
ready-columns p inverse m first zero s h ready = (let e : first + 0 ≡ first = omega arith in rw e ready)
ready-columns p inverse m first (suc n) s h ready =
    (let e : first + suc n ≡ first + n + 1 = omega arith in
    rw e (ready-step p inverse m (first + n) (eliminate_columns p inverse m first n s) (omega arith) (ready-columns p inverse m first n s (omega arith) ready)))

pub step-at : (p : ℕ) (inverse : ℕ → ℕ) (m first n : ℕ) (s : Eliminated) → first + suc n ≤ m → IsReady p m first s → IsStep p m (first + n) (eliminate_columns p inverse m first n s) (eliminate_columns p inverse m first (suc n) s)
unfolding eliminate_columns
step-at p inverse m first n s h ready = step-of p inverse m (first + n) (eliminate_columns p inverse m first n s) (omega arith) (ready-columns p inverse m first n s (omega arith) ready)

-- one exchange more
came_from-more : (v w : List ℕ) (first n i : ℕ) → ((k : ℕ) → k < first + n → pivot_row w k ≡ pivot_row v k) → came_from w first (suc n) i ≡ came_from v first n (swapped (first + n) (pivot_row w (first + n)) i)
unfolding came_from
came_from-more v w first n i same = came_from-same w v first n (swapped (first + n) (pivot_row w (first + n)) i) (λ k _ h. same k h)

-- the columns left of the panel have their rows exchanged
pub columns-left : (p : ℕ) (inverse : ℕ → ℕ) (m first n : ℕ) (s : Eliminated) (i k : ℕ) → first + n ≤ m → IsReady p m first s → k < first → (eliminate_columns p inverse m first n s).words i k ≡ s.words (came_from (eliminate_columns p inverse m first n s).pivots first n i) k
unfolding eliminate_columns came_from
columns-left p inverse m first zero s i k h ready hk = refl
columns-left p inverse m first (suc n) s i k h ready hk =
    let t = eliminate_columns p inverse m first n s in
    let u = eliminate_columns p inverse m first (suc n) s in
    let st : IsStep p m (first + n) t u = step-at p inverse m first n s h ready in
    st.left i k (omega arith) ∙ columns-left p inverse m first n s (swapped (first + n) (pivot_row u.pivots (first + n)) i) k (omega arith) ready hk
    ∙ ap (λ r. s.words r k) (sym (came_from-more t.pivots u.pivots first n i st.earlier))

-- those right of it have their rows exchanged, and then lose the multipliers of one column after another
pub columns-right : (p : ℕ) (inverse : ℕ → ℕ) (m first n : ℕ) (s : Eliminated) (k : ℕ) → first + n ≤ m → IsReady p m first s → first + n ≤ k → (λ (i : ℕ). (eliminate_columns p inverse m first n s).words i k) ≡ updated p (eliminate_columns p inverse m first n s).words first n (λ i. s.words (came_from (eliminate_columns p inverse m first n s).pivots first n i) k)
unfolding eliminate_columns came_from updated
columns-right p inverse m first zero s k h ready hk = refl
columns-right p inverse m first (suc n) s k h ready hk =
    let j = first + n in
    let t = eliminate_columns p inverse m first n s in
    let u = eliminate_columns p inverse m first (suc n) s in
    let st : IsStep p m j t u = step-at p inverse m first n s h ready in
    let f : ℕ → ℕ = swapped j (pivot_row u.pivots j) in
    let x : ℕ → ℕ = λ i. s.words (came_from t.pivots first n i) k in
    let z : ℕ → ℕ = λ i. s.words (came_from u.pivots first (suc n) i) k in
    let move : (ℕ → ℕ) → ℕ → ℕ = λ y i. y (f i) in
    let moved : z ≡ (λ i. x (f i)) = fun_ext (λ i. ap (λ r. s.words r k) (came_from-more t.pivots u.pivots first n i st.earlier)) in
    let before : (λ (i : ℕ). t.words i k) ≡ updated p t.words first n x = columns-right p inverse m first n s k (omega arith) ready (omega arith) in
    let together : updated p u.words first n z ≡ (λ (i : ℕ). t.words (f i) k) =
    ap (updated p u.words first n) moved
    ∙ updated-same p u.words (λ i k. t.words (f i) k) first n (λ i. x (f i)) (λ i k _ hk. st.left i k hk)
    ∙ updated-commutes p t.words first n j x f (omega arith) (KeepsBelow-swapped j (pivot_row u.pivots j) st.pivot_from)
    ∙ ap move (sym before) in
    fun_ext (λ i. st.right i k (omega arith)) ∙ ap (lose p (λ i. u.words i j) j) (sym together)

-- columns are eliminated from the columns that they stand among
pub columns-agree : (p : ℕ) (inverse : ℕ → ℕ) (m first width : ℕ) (s t : Eliminated) (d : ℕ) → d ≤ width → AgreesOn first (first + width) s t → AgreesOn first (first + width) (eliminate_columns p inverse m first d s) (eliminate_columns p inverse m first d t)
unfolding eliminate_columns
columns-agree p inverse m first width s t zero h agree = agree
columns-agree p inverse m first width s t (suc d) h agree =
    step-agrees p inverse m first (first + width) (first + d) (eliminate_columns p inverse m first d s) (eliminate_columns p inverse m first d t) (omega arith) (omega arith) (columns-agree p inverse m first width s t d (omega arith) agree)

columns-info : (p : ℕ) (inverse : ℕ → ℕ) (m first width : ℕ) (s t : Eliminated) (d : ℕ) → d ≤ width → AgreesOn first (first + width) s t → s.info ≡ t.info → (eliminate_columns p inverse m first d s).info ≡ (eliminate_columns p inverse m first d t).info
unfolding eliminate_columns
columns-info p inverse m first width s t zero h agree e = e
columns-info p inverse m first width s t (suc d) h agree e =
    step-info p inverse m first (first + width) (first + d) (eliminate_columns p inverse m first d s) (eliminate_columns p inverse m first d t) (omega arith) (omega arith) (columns-agree p inverse m first width s t d (omega arith) agree)
    (columns-info p inverse m first width s t d (omega arith) agree e)

panel_of-agrees : (first width : ℕ) (s : Eliminated) → AgreesOn first (first + width) (panel_of first width s) s
unfolding panel_words
panel_of-agrees first width s =
    record {
      words = λ i k h1 h2. (let t : nat_lt k first ≡ false = le-ltb k first h1 in let u : nat_lt k (first + width) ≡ true = lt-ltb k (first + width) h2 in rw (t, u) refl);
      pivots = refl;
    }

-- a panel is eliminated from its own columns
pub panel-agrees : (p : ℕ) (inverse : ℕ → ℕ) (m first width : ℕ) (s : Eliminated) (d : ℕ) → d ≤ width → AgreesOn first (first + width) (eliminate_columns p inverse m first d (panel_of first width s)) (eliminate_columns p inverse m first d s)
panel-agrees p inverse m first width s d h = columns-agree p inverse m first width (panel_of first width s) s d h (panel_of-agrees first width s)

-- a panel's exchanges read its own pivots alone
pub exchanged-panel : (first n : ℕ) (u : Eliminated) (l : ℕ → ℕ → ℕ) (v : List ℕ) (x : ℕ → ℕ) (i : ℕ) → IsPanel first n u l v → exchanged v first n x i ≡ exchanged u.pivots first n x i
exchanged-panel first n u l v x i panel = ap x (came_from-same v u.pivots first n i panel.pivots)

-- and its action reads its own columns and pivots alone
pub carried-panel : (p : ℕ) (inverse : ℕ → ℕ) (first n : ℕ) (u : Eliminated) (l : ℕ → ℕ → ℕ) (v : List ℕ) (x : ℕ → ℕ) (i : ℕ) → IsPanel first n u l v → carried p inverse l v first n x i ≡ carried p inverse u.words u.pivots first n x i
carried-panel p inverse first n u l v x i panel =
    ap (λ y. reduced p inverse true l first n y i) (fun_ext (λ r. exchanged-panel first n u l v x r panel))
    ∙ reduced-same p inverse true l u.words first n (exchanged u.pivots first n x) panel.words i

-- what a panel that was eliminated carries a column to is what its columns do to it, one after another
pub column-carried : (p : ℕ) (inverse : ℕ → ℕ) (m first n : ℕ) (s : Eliminated) (i k : ℕ) → first + n ≤ m → IsReady p m first s → first + n ≤ k → (eliminate_columns p inverse m first n s).words i k ≡ carried p inverse (eliminate_columns p inverse m first n s).words (eliminate_columns p inverse m first n s).pivots first n (λ r. s.words r k) i
column-carried p inverse m first n s i k h ready hk =
    let u = eliminate_columns p inverse m first n s in
    ap (λ (y : ℕ → ℕ). y i) (columns-right p inverse m first n s k h ready hk) ∙ updated-is p inverse u.words first n (λ r. s.words (came_from u.pivots first n r) k) (λ r. ready.below _ k) i

with_panel-words : (p : ℕ) (inverse : ℕ → ℕ) (m first width n : ℕ) (s : Eliminated) → n ≤ width → first + n ≤ m → IsReady p m first s → (i k : ℕ) → (eliminate_panel p inverse m first width n s).words i k ≡ (eliminate_columns p inverse m first n s).words i k
unfolding with_panel
with_panel-words p inverse m first width n s narrow h ready i k =
    let t = eliminate_columns p inverse m first n (panel_of first width s) in
    let u = eliminate_columns p inverse m first n s in
    let agree : AgreesOn first (first + width) t u = panel-agrees p inverse m first width s n narrow in
    elim (cases_lt k first) [
      | inl before ↦
          (let a : nat_lt k first ≡ true = lt-ltb k first before in
          rw a (ap (λ v. s.words (came_from v first n i) k) agree.pivots ∙ sym (columns-left p inverse m first n s i k h ready before)))
      | inr from ↦
          (let a : nat_lt k first ≡ false = le-ltb k first from in
          elim (cases_lt k (first + width)) [
            | inl among ↦ (let b : nat_lt k (first + width) ≡ true = lt-ltb k (first + width) among in rw (a, b) (agree.words i k from among))
            | inr after ↦
                (let b : nat_lt k (first + width) ≡ false = le-ltb k (first + width) after in
                rw (a, b) (ap (λ v. reduced p inverse true t.words first n (λ r. s.words (came_from v first n r) k) i) agree.pivots
                ∙ reduced-same p inverse true t.words u.words first n (λ r. s.words (came_from u.pivots first n r) k) (λ i k h1 h2. agree.words i k h1 (omega arith)) i
                ∙ sym (column-carried p inverse m first n s i k h ready (omega arith))))
          ])
    ]

-- a state is its parts
same_state : (s t : Eliminated) → ((i k : ℕ) → s.words i k ≡ t.words i k) → s.pivots ≡ t.pivots → s.info ≡ t.info → s ≡ t
same_state s t words pivots info =
    ap (λ w. record { words = w; pivots = s.pivots; info = s.info }) (fun_ext (λ i. fun_ext (λ k. words i k)))
    ∙ ap (λ v. record { words = t.words; pivots = v; info = s.info }) pivots
    ∙ ap (λ n. record { words = t.words; pivots = t.pivots; info = n }) info

-- one panel does what its columns do, one after another
pub panel-is_columns : (p : ℕ) (inverse : ℕ → ℕ) (m first width n : ℕ) (s : Eliminated) → n ≤ width → first + n ≤ m → IsReady p m first s → eliminate_panel p inverse m first width n s ≡ eliminate_columns p inverse m first n s
unfolding with_panel
panel-is_columns p inverse m first width n s narrow h ready =
    let agree : AgreesOn first (first + width) (eliminate_columns p inverse m first n (panel_of first width s)) (eliminate_columns p inverse m first n s) = panel-agrees p inverse m first width s n narrow in
    same_state (eliminate_panel p inverse m first width n s) (eliminate_columns p inverse m first n s) (with_panel-words p inverse m first width n s narrow h ready) agree.pivots (columns-info p inverse m first width (panel_of first width s) s n narrow (panel_of-agrees first width s) refl)

-- columns in two pieces
pub columns-split : (p : ℕ) (inverse : ℕ → ℕ) (m first a b : ℕ) (s : Eliminated) → eliminate_columns p inverse m first (a + b) s ≡ eliminate_columns p inverse m (first + a) b (eliminate_columns p inverse m first a s)
unfolding eliminate_columns
columns-split p inverse m first a zero s = ap (λ n. eliminate_columns p inverse m first n s) (let e : a + 0 ≡ a = omega arith in e)
columns-split p inverse m first a (suc b) s =
    ap (λ n. eliminate_columns p inverse m first n s) (let e : a + suc b ≡ suc (a + b) = omega arith in e)
    ∙ ap (λ n. eliminate_column p inverse m n (eliminate_columns p inverse m first (a + b) s)) (let e : first + (a + b) ≡ first + a + b = omega arith in e)
    ∙ ap (eliminate_column p inverse m (first + a + b)) (columns-split p inverse m first a b s)

-- panels do what the columns do, one after another
pub panels-are_columns : (p : ℕ) (inverse : ℕ → ℕ) (m n nb : ℕ) (s : Eliminated) → n ≤ m → IsReady p m 0 s → (t : ℕ) → t * nb ≤ n + nb → eliminate_panels p inverse m n nb t s ≡ eliminate_columns p inverse m 0 (min (t * nb) n) s
unfolding eliminate_panels eliminate_columns
panels-are_columns p inverse m n nb s h ready zero ht = ap (λ k. eliminate_columns p inverse m 0 k s) (let e : 0 ≡ min (0 * nb) n = omega arith in e)
panels-are_columns p inverse m n nb s h ready (suc t) ht =
    let first = t * nb in
    let width = min nb (n - first) in
    let start : first ≤ n = omega arith in
    let end : first + width ≤ m = omega arith in
    let whole : min first n ≡ first = omega arith in
    let more : first + width ≡ min (suc t * nb) n = omega arith in
    let before : eliminate_panels p inverse m n nb t s ≡ eliminate_columns p inverse m 0 first s =
    panels-are_columns p inverse m n nb s h ready t (omega arith) ∙ ap (λ k. eliminate_columns p inverse m 0 k s) whole in
    let at : 0 + first ≡ first = omega arith in
    let ready_here : IsReady p m first (eliminate_columns p inverse m 0 first s) = rw at at (ready-columns p inverse m 0 first s (omega arith) ready) in
    ap (eliminate_panel p inverse m first nb width) before ∙ panel-is_columns p inverse m first nb width (eliminate_columns p inverse m 0 first s) (omega arith) end ready_here
    ∙ ap (λ k. eliminate_columns p inverse m k width (eliminate_columns p inverse m 0 first s)) (sym at) ∙ sym (columns-split p inverse m 0 first width s)
    ∙ ap (λ k. eliminate_columns p inverse m 0 k s) more

-- blocked elimination is elimination: t panels of nb columns, the last one as wide as what is left
pub panels-are_elimination : (p : ℕ) (inverse : ℕ → ℕ) (m n nb t : ℕ) (a : ℕ → ℕ → ℕ) → IsReady p m 0 (untouched a) → min m n ≤ t * nb → t * nb ≤ min m n + nb → eliminate_panels p inverse m (min m n) nb t (untouched a) ≡ elimination p inverse m n a
unfolding elimination
panels-are_elimination p inverse m n nb t a ready h1 h2 =
    let c = min m n in
    panels-are_columns p inverse m c nb (untouched a) (omega arith) ready t h2 ∙ ap (λ k. eliminate_columns p inverse m 0 k (untouched a)) (let e : min (t * nb) c ≡ c = omega arith in e)

-- each pivot's row is at or below the diagonal, and in the matrix
pub columns-pivots : (p : ℕ) (inverse : ℕ → ℕ) (m first n : ℕ) (s : Eliminated) (k : ℕ) → first + n ≤ m → IsReady p m first s → first ≤ k → k < first + n → (k ≤ pivot_row (eliminate_columns p inverse m first n s).pivots k) × (pivot_row (eliminate_columns p inverse m first n s).pivots k < m)
unfolding pivot_row
columns-pivots p inverse m first n s k h ready h1 h2 =
    let number = columns-in_range p inverse m first n s k h ready.count h1 h2 in
    (omega (arith, number.0), omega (arith, number.0, number.1))

-- what column_is_carried and column_left_is_exchanged say, from the panel's words and pivots
pub column-carried_by : (p : ℕ) (inverse : ℕ → ℕ) (m first n : ℕ) (s : Eliminated) (l : ℕ → ℕ → ℕ) (v : List ℕ) (i k : ℕ) → first + n ≤ m → IsReady p m first s → IsPanel first n (eliminate_columns p inverse m first n s) l v → first + n ≤ k → (eliminate_columns p inverse m first n s).words i k ≡ carried p inverse l v first n (λ r. s.words r k) i
column-carried_by p inverse m first n s l v i k h ready panel hk =
    column-carried p inverse m first n s i k h ready hk ∙ sym (carried-panel p inverse first n (eliminate_columns p inverse m first n s) l v (λ r. s.words r k) i panel)

pub column-exchanged_by : (p : ℕ) (inverse : ℕ → ℕ) (m first n : ℕ) (s : Eliminated) (l : ℕ → ℕ → ℕ) (v : List ℕ) (i k : ℕ) → first + n ≤ m → IsReady p m first s → IsPanel first n (eliminate_columns p inverse m first n s) l v → k < first → (eliminate_columns p inverse m first n s).words i k ≡ exchanged v first n (λ r. s.words r k) i
column-exchanged_by p inverse m first n s l v i k h ready panel hk =
    columns-left p inverse m first n s i k h ready hk ∙ sym (exchanged-panel first n (eliminate_columns p inverse m first n s) l v (λ r. s.words r k) i panel)

-- the pivots of later columns leave those of a panel as they are
pivots-later : (p : ℕ) (inverse : ℕ → ℕ) (m first n k : ℕ) (s : Eliminated) (j : ℕ) → first + (n + k) ≤ m → IsReady p m first s → j < first + n → pivot_row (eliminate_columns p inverse m first (n + k) s).pivots j ≡ pivot_row (eliminate_columns p inverse m first n s).pivots j
pivots-later p inverse m first n zero s j h ready hj = ap (λ c. pivot_row (eliminate_columns p inverse m first c s).pivots j) (let e : n + 0 ≡ n = omega arith in e)
pivots-later p inverse m first n (suc k) s j h ready hj =
    let next : n + suc k ≡ suc (n + k) = omega arith in
    let st : IsStep p m (first + (n + k)) (eliminate_columns p inverse m first (n + k) s) (eliminate_columns p inverse m first (suc (n + k)) s) = step-at p inverse m first (n + k) s (omega arith) ready in
    ap (λ c. pivot_row (eliminate_columns p inverse m first c s).pivots j) next ∙ st.earlier j (omega arith) ∙ pivots-later p inverse m first n k s j (omega arith) ready hj

-- so a longer list serves a panel as well
pub panel-later : (p : ℕ) (inverse : ℕ → ℕ) (m first n k : ℕ) (s : Eliminated) → first + (n + k) ≤ m → IsReady p m first s → IsPanel first n (eliminate_columns p inverse m first n s) (eliminate_columns p inverse m first n s).words (eliminate_columns p inverse m first (n + k) s).pivots
panel-later p inverse m first n k s h ready = record { words = λ i c _ _. refl; pivots = λ j _ hj. pivots-later p inverse m first n k s j h ready hj }
