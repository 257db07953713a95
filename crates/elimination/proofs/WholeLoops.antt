-- The loop over the columns of a strip.
use Rattle.std.proofs.Common.{◌≡◌, ℕ, ◌+◌, ◌-◌, ◌<◌, ◌≤◌, List, length, refl, sym, ◌∙◌, ap, arith, add-one, inl, inr}
use Rattle.std.proofs.lemmas.Bool.{cases_lt}
use Rattle.run_data.specs.Matrix.{Matrix, cols, entry, IsShaped, tabulate}
use Rattle.run_data.proofs.Matrices.{tabulate-same, rows-tabulate, cols-tabulate, entry-tabulate, entry-past, IsShaped-tabulate}
use Rattle.local_blas.specs.Kernels.{AreWords}
use Rattle.run_data.proofs.PartLaws.{AreWords-tabulate}
use Rattle.serial_model.specs.Elimination.{Eliminated, eliminate_column, eliminate_columns}
use Rattle.elimination.specs.Panels.{IsReady}
use Rattle.elimination.specs.Panels.{AgreesOn}
use Rattle.elimination.proofs.Steps.{step-agrees}
use Rattle.elimination.proofs.PanelLaws.{ready-columns}
use Rattle.elimination.specs.Whole.{strip_of_words, strip_state}
use Rattle.elimination.proofs.WholeSteps.{strip_stays}

-- the strip after j of its columns
abbrev pub strip_after : ℕ → (ℕ → ℕ) → ℕ → ℕ → Matrix → List ℕ → Eliminated
strip_after p inverse first j a v = eliminate_columns p inverse a.rows first j (strip_state first a v)

pub strip_ready : (p first : ℕ) (a : Matrix) (v : List ℕ) → IsShaped a → AreWords p a → length v ≡ first → IsReady p a.rows first (strip_state first a v)
strip_ready p first a v shaped words count = record { below = λ i k. words.below i (k - first); past = λ i k h. entry-past a shaped i (k - first) h; count = count }

pub strip_starts : (p : ℕ) (inverse : ℕ → ℕ) (first : ℕ) (a : Matrix) (v : List ℕ) → IsShaped a → a ≡ strip_of_words a.rows (cols a) first (strip_after p inverse first 0 a v).words
unfolding eliminate_columns
strip_starts p inverse first a v shaped = strip_stays first a shaped

pub strip_list_starts : (p : ℕ) (inverse : ℕ → ℕ) (first : ℕ) (a : Matrix) (v : List ℕ) → v ≡ (strip_after p inverse first 0 a v).pivots
unfolding eliminate_columns
strip_list_starts p inverse first a v = refl

strip_agrees : (p : ℕ) (inverse : ℕ → ℕ) (first j : ℕ) (a0 a : Matrix) (v0 v : List ℕ) → IsReady p a0.rows first (strip_state first a0 v0) → first + j ≤ a0.rows → a ≡ strip_of_words a0.rows (cols a0) first (strip_after p inverse first j a0 v0).words → v ≡ (strip_after p inverse first j a0 v0).pivots → AgreesOn first (first + cols a0) (strip_state first a v) (strip_after p inverse first j a0 v0)
strip_agrees p inverse first j a0 a v0 v ready h ea ev =
    record {
      words = λ i k h1 h2.
          (let f : ℕ → ℕ → ℕ = λ i k. (strip_after p inverse first j a0 v0).words i (first + k) in
          elim (cases_lt i a0.rows) [
            | inl inside ↦
                ap (λ a. entry a i (k - first)) ea ∙ entry-tabulate a0.rows (cols a0) f i (k - first) inside (omega arith)
                ∙ ap ((strip_after p inverse first j a0 v0).words i) (let e : first + (k - first) ≡ k = omega arith in e)
            | inr past ↦
                (let done : IsReady p a0.rows (first + j) (strip_after p inverse first j a0 v0) = ready-columns p inverse a0.rows first j (strip_state first a0 v0) h ready in
                ap (λ a. entry a i (k - first)) ea ∙ entry-past (tabulate a0.rows (cols a0) f) (IsShaped-tabulate a0.rows (cols a0) f) i (k - first) (rw rows-tabulate past)
                ∙ sym (done.past i k past))
          ]);
      pivots = ev;
    }

next-agrees : (p : ℕ) (inverse : ℕ → ℕ) (first j : ℕ) (a0 a : Matrix) (v0 v : List ℕ) → IsReady p a0.rows first (strip_state first a0 v0) → first + j ≤ a0.rows → j < cols a0 → a ≡ strip_of_words a0.rows (cols a0) first (strip_after p inverse first j a0 v0).words → v ≡ (strip_after p inverse first j a0 v0).pivots → AgreesOn first (first + cols a0) (eliminate_column p inverse a0.rows (first + j) (strip_state first a v)) (strip_after p inverse first (j + 1) a0 v0)
unfolding eliminate_columns
next-agrees p inverse first j a0 a v0 v ready h hj ea ev =
    rw add-one (step-agrees p inverse a0.rows first (first + cols a0) (first + j) (strip_state first a v) (strip_after p inverse first j a0 v0) (omega arith) (omega arith) (strip_agrees p inverse first j a0 a v0 v ready h ea ev))

pub strip_rows : (p : ℕ) (inverse : ℕ → ℕ) (first j : ℕ) (a0 a : Matrix) (v0 : List ℕ) → a ≡ strip_of_words a0.rows (cols a0) first (strip_after p inverse first j a0 v0).words → a.rows ≡ a0.rows
strip_rows p inverse first j a0 a v0 e = ap (λ a. a.rows) e ∙ rows-tabulate a0.rows (cols a0) (λ i k. (strip_after p inverse first j a0 v0).words i (first + k))

pub strip_cols : (p : ℕ) (inverse : ℕ → ℕ) (first j : ℕ) (a0 a : Matrix) (v0 : List ℕ) → a ≡ strip_of_words a0.rows (cols a0) first (strip_after p inverse first j a0 v0).words → cols a ≡ cols a0
strip_cols p inverse first j a0 a v0 e = ap cols e ∙ cols-tabulate a0.rows (cols a0) (λ i k. (strip_after p inverse first j a0 v0).words i (first + k))

pub strip_are_words : (p : ℕ) (inverse : ℕ → ℕ) (first j : ℕ) (a0 a : Matrix) (v0 : List ℕ) → IsReady p a0.rows first (strip_state first a0 v0) → first + j ≤ a0.rows → a ≡ strip_of_words a0.rows (cols a0) first (strip_after p inverse first j a0 v0).words → AreWords p a
strip_are_words p inverse first j a0 a v0 ready h e =
    let done : IsReady p a0.rows (first + j) (strip_after p inverse first j a0 v0) = ready-columns p inverse a0.rows first j (strip_state first a0 v0) h ready in
    rw e (AreWords-tabulate p a0.rows (cols a0) (λ i k. (strip_after p inverse first j a0 v0).words i (first + k)) (omega (arith, ready.below 0 0)) (λ i k _ _. done.below i (first + k)))

pub strip_goes_on : (p : ℕ) (inverse : ℕ → ℕ) (first j : ℕ) (a0 a a' : Matrix) (v0 v : List ℕ) → IsReady p a0.rows first (strip_state first a0 v0) → first + j ≤ a0.rows → j < cols a0 → a ≡ strip_of_words a0.rows (cols a0) first (strip_after p inverse first j a0 v0).words → v ≡ (strip_after p inverse first j a0 v0).pivots → a' ≡ strip_of_words a.rows (cols a) first (eliminate_column p inverse a.rows (first + j) (strip_state first a v)).words → a' ≡ strip_of_words a0.rows (cols a0) first (strip_after p inverse first (j + 1) a0 v0).words
strip_goes_on p inverse first j a0 a a' v0 v ready h hj ea ev ea' =
    let rows : a.rows ≡ a0.rows = strip_rows p inverse first j a0 a v0 ea in
    let columns : cols a ≡ cols a0 = strip_cols p inverse first j a0 a v0 ea in
    let agree : AgreesOn first (first + cols a0) (eliminate_column p inverse a0.rows (first + j) (strip_state first a v)) (strip_after p inverse first (j + 1) a0 v0) = next-agrees p inverse first j a0 a v0 v ready h hj ea ev in
    ea' ∙ ap (λ m. strip_of_words m (cols a) first (eliminate_column p inverse m (first + j) (strip_state first a v)).words) rows
    ∙ ap (λ c. strip_of_words a0.rows c first (eliminate_column p inverse a0.rows (first + j) (strip_state first a v)).words) columns
    ∙ tabulate-same a0.rows (cols a0) (λ i k. (eliminate_column p inverse a0.rows (first + j) (strip_state first a v)).words i (first + k)) (λ i k. (strip_after p inverse first (j + 1) a0 v0).words i (first + k))
    (λ i k _ hk. agree.words i (first + k) (omega arith) (omega arith))

pub strip_list_goes_on : (p : ℕ) (inverse : ℕ → ℕ) (first j : ℕ) (a0 a : Matrix) (v0 v v' : List ℕ) → IsReady p a0.rows first (strip_state first a0 v0) → first + j ≤ a0.rows → j < cols a0 → a ≡ strip_of_words a0.rows (cols a0) first (strip_after p inverse first j a0 v0).words → v ≡ (strip_after p inverse first j a0 v0).pivots → v' ≡ (eliminate_column p inverse a.rows (first + j) (strip_state first a v)).pivots → v' ≡ (strip_after p inverse first (j + 1) a0 v0).pivots
strip_list_goes_on p inverse first j a0 a v0 v v' ready h hj ea ev ev' =
    let rows : a.rows ≡ a0.rows = strip_rows p inverse first j a0 a v0 ea in
    ev' ∙ ap (λ m. (eliminate_column p inverse m (first + j) (strip_state first a v)).pivots) rows ∙ (next-agrees p inverse first j a0 a v0 v ready h hj ea ev).pivots
