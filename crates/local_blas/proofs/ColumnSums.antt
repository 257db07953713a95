-- Sums of products of columns, by the words of their matrices as lists.
use Rattle.std.proofs.Common.{◌≡◌, ℕ, ◌+◌, ◌-◌, ◌*◌, ◌%◌, ◌<◌, ◌≤◌, List, slice_index, refl, sym, ◌∙◌, ap, arith}
use Rattle.field_core.specs.Sums.{sum_to}
use Rattle.field_core.proofs.Sums.{sum_to-same}
use Rattle.run_data.specs.declared.matrix.Part.{Part}
use Rattle.run_data.specs.Matrix.{Matrix, entry}
use Rattle.run_data.specs.Parts.{IsWithin, part_entry}
use Rattle.run_data.proofs.ColumnWords.{HasWords, place_in}
use Rattle.local_blas.specs.Kernels.{product_word}

pub gathered : (new a x x0 len count M M' S : ℕ) (F : ℕ → ℕ) → new ≡ (x + a * sum_to len F) % M' → x ≡ x0 → len ≡ count → sum_to count F ≡ S → M' ≡ M → new ≡ (x0 + a * S) % M
gathered new a x x0 len count M M' S F e e_x e_len e_s e_M =
    e ∙ ap (λ w. (w + a * sum_to len F) % M') e_x ∙ ap (λ n. (x0 + a * sum_to n F) % M') e_len ∙ ap (λ s. (x0 + a * s) % M') e_s ∙ ap (λ q. (x0 + a * S) % q) e_M

-- the same where what is gained is lost
pub gathered_less : (new q q' x x0 len count M S : ℕ) (F : ℕ → ℕ) → new ≡ (x + (q - 1) * sum_to len F) % q' → x ≡ x0 → len ≡ count → sum_to count F ≡ S → q ≡ M → q' ≡ M → new ≡ (x0 + (M - 1) * S) % M
gathered_less new q q' x x0 len count M S F e e_x e_len e_s e_q e_q' =
    gathered new (q - 1) x x0 len count M q' S F e e_x e_len e_s e_q' ∙ ap (λ p. (x0 + (p - 1) * S) % M) e_q

pub left_place : (c0 r0 k m L L' : ℕ) → L' ≡ L → c0 * L' + r0 + k * L' + m ≡ (c0 + k) * L + (r0 + m)
left_place c0 r0 k m L L' e = rw e (omega arith)

pub inside_left : (c0 r0 k h L L' C len y : ℕ) → L' ≡ L → len ≡ C * L → c0 + k < C → r0 + h ≤ L → y ≤ h → c0 * L' + r0 + k * L' + y ≤ len
inside_left c0 r0 k h L L' C len y e e_len lt le le_y = omega (arith, left_place c0 r0 k h L' L' refl, place_in (c0 + k) r0 h L' L' C len refl (e_len ∙ ap (λ n. C * n) (sym e)) lt (omega (arith, e)))

-- the products that column 0 of a part takes from the words of another are those of the entries
pub product_of_words : (left right : Matrix) (lp rp : Part) (lw fs : List ℕ) (L from m i j count : ℕ) → i ≡ m → j ≡ 0 → IsWithin lp left → L ≡ left.rows → from ≡ lp.c0 * L + lp.r0 → HasWords left lw → lp.r0 + m < lp.r1 → count ≡ lp.c1 - lp.c0
    → ((k : ℕ) → k < count → slice_index fs k ≡ entry right (rp.r0 + k) rp.c0) → sum_to count (λ k. slice_index lw (from + k * L + m) * slice_index fs k) ≡ product_word left lp right rp i j
product_of_words left right lp rp lw fs L from m i j count e_i e_j within e_L e_from words in_row e_count factors =
    sum_to-same count (λ k. slice_index lw (from + k * L + m) * slice_index fs k) (λ k. part_entry left lp i k * part_entry right rp k j)
    (λ k lt. ap (λ x. x * slice_index fs k)
    (ap (λ n. slice_index lw (n + k * L + m)) e_from ∙ ap (λ n. slice_index lw n) (left_place lp.c0 lp.r0 k m left.rows L e_L)
    ∙ words (lp.r0 + m) (lp.c0 + k) (omega (arith, in_row, within.rows_end)) (omega (arith, lt, e_count, within.columns_ordered, within.columns_end))
    ∙ ap (λ r. entry left (lp.r0 + r) (lp.c0 + k)) (sym e_i))
    ∙ ap (λ y. part_entry left lp i k * y) (factors k lt ∙ ap (λ c. entry right (rp.r0 + k) c) (let e : rp.c0 ≡ rp.c0 + j = omega arith in e)))
    ∙ ap (λ n. sum_to n (λ k. part_entry left lp i k * part_entry right rp k j)) e_count

pub scaled_from : (new a x x0 M M' : ℕ) → new ≡ (x * a) % M' → x ≡ x0 → M' ≡ M → new ≡ (x0 * a) % M
scaled_from new a x x0 M M' e e_x e_M = e ∙ ap (λ w. (w * a) % M') e_x ∙ ap (λ p. (x0 * a) % p) e_M

pub added_from : (new a y x y0 x0 M M' : ℕ) → new ≡ (y + x * a) % M' → y ≡ y0 → x ≡ x0 → M' ≡ M → new ≡ (y0 + x0 * a) % M
added_from new a y x y0 x0 M M' e e_y e_x e_M = e ∙ ap (λ w. (w + x * a) % M') e_y ∙ ap (λ w. (y0 + w * a) % M') e_x ∙ ap (λ p. (y0 + x0 * a) % p) e_M

-- a word of the first column of a part
pub part_word_at : (a : Matrix) (sp : Part) (m i j : ℕ) → i ≡ m → j ≡ 0 → entry a (sp.r0 + m) sp.c0 ≡ part_entry a sp i j
part_word_at a sp m i j e_i e_j = ap (λ r. entry a (sp.r0 + r) sp.c0) (sym e_i) ∙ ap (λ c. entry a (sp.r0 + i) c) (let e : sp.c0 ≡ sp.c0 + j = omega arith in e)
