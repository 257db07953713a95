-- The products of all block columns are the whole product.
use Rattle.std.proofs.Common.{◌≡◌, ℕ, zero, suc, ◌+◌, ◌*◌, ◌%◌, ◌<◌, ◌≤◌, min, sym, ap, ◌∙◌, arith}
use Rattle.std.proofs.Math.Nat.{mod-eq_of_lt, mod-lt, le_refl}
use Rattle.field_core.specs.Sums.{sum_to}
use Rattle.field_core.proofs.Sums.{sum_to-none}
use Rattle.field_core.proofs.Modular.{residues}
use Rattle.local_blas.proofs.Products.{product-split}
use Rattle.array_desc.proofs.GroupLaws.{ceil_div-part, le-ceil_div}
use Rattle.elimination.specs.Solves.{gained}
use Rattle.elimination.proofs.StripLaws.{in_rows-inside}
use Rattle.rank_machine.specs.Setting.{Setting}
use Rattle.product_rounds.specs.declared.rounds.GroupProduct.{GroupProduct}
use Rattle.product_rounds.specs.Rounds.{block_width, block_count}
use Rattle.product_rounds.specs.Standing.{left_words, right_words}
use Rattle.product_rounds.specs.Groups.{group_words, scaled_words, product_group_words}

module _ (s : Setting) (x : GroupProduct) (a : ℕ → ℕ → ℕ) (b words : ℕ → ℕ → ℕ → ℕ) (some : 0 < x.a.nb) (col i c : ℕ) (row_in : i < x.c.m) (small : words col i c < s.modulus) where
  abbrev term : ℕ → ℕ
  term q = a i q * b col q c

  abbrev so_far : ℕ → ℕ
  so_far k = group_words s x (left_words x a) (block_width x) (right_words x b) words k col i c

  pub first_words : (k : ℕ) → k ≤ block_count x → so_far k ≡ (words col i c + x.alpha * sum_to (min (k * x.a.nb) x.a.n) term) % s.modulus
  first_words zero few =
      sym (ap (λ n. (words col i c + x.alpha * sum_to n term) % s.modulus) (let e : min (0 * x.a.nb) x.a.n ≡ 0 = omega arith in e)
      ∙ ap (λ v. (words col i c + x.alpha * v) % s.modulus) (sum_to-none term) ∙ ap (λ v. v % s.modulus) (let e : words col i c + x.alpha * 0 ≡ words col i c = omega arith in e) ∙ mod-eq_of_lt small)
  first_words (suc k) few =
      let inside : k * x.a.nb < x.a.n = ceil_div-part k x.a.n x.a.nb some few in
      let before : min (k * x.a.nb) x.a.n ≡ k * x.a.nb = omega (arith, inside) in
      let next : k * x.a.nb + block_width x k ≡ min (suc k * x.a.nb) x.a.n = omega (arith, inside) in
      in_rows-inside 0 x.c.m (λ i c. gained s.modulus x.alpha (left_words x a k) (block_width x k) (λ r. group_words s x (left_words x a) (block_width x) (right_words x b) words k col r c) (λ q. right_words x b k col q c) i)
      (group_words s x (left_words x a) (block_width x) (right_words x b) words k col) i c (omega arith) row_in
      ∙ ap (λ v. (v + x.alpha * sum_to (block_width x k) (λ q. term (k * x.a.nb + q))) % s.modulus) (first_words k (omega arith) ∙ ap (λ n. (words col i c + x.alpha * sum_to n term) % s.modulus) before)
      ∙ product-split s.modulus (words col i c) x.alpha (k * x.a.nb) (block_width x k) term
      ∙ ap (λ n. (words col i c + x.alpha * sum_to n term) % s.modulus) next

  pub all_words : so_far (block_count x) ≡ (words col i c + x.alpha * sum_to x.a.n term) % s.modulus
  all_words =
      first_words (block_count x) (le_refl (block_count x)) ∙ ap (λ n. (words col i c + x.alpha * sum_to n term) % s.modulus) (let e : min (block_count x * x.a.nb) x.a.n ≡ x.a.n = omega (arith, le-ceil_div x.a.n x.a.nb some) in e)

-- the word of C at a row and a column of a group: BETA times what it was, and ALPHA times the product
pub product_group_word : (s : Setting) (x : GroupProduct) (a : ℕ → ℕ → ℕ) (b words : ℕ → ℕ → ℕ → ℕ) → 0 < s.modulus → 0 < x.a.nb → (col i c : ℕ) → i < x.c.m
    → product_group_words s x (left_words x a) (block_width x) (right_words x b) words col i c ≡ (x.alpha * sum_to x.a.n (λ q. a i q * b col q c) + x.beta * words col i c) % s.modulus
product_group_word s x a b words some some_columns col i c row_in =
    let w : ℕ = words col i c in
    let sum : ℕ = sum_to x.a.n (λ q. a i q * b col q c) in
    all_words s x a b (scaled_words s x words) some_columns col i c row_in (mod-lt (w * x.beta) some)
    ∙ (let e : ((w * x.beta) % s.modulus + x.alpha * sum) % s.modulus ≡ (w * x.beta + x.alpha * sum) % s.modulus = simp residues in e)
    ∙ ap (λ v. v % s.modulus) (let e : w * x.beta + x.alpha * sum ≡ x.alpha * sum + x.beta * w = omega arith in e)
