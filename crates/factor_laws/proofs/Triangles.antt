-- The words of triangles, and that a substitution solves them.
use Rattle.std.proofs.Common.{◌≡◌, ◌≢◌, ℕ, suc, ◌+◌, ◌-◌, ◌*◌, ◌%◌, ◌<◌, ◌==◌, Bool, true, false, if◌then◌else◌, nat_lt, refl, sym, ◌∙◌, ap, arith, eq-eqb}
use Rattle.std.proofs.Math.Nat.{mod-mod}
use Rattle.std.proofs.lemmas.Bool.{ne_eqb, lt-ltb, le-ltb}
use Rattle.std.proofs.lemmas.Nat.{mul-mod_second}
use Rattle.field_core.specs.Residue.{IsPrime, inverse}
use Rattle.field_core.specs.FieldLaws.{IsField-from_IsPrime}
use Rattle.field_core.specs.Sums.{sum_to}
use Rattle.field_core.proofs.Modular.{same_mod, same_sum}
use Rattle.field_core.proofs.Sums.{sum_to-suc, sum_to-same, sum_to-split, sum_to-first, sum_to-zero}
use Rattle.field_core.proofs.Inverses.{inverse_is}
use Rattle.local_blas.specs.Kernels.{divided, solution, upper_solution}
use Rattle.local_blas.proofs.Solutions.{solution-equation}
use Rattle.local_blas.proofs.UpperSolutions.{upper_solution-equation}
use Rattle.factor_laws.specs.Triangles.{Inverts, triangle_word}

-- modulo a prime each word but 0 has its inverse
pub inverts : (p : ℕ) → IsPrime p → Inverts p (inverse p)
inverts p prime =
    record {
      product = λ x some below.
          (let it = (IsField-from_IsPrime p prime).product_inverse x (omega arith) below in
          ap (λ b. (x * b) % p) (sym (inverse_is p x it.0 it.1 prime.above_one it.2)) ∙ it.2);
    }

-- what counts on a diagonal
abbrev pub diagonal_word : Bool → ℕ → ℕ
diagonal_word unit d = if unit then 1 else d

pub triangle-diagonal : (lower unit : Bool) (f : ℕ → ℕ → ℕ) (i : ℕ) → triangle_word lower unit f i i ≡ diagonal_word unit (f i i)
unfolding triangle_word
triangle-diagonal lower unit f i = (let t : (i == i) ≡ true = eq-eqb i i refl in rw t refl)

pub triangle-under : (unit : Bool) (f : ℕ → ℕ → ℕ) (i k : ℕ) → k < i → triangle_word true unit f i k ≡ f i k
unfolding triangle_word
triangle-under unit f i k h =
    let t : (i == k) ≡ false = ne_eqb i k (omega arith) in
    let u : nat_lt k i ≡ true = lt-ltb k i h in
    rw (t, u) refl

pub triangle-right : (unit : Bool) (f : ℕ → ℕ → ℕ) (i k : ℕ) → i < k → triangle_word true unit f i k ≡ 0
unfolding triangle_word
triangle-right unit f i k h =
    let t : (i == k) ≡ false = ne_eqb i k (omega arith) in
    let u : nat_lt k i ≡ false = le-ltb k i (omega arith) in
    rw (t, u) refl

pub triangle-over : (unit : Bool) (f : ℕ → ℕ → ℕ) (i k : ℕ) → i < k → triangle_word false unit f i k ≡ f i k
unfolding triangle_word
triangle-over unit f i k h =
    let t : (i == k) ≡ false = ne_eqb i k (omega arith) in
    let u : nat_lt i k ≡ true = lt-ltb i k h in
    rw (t, u) refl

pub triangle-left : (unit : Bool) (f : ℕ → ℕ → ℕ) (i k : ℕ) → k < i → triangle_word false unit f i k ≡ 0
unfolding triangle_word
triangle-left unit f i k h =
    let t : (i == k) ≡ false = ne_eqb i k (omega arith) in
    let u : nat_lt i k ≡ false = le-ltb i k (omega arith) in
    rw (t, u) refl

pub sum_to-zeros : (n : ℕ) (f : ℕ → ℕ) → ((k : ℕ) → k < n → f k ≡ 0) → sum_to n f ≡ 0
sum_to-zeros n f zeros = sum_to-same n f (λ k. 0) zeros ∙ sum_to-zero n

-- a sum whose terms past i are 0
pub sum_to-through : (n i : ℕ) (f : ℕ → ℕ) → i < n → ((k : ℕ) → i < k → k < n → f k ≡ 0) → sum_to n f ≡ sum_to i f + f i
sum_to-through n i f h zeros =
    let m = n - suc i in
    let e : n ≡ suc i + m = omega arith in
    let past : sum_to m (λ k. f (suc i + k)) ≡ 0 = sum_to-zeros m (λ k. f (suc i + k)) (λ k hk. zeros (suc i + k) (omega arith) (omega arith)) in
    ap (λ c. sum_to c f) e ∙ sum_to-split (suc i) m f ∙ ap (λ s. sum_to (suc i) f + s) past ∙ (let z : sum_to (suc i) f + 0 ≡ sum_to (suc i) f = omega arith in z) ∙ sum_to-suc i f

-- a sum whose terms before i are 0
pub sum_to-from : (n i : ℕ) (f : ℕ → ℕ) → i < n → ((k : ℕ) → k < i → f k ≡ 0) → sum_to n f ≡ f i + sum_to (n - 1 - i) (λ k. f (i + 1 + k))
sum_to-from n i f h zeros =
    let m = n - 1 - i in
    let e : n ≡ i + suc m = omega arith in
    let none : sum_to i f ≡ 0 = sum_to-zeros i f zeros in
    let first : f (i + 0) ≡ f i = ap f (let z : i + 0 ≡ i = omega arith in z) in
    let rest : sum_to m (λ k. f (i + suc k)) ≡ sum_to m (λ k. f (i + 1 + k)) =
    sum_to-same m (λ k. f (i + suc k)) (λ k. f (i + 1 + k)) (λ k _. ap f (let z : i + suc k ≡ i + 1 + k = omega arith in z)) in
    ap (λ c. sum_to c f) e ∙ sum_to-split i (suc m) f ∙ ap (λ s. s + sum_to (suc m) (λ k. f (i + k))) none
    ∙ (let z : 0 + sum_to (suc m) (λ k. f (i + k)) ≡ sum_to (suc m) (λ k. f (i + k)) = omega arith in z)
    ∙ sum_to-first m (λ k. f (i + k)) ∙ ap (λ s. s + sum_to m (λ k. f (i + suc k))) first ∙ ap (λ s. f i + s) rest

-- dividing by a diagonal word and multiplying by it gives a word back
pub record Divides (p : ℕ) (inverse : ℕ → ℕ) (unit : Bool) (d : ℕ) : Type 0 where
  pub back : (x : ℕ) → (diagonal_word unit d * divided p inverse unit d (x % p)) % p ≡ x % p

pub divides-one : (p : ℕ) (inverse : ℕ → ℕ) (d : ℕ) → Divides p inverse true d
divides-one p inverse d = record { back = λ x. ap (λ n. n % p) (let e : 1 * (x % p) ≡ x % p = omega arith in e) ∙ mod-mod x p }

pub divides-word : (p : ℕ) (inverse : ℕ → ℕ) (d : ℕ) → Inverts p inverse → d ≢ 0 → d < p → Divides p inverse false d
divides-word p inverse d inverts some below =
    record {
      back = λ x.
          mul-mod_second d (x % p * inverse d) p
          ∙ ap (λ n. n % p) (let e : d * (x % p * inverse d) ≡ x % p * (d * inverse d) = omega arith in e)
          ∙ sym (mul-mod_second (x % p) (d * inverse d) p)
          ∙ ap (λ n. (x % p * n) % p) (inverts.product d some below)
          ∙ ap (λ n. n % p) (let e : x % p * 1 ≡ x % p = omega arith in e) ∙ mod-mod x p;
    }

-- what was taken off comes back
row_meets : (p b s z : ℕ) → 0 < p → z % p ≡ (b + (p - 1) * s) % p → (s + z) % p ≡ b % p
row_meets p b s z pos_p e =
    same_sum p s s z (b + (p - 1) * s) refl e
    ∙ (let one : (p - 1) + 1 ≡ p = omega arith in
    let ps : ((p - 1) + 1) * s ≡ p * s = ap (λ n. n * s) one in
    same_mod p (s + (b + (p - 1) * s)) b 0 s (omega arith))

-- the lower solution meets its triangle
pub lower-meets : (p : ℕ) (inverse : ℕ → ℕ) (unit : Bool) (l : ℕ → ℕ → ℕ) (b : ℕ → ℕ) (n i : ℕ) → 0 < p → i < n → Divides p inverse unit (l i i) → sum_to n (λ k. triangle_word true unit l i k * solution p inverse unit l b k) % p ≡ b i % p
lower-meets p inverse unit l b n i pos_p h divides =
    let y : ℕ → ℕ = solution p inverse unit l b in
    let s = sum_to i (λ k. l i k * y k) in
    let whole : sum_to n (λ k. triangle_word true unit l i k * y k) ≡ s + diagonal_word unit (l i i) * y i =
    sum_to-through n i (λ k. triangle_word true unit l i k * y k) h (λ k h1 h2. ap (λ x. x * y k) (triangle-right unit l i k h1) ∙ (let z : 0 * y k ≡ 0 = omega arith in z))
    ∙ ap (λ x. x + triangle_word true unit l i i * y i)
    (sum_to-same i (λ k. triangle_word true unit l i k * y k) (λ k. l i k * y k) (λ k hk. ap (λ x. x * y k) (triangle-under unit l i k hk)))
    ∙ ap (λ x. s + x * y i) (triangle-diagonal true unit l i) in
    ap (λ x. x % p) whole
    ∙ row_meets p (b i) s (diagonal_word unit (l i i) * y i) pos_p
    (ap (λ x. (diagonal_word unit (l i i) * x) % p) (solution-equation p inverse unit l b i) ∙ divides.back (b i + (p - 1) * s))

-- and the upper solution meets its
pub upper-meets : (p : ℕ) (inverse : ℕ → ℕ) (unit : Bool) (u : ℕ → ℕ → ℕ) (b : ℕ → ℕ) (n i : ℕ) → 0 < p → i < n → Divides p inverse unit (u i i) → sum_to n (λ k. triangle_word false unit u i k * upper_solution p inverse unit n u b k) % p ≡ b i % p
upper-meets p inverse unit u b n i pos_p h divides =
    let y : ℕ → ℕ = upper_solution p inverse unit n u b in
    let s = sum_to (n - 1 - i) (λ k. u i (i + 1 + k) * y (i + 1 + k)) in
    let whole : sum_to n (λ k. triangle_word false unit u i k * y k) ≡ diagonal_word unit (u i i) * y i + s =
    sum_to-from n i (λ k. triangle_word false unit u i k * y k) h (λ k h1. ap (λ x. x * y k) (triangle-left unit u i k h1) ∙ (let z : 0 * y k ≡ 0 = omega arith in z))
    ∙ ap (λ x. triangle_word false unit u i i * y i + x)
    (sum_to-same (n - 1 - i) (λ k. triangle_word false unit u i (i + 1 + k) * y (i + 1 + k)) (λ k. u i (i + 1 + k) * y (i + 1 + k))
    (λ k hk. ap (λ x. x * y (i + 1 + k)) (triangle-over unit u i (i + 1 + k) (omega arith))))
    ∙ ap (λ x. x * y i + s) (triangle-diagonal false unit u i) in
    ap (λ x. x % p) (whole ∙ (let z : diagonal_word unit (u i i) * y i + s ≡ s + diagonal_word unit (u i i) * y i = omega arith in z))
    ∙ row_meets p (b i) s (diagonal_word unit (u i i) * y i) pos_p
    (ap (λ x. (diagonal_word unit (u i i) * x) % p) (upper_solution-equation p inverse unit n u b i h) ∙ divides.back (b i + (p - 1) * s))
