use Rattle.std.proofs.Common.{◌≡◌, ℕ, zero, suc, ◌+◌, ◌-◌, ◌*◌, ◌%◌, ◌<◌, refl, sym, ◌∙◌, ap, arith, add-one}
use Rattle.std.proofs.Math.Nat.{add-mod, mod-mod}
use Rattle.field_core.specs.Sums.{sum_to}

pub sum_to-none : (f : ℕ → ℕ) → sum_to 0 f ≡ 0
unfolding sum_to
sum_to-none f = refl

pub sum_to-suc : (n : ℕ) (f : ℕ → ℕ) → sum_to (suc n) f ≡ sum_to n f + f n
unfolding sum_to
sum_to-suc n f = refl

pub sum_to-more : (n : ℕ) (f : ℕ → ℕ) → sum_to (n + 1) f ≡ sum_to n f + f n
sum_to-more n f = rw add-one (sum_to-suc n f)

pub sum_to-same : (n : ℕ) (f g : ℕ → ℕ) → ((k : ℕ) → k < n → f k ≡ g k) → sum_to n f ≡ sum_to n g
sum_to-same zero f g same = sum_to-none f ∙ sym (sum_to-none g)
sum_to-same (suc n) f g same =
    let before : sum_to n f ≡ sum_to n g = sum_to-same n f g (λ k h. same k (omega arith)) in
    let last : f n ≡ g n = same n (omega arith) in
    rw (sum_to-suc n f, sum_to-suc n g) (omega arith)

pub sum_to-add : (n : ℕ) (f g : ℕ → ℕ) → sum_to n (λ k. f k + g k) ≡ sum_to n f + sum_to n g
sum_to-add zero f g = omega (arith, sum_to-none (λ k. f k + g k), sum_to-none f, sum_to-none g)
sum_to-add (suc n) f g = omega (arith, sum_to-suc n (λ k. f k + g k), sum_to-suc n f, sum_to-suc n g, sum_to-add n f g)

pub sum_to-scale : (n c : ℕ) (f : ℕ → ℕ) → sum_to n (λ k. c * f k) ≡ c * sum_to n f
sum_to-scale zero c f = omega (arith, sum_to-none (λ k. c * f k), ap (λ s. c * s) (sum_to-none f))
sum_to-scale (suc n) c f = omega (arith, sum_to-suc n (λ k. c * f k), ap (λ s. c * s) (sum_to-suc n f), sum_to-scale n c f)

pub sum_to-zero : (n : ℕ) → sum_to n (λ k. 0) ≡ 0
sum_to-zero zero = sum_to-none (λ k. 0)
sum_to-zero (suc n) = omega (arith, sum_to-suc n (λ k. 0), sum_to-zero n)

-- two sums, one inside the other, change places
pub sum_to-swap : (m n : ℕ) (f : ℕ → ℕ → ℕ) → sum_to m (λ i. sum_to n (λ j. f i j)) ≡ sum_to n (λ j. sum_to m (λ i. f i j))
sum_to-swap zero n f =
    sum_to-none (λ i. sum_to n (λ j. f i j)) ∙ sym (sum_to-same n (λ j. sum_to 0 (λ i. f i j)) (λ j. 0) (λ j _. sum_to-none (λ i. f i j)) ∙ sum_to-zero n)
sum_to-swap (suc m) n f =
    sum_to-suc m (λ i. sum_to n (λ j. f i j)) ∙ ap (λ s. s + sum_to n (λ j. f m j)) (sum_to-swap m n f)
    ∙ sym (sum_to-add n (λ j. sum_to m (λ i. f i j)) (λ j. f m j))
    ∙ sum_to-same n (λ j. sum_to m (λ i. f i j) + f m j) (λ j. sum_to (suc m) (λ i. f i j)) (λ j _. sym (sum_to-suc m (λ i. f i j)))

-- a sum in two pieces
pub sum_to-split : (m n : ℕ) (f : ℕ → ℕ) → sum_to (m + n) f ≡ sum_to m f + sum_to n (λ k. f (m + k))
sum_to-split m zero f = (let e : m + zero ≡ m = omega arith in rw e (omega (arith, sum_to-none (λ k. f (m + k)))))
sum_to-split m (suc n) f =
    (let e : m + suc n ≡ suc (m + n) = omega arith in
    rw e (omega (arith, sum_to-suc (m + n) f, sum_to-split m n f, sum_to-suc n (λ k. f (m + k)))))

-- the first term taken out
pub sum_to-first : (n : ℕ) (f : ℕ → ℕ) → sum_to (suc n) f ≡ f 0 + sum_to n (λ k. f (suc k))
sum_to-first zero f = omega (arith, sum_to-suc 0 f, sum_to-none f, sum_to-none (λ k. f (suc k)))
sum_to-first (suc n) f = omega (arith, sum_to-suc (suc n) f, sum_to-first n f, sum_to-suc n (λ k. f (suc k)))

-- the terms in the other order
pub sum_to-reversed : (n : ℕ) (f : ℕ → ℕ) → sum_to n (λ k. f (n - 1 - k)) ≡ sum_to n f
sum_to-reversed zero f = sum_to-none (λ k. f (0 - 1 - k)) ∙ sym (sum_to-none f)
sum_to-reversed (suc n) f =
    let last : suc n - 1 - 0 ≡ n = omega arith in
    let rest : sum_to n (λ k. f (suc n - 1 - suc k)) ≡ sum_to n (λ k. f (n - 1 - k)) =
    sum_to-same n (λ k. f (suc n - 1 - suc k)) (λ k. f (n - 1 - k)) (λ k h. ap f (let e : suc n - 1 - suc k ≡ n - 1 - k = omega arith in e)) in
    omega (arith, sum_to-first n (λ k. f (suc n - 1 - k)), ap f last, rest, sum_to-reversed n f, sum_to-suc n f)

-- a sum block by block
pub sum_to-blocks : (q b : ℕ) (f : ℕ → ℕ) → sum_to (q * b) f ≡ sum_to q (λ j. sum_to b (λ k. f (j * b + k)))
sum_to-blocks zero b f = (let e : zero * b ≡ 0 = omega arith in rw e (sum_to-none f ∙ sym (sum_to-none (λ j. sum_to b (λ k. f (j * b + k))))))
sum_to-blocks (suc q) b f =
    (let e : suc q * b ≡ q * b + b = omega arith in
    rw e (omega (arith, sum_to-split (q * b) b f, sum_to-blocks q b f, sum_to-suc q (λ j. sum_to b (λ k. f (j * b + k))))))

-- residues of the terms give the residue of the sum
pub sum_to-mod : (p n : ℕ) (f : ℕ → ℕ) → sum_to n (λ k. f k % p) % p ≡ sum_to n f % p
sum_to-mod p zero f = ap (λ s. s % p) (sum_to-none (λ k. f k % p) ∙ sym (sum_to-none f))
sum_to-mod p (suc n) f =
    ap (λ s. s % p) (sum_to-suc n (λ k. f k % p)) ∙ add-mod (sum_to n (λ k. f k % p)) (f n % p) p
    ∙ ap (λ s. (s + f n % p % p) % p) (sum_to-mod p n f) ∙ ap (λ s. (sum_to n f % p + s) % p) (mod-mod (f n) p)
    ∙ sym (add-mod (sum_to n f) (f n) p) ∙ sym (ap (λ s. s % p) (sum_to-suc n f))

-- terms of one residue give sums of one residue
pub sum_to-same_mod : (p n : ℕ) (f g : ℕ → ℕ) → ((k : ℕ) → k < n → f k % p ≡ g k % p) → sum_to n f % p ≡ sum_to n g % p
sum_to-same_mod p n f g same =
    sym (sum_to-mod p n f) ∙ ap (λ s. s % p) (sum_to-same n (λ k. f k % p) (λ k. g k % p) same) ∙ sum_to-mod p n g
